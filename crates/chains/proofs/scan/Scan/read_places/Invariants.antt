use Rattle.std.proofs.Common.{◌≡◌, ◌-◌, ◌*◌, ◌≤◌}
use Rattle.arrayvec.specs.ArrayVec.{array_vec_len}
use Rattle.chains.specs.Scans.{Keeps, disk_of, seen_of}
use Rattle.chains.specs.Survey.{places_on}
use Rattle.chains.proofs.scan.Scan.read_places.Given as goal

-- what is left gives the whole
abbrev pub invariant-loop-i : goal.invariant-loop-i
invariant-loop-i g l =
    let ss = disk_of l.initial.self.disk in
    Keeps l.initial.self.disk l.self.disk ×
    (array_vec_len l.self.names ≤ 3 * l.i) ×
    (places_on ss (96 - 3 * l.i) (3 * l.i) (seen_of l.self) ≡ places_on ss 96 0 (seen_of l.initial.self))
