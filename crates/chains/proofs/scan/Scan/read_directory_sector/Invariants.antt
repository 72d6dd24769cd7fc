use Rattle.std.proofs.Common.{◌≡◌, ◌+◌, ◌-◌, ◌*◌, ◌≤◌}
use Rattle.arrayvec.specs.ArrayVec.{array_vec_len}
use Rattle.chains.specs.Scans.{Keeps, disk_of, seen_of}
use Rattle.chains.specs.Survey.{places_on}
use Rattle.chains.proofs.scan.Scan.read_directory_sector.Given as goal

-- what is left gives the whole
abbrev pub invariant-loop-place : goal.invariant-loop-place
invariant-loop-place g l =
    let ss = disk_of l.fn.self.disk in
    Keeps l.fn.self.disk l.self.disk ×
    (array_vec_len l.self.names ≤ array_vec_len l.fn.self.names + l.place-index) ×
    (places_on ss (3 - l.place-index) (3 * l.i + l.place-index) (seen_of l.self) ≡ places_on ss 3 (3 * l.i) (seen_of l.fn.self))
