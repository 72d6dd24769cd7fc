use Rattle.std.proofs.Common.{◌≡◌, ◌-◌, length}
use Rattle.freespace.specs.Bits.{bit_of}
use Rattle.chains.specs.Scans.{Keeps, disk_of}
use Rattle.chains.specs.Survey.{map_on, to_be_marked}
use Rattle.chains.proofs.scan.ReadableDisk.check_map.Given as goal

-- what is left gives the whole
abbrev pub invariant-loop-j : goal.invariant-loop-j
invariant-loop-j g l =
    let ss = disk_of l.initial.self in
    let marks = to_be_marked (length ss) (bit_of l.met.bits) in
    Keeps l.initial.self l.self ×
    (map_on ss marks (3 - l.j) l.j ≡ map_on ss marks 3 0)
