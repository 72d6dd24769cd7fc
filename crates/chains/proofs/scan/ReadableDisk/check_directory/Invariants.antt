use Rattle.std.proofs.Common.{◌≡◌, ◌-◌}
use Rattle.chains.specs.Scans.{Keeps, disk_of}
use Rattle.chains.specs.Survey.{directory_on}
use Rattle.chains.proofs.scan.ReadableDisk.check_directory.Given as goal

-- what is left gives the whole
abbrev pub invariant-loop-i : goal.invariant-loop-i
invariant-loop-i g l =
    let ss = disk_of l.initial.self in
    Keeps l.initial.self l.self ×
    (directory_on ss (32 - l.i) l.i ≡ directory_on ss 32 0)
