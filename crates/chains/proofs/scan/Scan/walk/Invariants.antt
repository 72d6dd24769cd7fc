use Rattle.std.proofs.Common.{◌≡◌, ◌-◌}
use Rattle.freespace.specs.Bits.{bit_of}
use Rattle.chains.specs.Scans.{Keeps, disk_of}
use Rattle.chains.specs.Survey.{walk_on}
use Rattle.chains.specs.Walks.{Leads}
use Rattle.chains.proofs.scan.Scan.walk.Given as goal

-- what is left gives the whole
abbrev pub invariant-loop : goal.invariant-loop
invariant-loop g l =
    let ss = disk_of l.initial.self.disk in
    Keeps l.initial.self.disk l.self.disk ×
    (l.self.names ≡ l.initial.self.names) ×
    Leads ss l.link ×
    (walk_on ss (bit_of l.self.met.bits) l.link.from (l.count - l.counter) ≡ walk_on ss (bit_of l.initial.self.met.bits) l.initial.link.from l.count)
