use Rattle.chains.proofs.Lookups.{Looking}
use Rattle.chains.proofs.lookup.look_up.Given as goal

abbrev pub invariant-loop-i : goal.invariant-loop-i
invariant-loop-i g l = Looking l.name (g.D.ReadingDevice.medium l.initial.device) (g.D.ReadingDevice.medium l.device) l.i l.lookup
