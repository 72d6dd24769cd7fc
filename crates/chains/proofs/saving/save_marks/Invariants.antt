use Rattle.chains.proofs.Saves.{SavedFrom}
use Rattle.chains.proofs.saving.save_marks.Given as goal

abbrev pub invariant-loop-j : goal.invariant-loop-j
invariant-loop-j g l = SavedFrom (g.M.Marks.marked l.marks) l.j (g.D.ReadingDevice.medium l.initial.device) (g.D.ReadingDevice.medium l.device)
