use Rattle.std.proofs.Common.{◌≡◌}
use Rattle.chains.proofs.MapBytes.{low_bits}
use Rattle.chains.proofs.map.byte_from.Given as goal

abbrev pub invariant-loop-k : goal.invariant-loop-k
invariant-loop-k g l = l.byte ≡ low_bits (g.M.Marks.marked l.marks) l.n l.k
