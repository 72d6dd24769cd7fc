use Rattle.std.proofs.Common.{ap, ◌∙◌}
use lib.Bits.{bit_xor}
use Rattle.std.proofs.lemmas.Nat.{one_shl}
use Rattle.freespace.specs.Bits.{bit_at}
use Rattle.freespace.proofs.BitLaws.{xor_bit}
use Rattle.freespace.proofs.bits.without_bit.Goals as goal

pub returns : goal.returns
returns c j = ap (λ v. bit_at (bit_xor c.args.b v) j) (one_shl c.args.k 8 c.requires.0) ∙ xor_bit c.args.b c.args.k c.requires.1 j
