use Rattle.std.proofs.Common.{ap, ◌∙◌}
use lib.Bits.{bit_or}
use Rattle.std.proofs.lemmas.Nat.{one_shl}
use Rattle.freespace.specs.Bits.{bit_at}
use Rattle.freespace.proofs.BitLaws.{or_bit}
use Rattle.freespace.proofs.bits.with_bit.Goals as goal

pub returns : goal.returns
returns c j = ap (λ v. bit_at (bit_or c.args.b v) j) (one_shl c.args.k 8 c.requires) ∙ or_bit c.args.b c.args.k j
