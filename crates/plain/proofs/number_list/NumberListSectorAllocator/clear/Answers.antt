use Rattle.std.proofs.Common.{◌≡◌, ℕ, false, sym, ap, ◌∙◌, arith}
use Rattle.std.proofs.lemmas.Bool.{both_ways}
use Rattle.freespace.proofs.Counts.{counted_none}
use Rattle.plain.specs.Members.{listed}
use Rattle.plain.proofs.number_list.NumberListSectorAllocator.clear.Goals as goal

pub invariant_of-self : goal.invariant_of-self
invariant_of-self c =
    let v = c.clear.new.self in
    let off : (n : ℕ) → listed v.items n ≡ false = λ n. ap (λ ys. listed ys n) c.clear.ensures.items in
    record {
      room = omega (arith, c.args.self.now.room);
      small = omega arith;
      few = omega arith;
      below = λ n on. absurd (both_ways (listed v.items n) (off n) on);
      tally = c.clear.ensures.len ∙ sym (counted_none (listed v.items) c.args.sectors off);
    }
