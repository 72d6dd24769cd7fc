use Rattle.std.proofs.Common.{◌/◌, ◌<◌, false, cond, eqb, length, set, refl, arith}
use Rattle.freespace.specs.Bits.{bit_of}
use Rattle.freespace.proofs.Counts.{counted_removed, changed_below}
use Rattle.freespace.proofs.BitLaws.{bits_set}
use Rattle.freespace.proofs.bit_map.BitMap.remove.Goals as goal

pub overflow_sub-self : goal.overflow_sub-self
overflow_sub-self c =
    let k = c.args.self.now in
    let n = c.args.n in
    let old = bit_of k.bits in
    omega (arith, k.tally, counted_removed old (λ m. cond (eqb m n) false (old m)) n k.sectors (λ m. refl) (k.below n c.requires) c.requires)

pub invariant_of-self : goal.invariant_of-self
invariant_of-self c =
    let k = c.args.self.now in
    let n = c.args.n in
    let b = c.without_bit.result in
    let in' = k.below n c.requires in
    let at : n / 8 < length k.bits = omega (arith, k.small) in
    let is = bits_set k.bits n b false at c.without_bit.ensures in
    let old = bit_of k.bits in
    let new = bit_of (set k.bits (n / 8) b) in
    record {
      small = k.small;
      below = changed_below old new n false is k.sectors in' k.below;
      tally = omega (arith, k.tally, counted_removed old new n k.sectors is in' c.requires);
    }
