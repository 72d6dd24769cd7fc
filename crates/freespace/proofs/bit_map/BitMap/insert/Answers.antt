use Rattle.std.proofs.Common.{◌/◌, ◌<◌, true, length, set, arith}
use Rattle.freespace.specs.Bits.{bit_of}
use Rattle.freespace.proofs.BitLaws.{bits_set}
use Rattle.freespace.proofs.Counts.{counted_le, counted_added, changed_below}
use Rattle.freespace.proofs.bit_map.BitMap.insert.Goals as goal

pub overflow_add-self : goal.overflow_add-self
overflow_add-self c = let k = c.args.self.now in omega (arith, k.tally, k.small, counted_le (bit_of k.bits) k.sectors)

pub invariant_of-self : goal.invariant_of-self
invariant_of-self c =
    let k = c.args.self.now in
    let n = c.args.n in
    let b = c.with_bit.result in
    let at : n / 8 < length k.bits = omega (arith, k.small) in
    let is = bits_set k.bits n b true at c.with_bit.ensures in
    let old = bit_of k.bits in
    let new = bit_of (set k.bits (n / 8) b) in
    record {
      small = k.small;
      below = changed_below old new n true is k.sectors c.requires.0 k.below;
      tally = omega (arith, k.tally, counted_added old new n k.sectors is c.requires.0 c.requires.1);
    }
