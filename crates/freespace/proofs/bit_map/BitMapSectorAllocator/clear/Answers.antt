use Rattle.std.proofs.Common.{sym, arith}
use Rattle.std.proofs.lemmas.Bool.{both_ways}
use Rattle.freespace.specs.Bits.{bit_of}
use Rattle.freespace.proofs.Counts.{counted_none}
use Rattle.freespace.proofs.bit_map.BitMapSectorAllocator.clear.Goals as goal

pub invariant_of-self : goal.invariant_of-self
invariant_of-self c =
    let bits = c.no_bytes-self.result in
    let off = c.no_bytes-self.ensures in
    record {
      small = omega arith;
      below = λ n on. absurd (both_ways (bit_of bits n) (off n) on);
      tally = sym (counted_none (bit_of bits) c.args.sectors off);
    }
