use Rattle.std.proofs.Common.{◌≡◌, ℕ, ◌<◌, Bool, true, false, cond, eqb, refl, arith, rules}
use Rattle.freespace.proofs.Counts.{counted_le, counted_added, changed_below}
use Rattle.plain.specs.Members.{listed}
use Rattle.plain.proofs.MemberLaws.{listed_pushed}
use Rattle.plain.proofs.number_list.NumberListSectorAllocator.give.Goals as goal

pub push_reserved-requires : goal.push_reserved-requires
push_reserved-requires c =
    let k = c.args.self.now in
    let n = c.args.n in
    let old = listed k.members.items in
    let new : ℕ → Bool = λ m. cond (eqb m n) true (old m) in
    let off : old n ≡ false = search rules in
    let more = counted_added old new n k.sectors (λ m. refl) (omega arith) off in
    omega (arith, more, counted_le new k.sectors, k.tally, k.small, k.room)

pub invariant_of-self : goal.invariant_of-self
invariant_of-self c =
    let k = c.args.self.now in
    let n = c.args.n in
    let old = listed k.members.items in
    let new = listed c.push_reserved.new.self.items in
    let is = listed_pushed k.members.items c.push_reserved.new.self.items n c.push_reserved.ensures.items in
    let within : n < k.sectors = omega arith in
    let off : old n ≡ false = search rules in
    let more = counted_added old new n k.sectors is within off in
    let most = counted_le new k.sectors in
    record {
      room = omega (arith, k.room, c.push_reserved.ensures.capacity);
      small = k.small;
      few = omega (arith, k.tally, c.push_reserved.ensures.len);
      below = changed_below old new n true is k.sectors within k.below;
      tally = omega (arith, k.tally, c.push_reserved.ensures.len);
    }
