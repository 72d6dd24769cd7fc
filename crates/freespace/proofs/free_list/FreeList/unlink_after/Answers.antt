use Rattle.std.proofs.Common.{◌≡◌, ℕ, ◌+◌, ◌-◌, ◌<◌, ◌≤◌, false, List, length, set, ◌∙◌, arith}
use Rattle.freespace.specs.declared.free_list.FreeList.{FreeList}
use Rattle.freespace.specs.Links.{link, linked}
use Rattle.freespace.specs.Sets.{counted}
use Rattle.freespace.proofs.Counts.{counted_removed}
use Rattle.freespace.proofs.LinkLaws.{Changed, unlinked}
use Rattle.freespace.proofs.free_list.FreeList.unlink_after.Goals as goal

-- the table after the place that follows p is unlinked
abbrev after : List ℕ → ℕ → List ℕ
after next p = set (set next p (link next (link next p))) (link next p) 0

module _ (k : FreeList) (p : ℕ) (long : k.sectors < length k.next) (on : 0 < link k.next p) (in' : link k.next p ≤ k.sectors) where
  done : Changed k.next (after k.next p) k.sectors (link k.next p - 1) false
  done = unlinked k.next k.sectors k.chain long p on in'

  tallied : k.members ≡ counted (linked (after k.next p)) k.sectors + 1
  tallied =
      k.tally
      ∙ counted_removed (linked k.next) (linked (after k.next p)) (link k.next p - 1) k.sectors done.is (omega arith) done.was

pub overflow_sub-self : goal.overflow_sub-self
overflow_sub-self c = omega (arith, tallied c.args.self.now c.args.before (omega (arith, c.args.self.now.small)) c.requires.0 c.requires.1)

pub invariant_of-self : goal.invariant_of-self
invariant_of-self c =
    let k = c.args.self.now in
    let p = c.args.before in
    let mid = set k.next p (link k.next (link k.next p)) in
    record {
      small = k.small;
      chain = (done k p (omega (arith, k.small)) c.requires.0 c.requires.1).chain;
      tally = omega (arith, tallied k p (omega (arith, k.small)) c.requires.0 c.requires.1);
    }
