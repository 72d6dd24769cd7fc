use Rattle.std.proofs.Common.{◌+◌, set, arith}
use Rattle.freespace.specs.Links.{link, linked}
use Rattle.freespace.proofs.Counts.{counted_le, counted_added}
use Rattle.freespace.proofs.LinkLaws.{linked_in}
use Rattle.freespace.proofs.free_list.FreeList.link_after.Goals as goal

pub overflow_add-self-3 : goal.overflow_add-self-3
overflow_add-self-3 c = let k = c.args.self.now in omega (arith, k.tally, k.small, counted_le (linked k.next) k.sectors)

pub invariant_of-self : goal.invariant_of-self
invariant_of-self c =
    let k = c.args.self.now in
    let p = c.args.before in
    let n = c.args.n in
    let done = linked_in k.next k.sectors k.chain (omega (arith, k.small)) p n c.requires.0 c.requires.1 in
    let mid = set k.next (n + 1) (link k.next p) in
    let new = set mid p (n + 1) in
    record {
      small = k.small;
      chain = done.chain;
      tally = omega (arith, k.tally, counted_added (linked k.next) (linked new) n k.sectors done.is (omega (arith, c.requires.1, k.chain.within p)) done.was);
    }
