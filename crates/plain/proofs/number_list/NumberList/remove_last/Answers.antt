use Rattle.std.proofs.Common.{◌≡◌, ℕ, ◌+◌, ◌++◌, Option, MatchOption, option_to_list, Vec, vec_len, refl, arith}
use Rattle.plain.specs.declared.number_list.NumberList.{NumberList}
use Rattle.plain.proofs.MemberLaws.{Left, left}
use Rattle.plain.proofs.number_list.NumberList.remove_last.Goals as goal

popped : {Z : Type 0} (k : NumberList) (rest : Vec ℕ Z) (taken : Option ℕ)
    → k.members.items ≡ rest.items ++ option_to_list taken
    → MatchOption taken ((vec_len k.members ≡ 0) × (vec_len rest ≡ 0)) (λ n. vec_len rest + 1 ≡ vec_len k.members)
    → Left k.members.items rest.items taken k.sectors
popped k rest taken split cases = left k.members.items rest.items taken k.sectors split (rw (← k.members.ok.0, ← rest.ok.0) cases) k.below (omega (arith, k.members.ok.0, k.tally))

pub invariant_of-self : goal.invariant_of-self
invariant_of-self c =
    let k = c.args.self.now in
    let e = c.pop.ensures in
    let rest = popped k c.pop.new.self c.pop.result e.items e.cases in
    record {
      room = omega (arith, k.room, e.capacity);
      small = k.small;
      few = omega (arith, k.few, e.len);
      below = rest.below;
      tally = omega (arith, rest.tally, c.pop.new.self.ok.0);
    }

pub returns : goal.returns
returns c =
    let rest = popped c.args.self.now c.pop.new.self c.pop.result c.pop.ensures.items c.pop.ensures.cases in
    record { picks = rest.picks; spans = refl; after = rest.after }
