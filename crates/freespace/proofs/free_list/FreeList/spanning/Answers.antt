use Rattle.std.proofs.Common.{◌≡◌, ℕ, ◌+◌, ltb, set, sym, ap, ◌∙◌, arith, get_or-set_other, get_or-set_same}
use Rattle.freespace.specs.Links.{link, linked}
use Rattle.freespace.proofs.Counts.{counted_none}
use Rattle.freespace.proofs.LinkLaws.{chained_none}
use Rattle.freespace.proofs.free_list.FreeList.spanning.Goals as goal

pub invariant_of-result : goal.invariant_of-result
invariant_of-result c =
    let s = c.args.sectors in
    let none = c.no_links-next.result in
    let next = set none 0 (s + 1) in
    let rest : (p : ℕ) → (p ≡ 0 → ⊥) → link next p ≡ 0 = λ p ne. get_or-set_other none 0 p (s + 1) 0 ne ∙ c.no_links-next.ensures p in
    record {
      small = c.requires;
      chain = chained_none (link next) s (get_or-set_same none 0 (s + 1) 0 (omega arith)) rest;
      tally = sym (counted_none (linked next) s (λ n. ap (ltb 0) (rest (n + 1) (λ e. omega arith))));
    }
