use Rattle.std.proofs.Common.{◌≡◌, ℕ, ◌<◌, ◌≤◌, Bool, true, false, Option, None, Some, MatchOption, ⊎_elim, arith, rules}
use Rattle.std.proofs.lemmas.Bool.{cases_Bool}
use Rattle.std.proofs.lemmas.Iterator.{first_from_Range}
use Rattle.freespace.specs.Bits.{bit_of}
use Rattle.freespace.specs.Sets.{Picks}
use Rattle.freespace.proofs.bit_map.BitMap.first.Goals as goal

-- where none is found below the span, there is none
picked : (f : ℕ → Bool) (span : ℕ) (r : Option ℕ) → ((n : ℕ) → f n ≡ true → n < span)
    → MatchOption r ((n : ℕ) → 0 ≤ n → n < span → f n ≡ false) (λ n. (0 ≤ n) × (n < span) × (f n ≡ true) × ((k : ℕ) → 0 ≤ k → k < n → f k ≡ false))
    → Picks r f
picked f span None below off = λ n. ⊎_elim (λ (on : f n ≡ true). off n (omega arith) (below n on)) (λ (e : f n ≡ false). e) (cases_Bool (f n))
picked f span (Some n) below at = at.2

pub returns : goal.returns
returns c =
    let k = c.args.self.now in
    picked (bit_of k.bits) k.sectors c.find.result k.below
    (first_from_Range _ _ _ _ (λ n. bit_of k.bits n ≡ true) (λ n. bit_of k.bits n ≡ false) c.find.ensures.ran
    (λ n q e. search rules) (λ n q e. search rules))
