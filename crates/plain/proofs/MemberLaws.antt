-- Laws of a list of members.
use Rattle.std.proofs.Common.{◌≡◌, ℕ, ◌+◌, ◌<◌, ◌≤◌, true, false, cond, eqb, List, [], ◌∷◌, Option, None, Some, MatchOption, option_to_list, ◌++◌, length, sym, refl, ap, ◌∙◌, ⊎_elim, arith}
use Rattle.std.proofs.lemmas.Bool.{both_ways, cases_eq, cases_lt, cases_Bool, eq-eqb, cond-true, cond-false, ne_eqb}
use Rattle.std.proofs.lemmas.Bool.Decides.{nat_tests}
use Rattle.std.proofs.lemmas.List.Folds.{list_any-append}
use Rattle.freespace.specs.Sets.{counted, without, Picks}
use Rattle.freespace.proofs.Counts.{counted_none, counted_same, counted_added, counted_removed, changed_below}
use Rattle.plain.specs.Members.{listed}

none_listed : (xs : List ℕ) → length xs ≡ 0 → (n : ℕ) → listed xs n ≡ false
none_listed [] e n = refl
none_listed (x ∷ xs) e n = absurd (omega arith)

listed_more : (xs : List ℕ) (x m : ℕ) → listed (x ∷ xs) m ≡ cond (eqb m x) true (listed xs m)
listed_more xs x m = grind (arith, nat_tests)

pub listed_pushed : (xs ys : List ℕ) (x : ℕ) → ys ≡ xs ++ x ∷ [] → (m : ℕ) → listed ys m ≡ cond (eqb m x) true (listed xs m)
listed_pushed xs ys x is m = let e = ap (λ zs. listed zs m) is ∙ list_any-append (λ k. eqb k m) xs (x ∷ []) in grind (arith, nat_tests)

listed_again : (xs : List ℕ) (x : ℕ) → listed xs x ≡ true → (m : ℕ) → cond (eqb m x) true (listed xs m) ≡ listed xs m
listed_again xs x on m =
    ⊎_elim
    (λ (e : m ≡ x). cond-true (eqb m x) true (listed xs m) (eq-eqb m x e) ∙ sym (ap (listed xs) e ∙ on))
    (λ (ne : m ≡ x → ⊥). cond-false (eqb m x) true (listed xs m) (ne_eqb m x ne))
    (cases_eq m x)

-- a list has at least as many elements as numbers
pub counted_listed : (xs : List ℕ) (s : ℕ) → counted (listed xs) s ≤ length xs
counted_listed [] s = let e = counted_none (listed []) s (λ n. refl) in omega arith
counted_listed (x ∷ xs) s =
    let rest = counted_listed xs s in
    ⊎_elim
    (λ (on : listed xs x ≡ true). let e = counted_same (listed xs) (listed (x ∷ xs)) s (λ n l. listed_more xs x n ∙ listed_again xs x on n) in omega arith)
    (λ (off : listed xs x ≡ false).
    ⊎_elim
    (λ (l : x < s). let e = counted_added (listed xs) (listed (x ∷ xs)) x s (listed_more xs x) l off in omega arith)
    (λ (l : s ≤ x).
    let e = counted_same (listed xs) (listed (x ∷ xs)) s (λ n k. listed_more xs x n ∙ cond-false (eqb n x) true (listed xs n) (ne_eqb n x (λ q. omega arith))) in
    omega arith)
    (cases_lt x s))
    (cases_Bool (listed xs x))

-- old is xs and then x, and has a number for each element
module _ (old xs : List ℕ) (x s : ℕ) (is : old ≡ xs ++ x ∷ []) (tally : length xs + 1 ≡ counted (listed old) s) where
  last_listed : listed old x ≡ true
  last_listed = listed_pushed xs old x is x ∙ cond-true (eqb x x) true (listed xs x) (eq-eqb x x refl)

  last_new : listed xs x ≡ false
  last_new =
      ⊎_elim
      (λ (on : listed xs x ≡ true).
      let e = counted_same (listed xs) (listed old) s (λ n l. listed_pushed xs old x is n ∙ listed_again xs x on n) in
      absurd (omega (arith, counted_listed xs s)))
      (λ (off : listed xs x ≡ false). off)
      (cases_Bool (listed xs x))

  last_removed : (m : ℕ) → listed xs m ≡ cond (eqb m x) false (listed old m)
  last_removed m =
      ⊎_elim
      (λ (e : m ≡ x). ap (listed xs) e ∙ last_new ∙ sym (cond-true (eqb m x) false (listed old m) (eq-eqb m x e)))
      (λ (ne : m ≡ x → ⊥).
      sym (cond-false (eqb m x) false (listed old m) (ne_eqb m x ne) ∙ listed_pushed xs old x is m ∙ cond-false (eqb m x) true (listed xs m) (ne_eqb m x ne)))
      (cases_eq m x)

-- what is left after the last element was taken, if there was one
pub record Left (old new : List ℕ) (taken : Option ℕ) (s : ℕ) : Type 0 where
  pub picks : Picks taken (listed old)
  pub after : (m : ℕ) → listed new m ≡ without taken (listed old) m
  pub below : (m : ℕ) → listed new m ≡ true → m < s
  pub tally : length new ≡ counted (listed new) s

pub left : (old new : List ℕ) (taken : Option ℕ) (s : ℕ)
    → old ≡ new ++ option_to_list taken
    → MatchOption taken ((length old ≡ 0) × (length new ≡ 0)) (λ n. length new + 1 ≡ length old)
    → ((m : ℕ) → listed old m ≡ true → m < s)
    → length old ≡ counted (listed old) s
    → Left old new taken s
left old new None s is none below tally =
    let off = none_listed new none.1 in
    record {
      picks = none_listed old none.0;
      after = λ m. off m ∙ sym (none_listed old none.0 m);
      below = λ m on. absurd (both_ways (listed new m) (off m) on);
      tally = none.1 ∙ sym (counted_none (listed new) s off);
    }
left old new (Some n) s is one below tally =
    let on = last_listed old new n s is (one ∙ tally) in
    let rest = last_removed old new n s is (one ∙ tally) in
    record {
      picks = on;
      after = rest;
      below = changed_below (listed old) (listed new) n false rest s (below n on) below;
      tally = omega (arith, tally, counted_removed (listed old) (listed new) n s rest (below n on) on);
    }
