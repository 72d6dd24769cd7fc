-- Laws of `counted`.
use Rattle.std.proofs.Common.{◌≡◌, ℕ, zero, suc, ◌+◌, ◌<◌, ◌≤◌, Bool, true, false, cond, eqb, sym, refl, ◌∙◌, ⊎_elim, arith}
use Rattle.std.proofs.lemmas.Bool.{cases_eq, eq-eqb, ne_eqb, cond-true, cond-false}
use Rattle.std.proofs.lemmas.Bool.Decides.{nat_tests}
use Rattle.freespace.specs.Sets.{counted}

pub counted_le : (f : ℕ → Bool) (s : ℕ) → counted f s ≤ s
counted_le f zero = omega arith
counted_le f (suc s) = let h = counted_le f s in grind (arith, nat_tests)

pub counted_none : (f : ℕ → Bool) (s : ℕ) → ((n : ℕ) → f n ≡ false) → counted f s ≡ 0
counted_none f zero h = refl
counted_none f (suc s) h = let e = counted_none f s h in let k = h s in grind (arith, nat_tests)

pub counted_same : (f g : ℕ → Bool) (s : ℕ) → ((n : ℕ) → n < s → g n ≡ f n) → counted g s ≡ counted f s
counted_same f g zero h = refl
counted_same f g (suc s) h =
    let e = counted_same f g s (λ n l. h n (omega arith)) in
    let k : g s ≡ f s = h s (omega arith) in
    grind (arith, nat_tests)

-- g is f with n
pub counted_more : (f g : ℕ → Bool) (n s : ℕ) → n < s → f n ≡ false → g n ≡ true → ((m : ℕ) → (m ≡ n → ⊥) → g m ≡ f m) → counted g s ≡ counted f s + 1
counted_more f g n zero l off on other = absurd (omega arith)
counted_more f g n (suc s) l off on other =
    ⊎_elim
    (λ (e : s ≡ n).
    let same : counted g s ≡ counted f s = counted_same f g s (λ m k. other m (λ q. omega arith)) in
    let a : f s ≡ false = rw e off in
    let b : g s ≡ true = rw e on in
    grind (arith, nat_tests))
    (λ (ne : s ≡ n → ⊥).
    let k : g s ≡ f s = other s ne in
    let more : counted g s ≡ counted f s + 1 = counted_more f g n s (omega arith) off on other in
    grind (arith, nat_tests))
    (cases_eq s n)

-- g is f, but v at n
module _ (f g : ℕ → Bool) (n : ℕ) (v : Bool) (is : (m : ℕ) → g m ≡ cond (eqb m n) v (f m)) where
  changed_here : g n ≡ v
  changed_here = is n ∙ cond-true (eqb n n) v (f n) (eq-eqb n n refl)

  changed_other : (m : ℕ) → (m ≡ n → ⊥) → g m ≡ f m
  changed_other m ne = is m ∙ cond-false (eqb m n) v (f m) (ne_eqb m n ne)

  pub changed_below : (s : ℕ) → n < s → ((m : ℕ) → f m ≡ true → m < s) → (m : ℕ) → g m ≡ true → m < s
  changed_below s l h m e = ⊎_elim (λ (q : m ≡ n). omega arith) (λ (ne : m ≡ n → ⊥). h m (sym (changed_other m ne) ∙ e)) (cases_eq m n)

pub counted_added : (f g : ℕ → Bool) (n s : ℕ) → ((m : ℕ) → g m ≡ cond (eqb m n) true (f m)) → n < s → f n ≡ false → counted g s ≡ counted f s + 1
counted_added f g n s is l off = counted_more f g n s l off (changed_here f g n true is) (changed_other f g n true is)

pub counted_removed : (f g : ℕ → Bool) (n s : ℕ) → ((m : ℕ) → g m ≡ cond (eqb m n) false (f m)) → n < s → f n ≡ true → counted f s ≡ counted g s + 1
counted_removed f g n s is l on = counted_more g f n s l (changed_here f g n false is) on (λ m ne. sym (changed_other f g n false is m ne))
