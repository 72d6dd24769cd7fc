-- What an accepted step of a reading tells.
use Rattle.device.specs.declared.fault.Code.{Code}
use Rattle.std.proofs.Common.{◌≡◌, ℕ, suc, ◌+◌, ◌^◌, ◌<◌, ◌≤◌, Bool, true, false, cond, eqb, ◌⊎◌, List, [], ◌∷◌, ◌++◌, length, replicate, sym, refl, subst, inl, inr, ⊎_elim, arith, lit<}
use Rattle.std.specs.List.{AllByRecursion}
use Rattle.std.proofs.lemmas.List.{get_or-replicate, get_or_past}
use Rattle.std.proofs.ByRecursion.{All-get_or, All-from_get_or, All-weaker}
use Rattle.std.proofs.lemmas.Bool.{and_parts, eqb-true, or_parts, or_from, cases_lt, cases_eq}
use Rattle.device.specs.declared.sector.Sector.{Sector}
use Rattle.device.specs.Device.{blank, WellFormed}
use Rattle.chains.specs.Layout.{Disk, sector, member}
use Rattle.chains.specs.Reading.{Found, fault, read, then, must, zeros, sector_at}
use Rattle.rules.proofs.Addresses.{differs}

-- ---- the steps

fault_is_not_read : {A : Type 0} {c n : ℕ} {x : A} → ◌≡◌ {A = Found A} (fault c n) (read x) → ⊥
fault_is_not_read e = let z : ◌≡◌ {A = ℕ} 0 1 = cc in omega arith

pub read_same : {A : Type 0} {x y : A} → ◌≡◌ {A = Found A} (read x) (read y) → x ≡ y
read_same e = cc

pub must_tells : {A : Type 0} (b : Bool) (c : Code) (n : ℕ) (k : Found A) {x : A} → must b c n k ≡ read x → (b ≡ true) × (k ≡ read x)
must_tells true c n k e = (refl, e)
must_tells false c n k e = absurd (fault_is_not_read e)

pub then_tells : {A B : Type 0} (m : Found A) (f : A → Found B) {y : B} → then m f ≡ read y → (x : A) × (m ≡ read x) × (f x ≡ read y)
then_tells (fault c n) f e = absurd (fault_is_not_read e)
then_tells (read x) f e = (x, refl, e)

pub cond_tells : {A : Type 0} (b : Bool) (x y z : A) → cond b x y ≡ z → ((b ≡ true) × (x ≡ z)) ⊎ ((b ≡ false) × (y ≡ z))
cond_tells true x y z e = inl (refl, e)
cond_tells false x y z e = inr (refl, e)

-- what holds here and from the next on
pub from_here : (P : ℕ → Type 0) (a n : ℕ) → P a → ((j : ℕ) → a + 1 ≤ j → j < a + 1 + n → P j) → (j : ℕ) → a ≤ j → j < a + suc n → P j
from_here P a n here rest j p q = ⊎_elim (λ (e : j ≡ a). subst P (sym e) here) (λ (ne : j ≡ a → ⊥). rest j (omega arith) (omega arith)) (cases_eq j a)

-- ---- bytes and numbers

pub zeros_are : (xs : List ℕ) → zeros xs ≡ true → xs ≡ replicate (length xs) 0
zeros_are [] e = refl
zeros_are (x ∷ xs) e =
    let h = and_parts (eqb x 0) (zeros xs) e in
    let p = eqb-true x 0 h.0 in
    let q = zeros_are xs h.1 in
    cc

-- numbers outside a list do not hold what is in it
pub absent : (x : ℕ) (xs ns : List ℕ) → AllByRecursion (λ n. member n (x ∷ xs) ≡ false) ns → member x ns ≡ false
absent x xs [] h = refl
absent x xs (n ∷ ns) h = or_from (eqb x n) (member x ns) (differs x n (or_parts (eqb n x) (member n xs) h.0).0) (absent x xs ns h.1)

pub outside_rest : (x : ℕ) (xs ns : List ℕ) → AllByRecursion (λ n. member n (x ∷ xs) ≡ false) ns → AllByRecursion (λ n. member n xs ≡ false) ns
outside_rest x xs = All-weaker (λ n. member n (x ∷ xs) ≡ false) (λ n. member n xs ≡ false) (λ n e. (or_parts (eqb n x) (member n xs) e).1)

pub all_absent : (xs ys ns : List ℕ) → AllByRecursion (λ n. member n (xs ++ ys) ≡ false) ns → AllByRecursion (λ n. member n ns ≡ false) xs
all_absent [] ys ns h = tt
all_absent (x ∷ xs) ys ns h = (absent x (xs ++ ys) ns h, all_absent xs ys ns (outside_rest x (xs ++ ys) ns h))

-- ---- sectors

pub with_links : (s : Sector) {b f : ℕ} → s.back ≡ b → s.forward ≡ f → s ≡ sector s.bytes b f
with_links s p q = λ i. record { bytes = s.bytes; back = p i; forward = q i }

blank_whole : WellFormed blank
unfolding blank
blank_whole = record { count = refl; bytes = All-from_get_or (λ b. b < 2 ^ 8) (replicate 128 0) 0 (λ i h. rw (get_or-replicate {A = ℕ} 128 i 0 0 h) (lit< tt)); back = omega arith; forward = omega arith }

pub whole_at : (ss : Disk) → AllByRecursion WellFormed ss → (n : ℕ) → WellFormed (sector_at ss n)
whole_at ss w n = ⊎_elim (λ (l : n < length ss). All-get_or WellFormed ss n blank l w) (λ (l : length ss ≤ n). rw (get_or_past ss n blank l) blank_whole) (cases_lt n (length ss))
