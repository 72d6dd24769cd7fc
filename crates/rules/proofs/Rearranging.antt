-- What two lists share that are rearrangements of each other.
use Rattle.std.proofs.Common.{◌≡◌, ℕ, suc, Bool, true, false, cond, ◌||◌, eqb, List, [], ◌∷◌, ◌++◌, map, length, is_some, Some, sum_by, filter, sym, refl, ap, ◌∙◌, arith}
use Rattle.std.specs.List.{AllByRecursion}
use Rattle.std.proofs.lemmas.Bool.{or_parts, or_from, and_parts, eqb-true, eq-eqb, both_ways}
use Rattle.std.proofs.lemmas.List.Sums.{sum_by-cons}
use Rattle.chains.specs.Names.{same}
use Rattle.rules.specs.Model.{File, find}
use Rattle.rules.specs.Matching.{Rearranged, none, keep, swap, join}

pub as_is : {A : Type 0} (xs : List A) → Rearranged xs xs
as_is [] = none
as_is (x ∷ xs) = keep x (as_is xs)

pub turned : {A : Type 0} {xs ys : List A} → Rearranged xs ys → Rearranged ys xs
turned none = none
turned (keep x p) = keep x (turned p)
turned (swap x y xs) = swap y x xs
turned (join p q) = join (turned q) (turned p)

pub to_end : {A : Type 0} (x : A) (xs : List A) → Rearranged (x ∷ xs) (xs ++ x ∷ [])
to_end x [] = as_is (x ∷ [])
to_end x (y ∷ xs) = join (swap x y xs) (keep y (to_end x xs))

pub mapped : {A B : Type 0} (f : A → B) {xs ys : List A} → Rearranged xs ys → Rearranged (map f xs) (map f ys)
mapped f none = none
mapped f (keep x p) = keep (f x) (mapped f p)
mapped f (swap x y xs) = swap (f x) (f y) (map f xs)
mapped f (join p q) = join (mapped f p) (mapped f q)

keep_if : {A : Type 0} (t : Bool) (x : A) {xs ys : List A} → Rearranged xs ys → Rearranged (cond t (x ∷ xs) xs) (cond t (x ∷ ys) ys)
keep_if true x p = keep x p
keep_if false x p = p

swap_if : {A : Type 0} (s t : Bool) (x y : A) (xs : List A) →
    Rearranged (cond s (x ∷ cond t (y ∷ xs) xs) (cond t (y ∷ xs) xs)) (cond t (y ∷ cond s (x ∷ xs) xs) (cond s (x ∷ xs) xs))
swap_if true true x y xs = swap x y xs
swap_if true false x y xs = as_is (x ∷ xs)
swap_if false true x y xs = as_is (y ∷ xs)
swap_if false false x y xs = as_is xs

pub kept : {A : Type 0} (p : A → Bool) {xs ys : List A} → Rearranged xs ys → Rearranged (filter p xs) (filter p ys)
kept p none = none
kept p (keep x r) = keep_if (p x) x (kept p r)
kept p (swap x y xs) = swap_if (p x) (p y) x y (filter p xs)
kept p (join r s) = join (kept p r) (kept p s)

pub as_long : {A : Type 0} {xs ys : List A} → Rearranged xs ys → length xs ≡ length ys
as_long none = refl
as_long (keep x p) = ap suc (as_long p)
as_long (swap x y xs) = refl
as_long (join p q) = as_long p ∙ as_long q

pub same_sum : {A : Type 0} (f : A → ℕ) {xs ys : List A} → Rearranged xs ys → sum_by f xs ≡ sum_by f ys
same_sum f none = refl
same_sum f (keep x {xs} {ys} p) = omega (arith, sum_by-cons f x xs, sum_by-cons f x ys, same_sum f p)
same_sum f (swap x y xs) = omega (arith, sum_by-cons f x (y ∷ xs), sum_by-cons f y xs, sum_by-cons f y (x ∷ xs), sum_by-cons f x xs)
same_sum f (join p q) = same_sum f p ∙ same_sum f q

pub all_of : {A : Type 0} (P : A → Type 0) {xs ys : List A} → Rearranged xs ys → AllByRecursion P xs → AllByRecursion P ys
all_of P none h = h
all_of P (keep x p) h = (h.0, all_of P p h.1)
all_of P (swap x y xs) h = (h.1.0, (h.0, h.1.1))
all_of P (join p q) h = all_of P q (all_of P p h)

-- ---- names

pub same_eq : (xs ys : List ℕ) → same xs ys ≡ true → xs ≡ ys
same_eq [] [] h = refl
same_eq [] (y ∷ ys) h = absurd (both_ways false refl h)
same_eq (x ∷ xs) [] h = absurd (both_ways false refl h)
same_eq (x ∷ xs) (y ∷ ys) h =
    let both = and_parts (eqb x y) (same xs ys) h in
    let e : x ≡ y = eqb-true x y both.0 in
    let f : xs ≡ ys = same_eq xs ys both.1 in
    cc

pub same_itself : (xs : List ℕ) → same xs xs ≡ true
same_itself [] = refl
same_itself (x ∷ xs) = rw (eq-eqb x x refl) (same_itself xs)

by_truth : (s t : Bool) → (s ≡ true → t ≡ true) → (t ≡ true → s ≡ true) → s ≡ t
by_truth true t f g = sym (f refl)
by_truth false true f g = g refl
by_truth false false f g = refl

pub same_turned : (xs ys : List ℕ) → same xs ys ≡ same ys xs
same_turned xs ys = by_truth (same xs ys) (same ys xs)
    (λ h. rw (same_eq xs ys h) (same_itself ys)) (λ h. rw (same_eq ys xs h) (same_itself xs))

abbrev pub held : List ℕ → List File → Bool
held n [] = false
held n (f ∷ fs) = same n f.name || held n fs

abbrev pub Differ : List File → Type 0
Differ [] = Unit {0}
Differ (f ∷ fs) = (held f.name fs ≡ false) × Differ fs

or_swap : (a b c : Bool) → (a || (b || c)) ≡ (b || (a || c))
or_swap true true c = refl
or_swap true false c = refl
or_swap false true c = refl
or_swap false false c = refl

pub held_in : (n : List ℕ) {xs ys : List File} → Rearranged xs ys → held n xs ≡ held n ys
held_in n none = refl
held_in n (keep x p) = ap (λ t. same n x.name || t) (held_in n p)
held_in n (swap x y xs) = or_swap (same n x.name) (same n y.name) (held n xs)
held_in n (join p q) = held_in n p ∙ held_in n q

pub differ : {xs ys : List File} → Rearranged xs ys → Differ xs → Differ ys
differ none h = h
differ (keep x p) h = (sym (held_in x.name p) ∙ h.0, differ p h.1)
differ (swap x y xs) h =
    let parts = or_parts (same x.name y.name) (held x.name xs) h.0 in
    (or_from (same y.name x.name) (held y.name xs) (same_turned y.name x.name ∙ parts.0) h.1.0, (parts.1, h.1.1))
differ (join p q) h = differ q (differ p h)

pub held_found : (n : List ℕ) (fs : List File) → is_some (find n fs) ≡ held n fs
held_found n [] = refl
held_found n (f ∷ fs) = step (same n f.name) (held_found n fs)
  where
    step : (t : Bool) → is_some (find n fs) ≡ held n fs → is_some (cond t (Some f.records) (find n fs)) ≡ (t || held n fs)
    step true e = refl
    step false e = e

swap_found : {A : Type 0} (s t : Bool) (x y z : A) → (s ≡ true → t ≡ true → ⊥) → cond s x (cond t y z) ≡ cond t y (cond s x z)
swap_found true true x y z h = absurd (h refl refl)
swap_found true false x y z h = refl
swap_found false true x y z h = refl
swap_found false false x y z h = refl

pub found : (n : List ℕ) {xs ys : List File} → Rearranged xs ys → Differ xs → find n xs ≡ find n ys
found n none h = refl
found n (keep x p) h = ap (λ z. cond (same n x.name) (Some x.records) z) (found n p h.1)
found n (swap x y xs) h =
    swap_found (same n x.name) (same n y.name) (Some x.records) (Some y.records) (find n xs)
    (λ a b.
    let parts = or_parts (same x.name y.name) (held x.name xs) h.0 in
    let e : same x.name y.name ≡ true = rw (← same_eq n x.name a) b in
    both_ways (same x.name y.name) parts.0 e)
found n (join p q) h = found n p h ∙ found n q (differ p h)
