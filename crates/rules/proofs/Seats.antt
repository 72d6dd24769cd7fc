-- What is found under a name after a change of the files, and units after a change.
use Rattle.std.proofs.Common.{◌≡◌, ℕ, zero, suc, ◌<◌, Bool, true, false, cond, not, ◌&&◌, leb, List, [], ◌∷◌, ◌++◌, length, get_or, set, is_some, Some, unwrap_or, sym, refl, ap, ◌∙◌, subst, ⊎_elim}
use Rattle.std.proofs.lemmas.Bool.{both_ways, or_parts, cases_eq}
use Rattle.std.proofs.lemmas.List.{length-set, get_or-set_same, get_or-set_other}
use Rattle.chains.specs.Names.{same}
use Rattle.rules.specs.Model.{Model, File, UnitState, closed, holds, find, with_records, without, is_closed, has_name, any, state, name_of, kind_of, cursor_of}
use Rattle.rules.specs.Matching.{Orderly, seated}
use Rattle.rules.proofs.Rearranging.{same_eq, same_turned, same_itself}

-- ---- finding

module _ (n : List ℕ) (rs : List (List ℕ)) where
  pub find_given : (fs : List File) → is_some (find n fs) ≡ true → find n (with_records n rs fs) ≡ Some rs
  find_given [] h = absurd (both_ways false refl h)
  find_given (f ∷ fs) h = step (same n f.name) refl h (find_given fs)
    where
      step : (t : Bool) → same n f.name ≡ t → is_some (cond t (Some f.records) (find n fs)) ≡ true → (is_some (find n fs) ≡ true → find n (with_records n rs fs) ≡ Some rs) →
          find n (cond t (record { name = f.name; records = rs }) f ∷ with_records n rs fs) ≡ Some rs
      step true e h k = rw e
      step false e h k = rw e (k h)

  pub find_beside : (m : List ℕ) (fs : List File) → same n m ≡ false → find m (with_records n rs fs) ≡ find m fs
  find_beside m [] o = refl
  find_beside m (f ∷ fs) o = step (same n f.name) refl (same m f.name) refl (find_beside m fs o)
    where
      step : (t : Bool) → same n f.name ≡ t → (s : Bool) → same m f.name ≡ s → find m (with_records n rs fs) ≡ find m fs →
          find m (cond t (record { name = f.name; records = rs }) f ∷ with_records n rs fs) ≡ cond s (Some f.records) (find m fs)
      step true e true e' ih = absurd (both_ways (same n m) o (rw (same_eq m f.name e') e))
      step true e false e' ih = rw e' ih
      step false e true e' ih = rw e'
      step false e false e' ih = rw e' ih

pub find_kept : (n m : List ℕ) (fs : List File) → same n m ≡ false → find m (without n fs) ≡ find m fs
find_kept n m [] o = refl
find_kept n m (f ∷ fs) o = step (same n f.name) refl (same m f.name) refl (find_kept n m fs o)
  where
    step : (t : Bool) → same n f.name ≡ t → (s : Bool) → same m f.name ≡ s → find m (without n fs) ≡ find m fs →
        find m (cond (not t) (f ∷ without n fs) (without n fs)) ≡ cond s (Some f.records) (find m fs)
    step true e true e' ih = absurd (both_ways (same n m) o (rw (same_eq m f.name e') e))
    step true e false e' ih = ih
    step false e true e' ih = rw e'
    step false e false e' ih = rw e' ih

pub find_behind : (n m : List ℕ) (rs : List (List ℕ)) (fs : List File) → same n m ≡ false → find m (fs ++ record { name = n; records = rs } ∷ []) ≡ find m fs
find_behind n m rs [] o = rw (same_turned m n ∙ o)
find_behind n m rs (f ∷ fs) o = ap (λ z. cond (same m f.name) (Some f.records) z) (find_behind n m rs fs o)

pub find_added : (n : List ℕ) (rs : List (List ℕ)) (fs : List File) → is_some (find n fs) ≡ false → find n (fs ++ record { name = n; records = rs } ∷ []) ≡ Some rs
find_added n rs [] h = rw (same_itself n)
find_added n rs (f ∷ fs) h = step (same n f.name) h (find_added n rs fs)
  where
    step : (t : Bool) → is_some (cond t (Some f.records) (find n fs)) ≡ false → (is_some (find n fs) ≡ false → find n (fs ++ record { name = n; records = rs } ∷ []) ≡ Some rs) →
        cond t (Some f.records) (find n (fs ++ record { name = n; records = rs } ∷ [])) ≡ Some rs
    step true h k = absurd (both_ways true h refl)
    step false h k = k h

-- ---- units

pub open_is : (s : UnitState) → is_closed s ≡ false → s ≡ holds (name_of s) (kind_of s) (cursor_of s)
open_is closed h = absurd (both_ways true h refl)
open_is (holds n k c) h = refl

pub has_its_name : (s : UnitState) → is_closed s ≡ false → has_name (name_of s) s ≡ true
has_its_name closed h = absurd (both_ways true h refl)
has_its_name (holds n k c) h = same_itself n

pub none_has : (n : List ℕ) (us : List UnitState) (u : ℕ) → any (has_name n) us ≡ false → has_name n (get_or us u closed) ≡ false
none_has n [] u h = refl
none_has n (s ∷ us) zero h = (or_parts (has_name n s) (any (has_name n) us) h).0
none_has n (s ∷ us) (suc u) h = none_has n us u (or_parts (has_name n s) (any (has_name n) us) h).1

pub none_open : (us : List UnitState) (u : ℕ) → any (λ s. not (is_closed s)) us ≡ false → get_or us u closed ≡ closed
none_open [] u h = refl
none_open (closed ∷ us) zero h = refl
none_open (holds n k c ∷ us) zero h = absurd (both_ways true h refl)
none_open (closed ∷ us) (suc u) h = none_open us u h
none_open (holds n k c ∷ us) (suc u) h = absurd (both_ways true h refl)

-- a seat is one by what is found under the unit's name
pub seat_by : (fs gs : List File) (n : List ℕ) (s : UnitState) → has_name n s ≡ false → ((m : List ℕ) → same n m ≡ false → find m fs ≡ find m gs) → seated gs s ≡ true → seated fs s ≡ true
seat_by fs gs n closed h e k = refl
seat_by fs gs n (holds m j c) h e k = subst (λ o. (is_some o && leb c (length (unwrap_or o []))) ≡ true) (sym (e m h)) k

module _ (b b' : Model) (o : Orderly b) (u : ℕ) (s : UnitState) (low : u < length b.units) (units : b'.units ≡ set b.units u s)
    (seat : seated b'.files s ≡ true) (beside : (v : ℕ) → (v ≡ u → ⊥) → seated b'.files (state b v) ≡ true)
    (free : (n : List ℕ) (v : ℕ) → (v ≡ u → ⊥) → has_name n s ≡ true → has_name n (state b v) ≡ true → ⊥) where
  here : state b' u ≡ s
  here = ap (λ us. get_or us u closed) units ∙ get_or-set_same b.units u s closed low

  there : (v : ℕ) → (v ≡ u → ⊥) → state b' v ≡ state b v
  there v ne = ap (λ us. get_or us v closed) units ∙ get_or-set_other b.units u v s closed ne

  reseated_at : (v : ℕ) → seated b'.files (state b' v) ≡ true
  reseated_at v = ⊎_elim
      (λ (e : v ≡ u). ap (seated b'.files) (ap (state b') e ∙ here) ∙ seat)
      (λ (ne : v ≡ u → ⊥). ap (seated b'.files) (there v ne) ∙ beside v ne) (cases_eq v u)

  still_alone : (n : List ℕ) (v w : ℕ) → has_name n (state b' v) ≡ true → has_name n (state b' w) ≡ true → v ≡ w
  still_alone n v w h k = ⊎_elim
      (λ (e : v ≡ u). ⊎_elim
      (λ (e' : w ≡ u). e ∙ sym e')
      (λ (ne : w ≡ u → ⊥). absurd (free n w ne (sym (ap (has_name n) (ap (state b') e ∙ here)) ∙ h) (sym (ap (has_name n) (there w ne)) ∙ k))) (cases_eq w u))
      (λ (ne : v ≡ u → ⊥). ⊎_elim
      (λ (e' : w ≡ u). absurd (free n v ne (sym (ap (has_name n) (ap (state b') e' ∙ here)) ∙ k) (sym (ap (has_name n) (there v ne)) ∙ h)))
      (λ (ne' : w ≡ u → ⊥). o.alone n v w (sym (ap (has_name n) (there v ne)) ∙ h) (sym (ap (has_name n) (there w ne')) ∙ k)) (cases_eq w u)) (cases_eq v u)

  pub reseated : Orderly b'
  reseated = record { units = ap length units ∙ (length-set b.units u s ∙ o.units); seats = reseated_at; alone = still_alone }
