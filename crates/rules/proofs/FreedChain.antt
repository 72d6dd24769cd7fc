-- A file's sectors given back: the free sectors are then those of the layout without the file, which has one file less.
use Rattle.std.proofs.Common.{◌≡◌, ℕ, zero, suc, Bool, true, false, cond, not, ◌&&◌, ◌||◌, eqb, ltb, leb, List, [], ◌∷◌, ◌++◌, map, length, get_or, set, Some, None, Option, sym, refl, ap, ◌∙◌, subst, ⊎_elim, arith}
use Rattle.std.proofs.lemmas.Bool.{both_ways, or_cases, or_parts, and_parts, eqb-true}
use Rattle.chains.specs.Names.{same}
use Rattle.chains.specs.Layout.{Layout, Entry, reserved, member, numbers, chains}
use Rattle.chains.specs.Sound.{DistinctNumbers, ValidLayout}
use Rattle.rules.specs.Model.{File, without}
use Rattle.rules.specs.Effects.{with_places}
use Rattle.rules.specs.Laid.{Spares}
use Rattle.rules.proofs.Addresses.{Part, join, part_itself, part_before, part_front, part_member, part_apart, ats, addresses, numbers_chains}
use Rattle.rules.proofs.Rearranging.{Differ, held, same_eq}
use Rattle.rules.proofs.Relaid.{all_at}

-- the sectors of one file
abbrev pub own : Entry → List ℕ
own f = f.at ∷ ats f.records

-- ---- one file's sectors beside all the others

others_and_own : (es : List (Option Entry)) (p : ℕ) (f : Entry) → get_or es p None ≡ Some f → Part (own f ++ addresses (set es p None)) (addresses es)
others_and_own [] p f e = let z : ◌≡◌ {A = ℕ} 0 1 = cc in absurd (omega arith)
others_and_own (None ∷ es) zero f e = let z : ◌≡◌ {A = ℕ} 0 1 = cc in absurd (omega arith)
others_and_own (Some g ∷ es) zero f e =
    let here : g ≡ f = cc in
    subst (λ (x : Entry). Part (own x ++ addresses es) (own g ++ addresses es)) here (part_itself (own g ++ addresses es))
others_and_own (None ∷ es) (suc p) f e = others_and_own es p f e
others_and_own (Some g ∷ es) (suc p) f e = join (part_front (own f) (own g) (addresses (set es p None))) (part_before (own g) (others_and_own es p f e))

own_and_others : (es : List (Option Entry)) (p : ℕ) (f : Entry) → get_or es p None ≡ Some f → Part (addresses es) (own f ++ addresses (set es p None))
own_and_others [] p f e = let z : ◌≡◌ {A = ℕ} 0 1 = cc in absurd (omega arith)
own_and_others (None ∷ es) zero f e = let z : ◌≡◌ {A = ℕ} 0 1 = cc in absurd (omega arith)
own_and_others (Some g ∷ es) zero f e =
    let here : g ≡ f = cc in
    subst (λ (x : Entry). Part (own g ++ addresses es) (own x ++ addresses es)) here (part_itself (own g ++ addresses es))
own_and_others (None ∷ es) (suc p) f e = own_and_others es p f e
own_and_others (Some g ∷ es) (suc p) f e = join (part_before (own g) (own_and_others es p f e)) (part_front (own g) (own f) (addresses (set es p None)))

pub member_append : (n : ℕ) (xs ys : List ℕ) → member n (xs ++ ys) ≡ (member n xs || member n ys)
member_append n [] ys = refl
member_append n (x ∷ xs) ys = elim (eqb n x) as (λ b. (b || member n (xs ++ ys)) ≡ ((b || member n xs) || member n ys)) [ true ↦ refl | false ↦ member_append n xs ys ]

pub by_falsity : (s t : Bool) → (s ≡ false → t ≡ false) → (t ≡ false → s ≡ false) → s ≡ t
by_falsity true true f g = refl
by_falsity true false f g = g refl
by_falsity false t f g = sym (f refl)

-- numbers that are apart: one of the first list is not in the second
apart_other : (n : ℕ) (xs ys : List ℕ) → DistinctNumbers (xs ++ ys) → member n xs ≡ true → member n ys ≡ false
apart_other n [] ys a h = absurd (both_ways false refl h)
apart_other n (x ∷ xs) ys a h =
    ⊎_elim
    (λ (e : eqb n x ≡ true). subst (λ k. member k ys ≡ false) (sym (eqb-true n x e)) (or_parts (member x xs) (member x ys) (sym (member_append x xs ys) ∙ a.0)).1)
    (λ (e : member n xs ≡ true). apart_other n xs ys a.1 e)
    (or_cases (eqb n x) (member n xs) h)

module _ (d : Layout) (proper : ValidLayout d) (p : ℕ) (f : Entry) (there : get_or d.places p None ≡ Some f) where
  abbrev pub places_without : List (Option Entry)
  places_without = set d.places p None

  pub used_by_either : (n : ℕ) → member n (numbers (chains d.places)) ≡ (member n (own f) || member n (numbers (chains places_without)))
  used_by_either n =
      ap (member n) (numbers_chains d.places) ∙
      (by_falsity (member n (addresses d.places)) (member n (own f ++ addresses places_without)) (part_member n (others_and_own d.places p f there)) (part_member n (own_and_others d.places p f there)) ∙
      (member_append n (own f) (addresses places_without) ∙ ap (λ ns. member n (own f) || member n ns) (sym (numbers_chains places_without))))

  pub used_by_one : (n : ℕ) → member n (own f) ≡ true → member n (numbers (chains places_without)) ≡ false
  used_by_one n h =
      ap (member n) (numbers_chains places_without) ∙
      apart_other n (own f) (addresses places_without) (part_apart (others_and_own d.places p f there) (subst DistinctNumbers (numbers_chains d.places) proper.apart)) h

  -- no record lies where the descriptor does
  pub own_apart : (n : ℕ) → member n (ats f.records) ≡ true → eqb n f.at ≡ false
  own_apart n h =
      let all : DistinctNumbers (own f ++ addresses places_without) = part_apart (others_and_own d.places p f there) (subst DistinctNumbers (numbers_chains d.places) proper.apart) in
      let here : member f.at (ats f.records) ≡ false = (or_parts (member f.at (ats f.records)) (member f.at (addresses places_without)) (sym (member_append f.at (ats f.records) (addresses places_without)) ∙ all.0)).0 in
      by (eqb n f.at) refl here
    where
      by : (x : Bool) → eqb n f.at ≡ x → member f.at (ats f.records) ≡ false → x ≡ false
      by true e off = absurd (both_ways (member f.at (ats f.records)) off (subst (λ k. member k (ats f.records) ≡ true) (eqb-true n f.at e) h))
      by false e off = refl

  pub own_usable : (n : ℕ) → member n (own f) ≡ true → (leb reserved n && ltb n d.size) ≡ true
  own_usable n h =
      all_at (λ m. (leb reserved m && ltb m d.size) ≡ true) n (numbers (chains d.places)) proper.usable
      (used_by_either n ∙ ap (λ x. x || member n (numbers (chains places_without))) h)

  -- whether n is the descriptor's, a record's, used by another file, and within the disk
  given_back : (at_descriptor at_record other low high : Bool) → ((at_descriptor || at_record) ≡ true → other ≡ false) → ((at_descriptor || at_record) ≡ true → (low && high) ≡ true) →
      (at_descriptor || ((low && (high && not ((at_descriptor || at_record) || other))) || at_record)) ≡ (low && (high && not other))
  given_back true r o l h one usable =
      let inside = and_parts l h (usable refl) in
      let alone = one refl in
      rw (inside.0, inside.1, alone)
  given_back false true o l h one usable =
      let inside = and_parts l h (usable refl) in
      let alone = one refl in
      rw (inside.0, inside.1, alone)
  given_back false false o l h one usable = plain (l && (h && not o))
    where
      plain : (x : Bool) → (x || false) ≡ x
      plain true = refl
      plain false = refl

  -- the descriptor's sector and those of the records given back
  pub freed_chain : (free after : ℕ → Bool) → Spares d free → ((n : ℕ) → after n ≡ (eqb n f.at || (free n || member n (map (λ q. q.at) f.records)))) → Spares (with_places d (set d.places p None)) after
  freed_chain free after spare given n =
      given n ∙
      (ap (λ x. eqb n f.at || (x || member n (ats f.records))) (spare n ∙ ap (λ x. leb reserved n && (ltb n d.size && not x)) (used_by_either n)) ∙
      given_back (eqb n f.at) (member n (ats f.records)) (member n (numbers (chains places_without))) (leb reserved n) (ltb n d.size) (used_by_one n) (own_usable n))

-- ---- one file less

none_gone : (n : List ℕ) (fs : List File) → held n fs ≡ false → without n fs ≡ fs
none_gone n [] h = refl
none_gone n (f ∷ fs) h =
    let parts = or_parts (same n f.name) (held n fs) h in
    rw parts.0 (ap (λ xs. f ∷ xs) (none_gone n fs parts.1))

pub one_less : (n : List ℕ) (fs : List File) → Differ fs → held n fs ≡ true → suc (length (without n fs)) ≡ length fs
one_less n [] d h = absurd (both_ways false refl h)
one_less n (f ∷ fs) d h = step (same n f.name) refl h (one_less n fs d.1)
  where
    step : (t : Bool) → same n f.name ≡ t → (t || held n fs) ≡ true → (held n fs ≡ true → suc (length (without n fs)) ≡ length fs) →
        suc (length (cond (not t) (f ∷ without n fs) (without n fs))) ≡ suc (length fs)
    step true e h later = ap (λ (xs : List File). suc (length xs)) (none_gone n fs (subst (λ m. held m fs ≡ false) (sym (same_eq n f.name e)) d.0))
    step false e h later = ap suc (later h)
