-- What a look through the directory finds: the file of a name, and the lowest empty place.
use Rattle.std.proofs.Common.{◌≡◌, ℕ, suc, ◌+◌, ◌<◌, ◌≤◌, Bool, true, false, cond, not, ◌||◌, leb, List, [], ◌∷◌, map, length, get_or, set, is_some, Some, None, Option, unwrap_or, sym, refl, ap, ◌∙◌, subst, arith}
use Rattle.std.proofs.lemmas.Bool.{both_ways, or_parts, le-leb, lt-leb, leb-true}
use Rattle.std.proofs.lemmas.List.{length-map}
use Rattle.chains.specs.declared.lookup.Located.{Located}
use Rattle.chains.specs.Names.{same}
use Rattle.chains.specs.Layout.{Layout, Entry, Placed}
use Rattle.chains.specs.Sound.{DistinctNames, named, entries}
use Rattle.chains.specs.Changes.{located, first_empty}
use Rattle.rules.specs.Model.{Model, find, present, records_of}
use Rattle.rules.specs.Effects.{lowest, in_file, erased}
use Rattle.rules.specs.Matching.{Matches}
use Rattle.rules.specs.Runs.{files_in, file_of}
use Rattle.rules.proofs.Rearranging.{as_long, held, held_in, held_found, found, same_eq}
use Rattle.rules.proofs.Edited.{distinct_differ}
use Rattle.rules.proofs.Changes.{files_entries}

-- ---- the lowest empty place

pub record EmptyAt (es : List (Option Entry)) (p : ℕ) : Type 0 where
  pub within : p < length es
  pub lowest_is : (f : Entry) → lowest f es ≡ set es p (Some f)

first_empty_from : (k : ℕ) (es : List (Option Entry)) (p : ℕ) → first_empty k es ≡ Some p → (j : ℕ) × (p ≡ k + j) × EmptyAt es j
first_empty_from k [] p e = let z : ◌≡◌ {A = ℕ} 0 1 = cc in absurd (omega arith)
first_empty_from k (None ∷ es) p e =
    let q : k ≡ p = cc in
    (0, omega arith, record { within = omega arith; lowest_is = λ f. refl })
first_empty_from k (Some g ∷ es) p e =
    let r = first_empty_from (k + 1) es p e in
    (suc r.0, omega (arith, r.1), record { within = omega (arith, r.2.within); lowest_is = λ f. ap (λ xs. Some g ∷ xs) (r.2.lowest_is f) })

pub empty_at : (es : List (Option Entry)) (p : ℕ) → first_empty 0 es ≡ Some p → EmptyAt es p
empty_at es p e =
    let r = first_empty_from 0 es p e in
    let same_place : r.0 ≡ p = omega (arith, r.1) in
    subst (EmptyAt es) same_place r.2

-- ---- the file of a name

pub record ListedAt (n : List ℕ) (es : List (Option Entry)) (p a : ℕ) : Type 0 where
  pub file : Entry
  pub within : p < length es
  pub entry : get_or es p None ≡ Some file
  pub at : file.at ≡ a
  pub name : n ≡ file.name
  pub changed : (g : List Placed → List Placed) → in_file n g es ≡ set es p (Some (record { name = file.name; at = file.at; records = g file.records }))
  pub gone : erased n es ≡ set es p None
  pub records : find n (files_in es) ≡ Some (map (λ p. p.bytes) file.records)

module _ (n : List ℕ) where
  unchanged : (g : List Placed → List Placed) (es : List (Option Entry)) → named n (entries es) ≡ false → in_file n g es ≡ es
  unchanged g [] o = refl
  unchanged g (None ∷ es) o = ap (λ xs. None ∷ xs) (unchanged g es o)
  unchanged g (Some f ∷ es) o =
      let parts = or_parts (same n f.name) (named n (entries es)) o in
      rw parts.0 (ap (λ xs. Some f ∷ xs) (unchanged g es parts.1))

  not_there : (es : List (Option Entry)) → named n (entries es) ≡ false → erased n es ≡ es
  not_there [] o = refl
  not_there (None ∷ es) o = ap (λ xs. None ∷ xs) (not_there es o)
  not_there (Some f ∷ es) o =
      let parts = or_parts (same n f.name) (named n (entries es)) o in
      rw parts.0 (ap (λ xs. Some f ∷ xs) (not_there es parts.1))

  located_from : (k : ℕ) (es : List (Option Entry)) (l : Located) → DistinctNames (entries es) → located n k es ≡ Some l → (j : ℕ) × (l.place ≡ k + j) × ListedAt n es j l.descriptor
  located_from k [] l h e = let z : ◌≡◌ {A = ℕ} 0 1 = cc in absurd (omega arith)
  located_from k (None ∷ es) l h e =
      let r = located_from (k + 1) es l h e in
      let s = r.2 in (
        suc r.0,
        omega (arith, r.1),
        record {
          file = s.file;
          within = omega (arith, s.within);
          entry = s.entry;
          at = s.at;
          name = s.name;
          changed = λ g. ap (λ xs. None ∷ xs) (s.changed g);
          gone = ap (λ xs. None ∷ xs) s.gone;
          records = s.records;
        },
      )
  located_from k (Some f ∷ es) l h e = step (same n f.name) refl e (λ e'. located_from (k + 1) es l h.1 e')
    where
      step : (t : Bool) → same n f.name ≡ t → cond t (Some (record { place = k; descriptor = f.at })) (located n (k + 1) es) ≡ Some l →
          (located n (k + 1) es ≡ Some l → (j : ℕ) × (l.place ≡ k + 1 + j) × ListedAt n es j l.descriptor) →
          (j : ℕ) × (l.place ≡ k + j) × ListedAt n (Some f ∷ es) j l.descriptor
      step true q e' later =
          let o : named n (entries es) ≡ false = rw (same_eq n f.name q) h.0 in
          let w : record { place = k; descriptor = f.at } ≡ l = cc in (
            0,
            ap (λ (x : Located). x.place) (sym w) ∙ omega arith,
            record {
              file = f;
              within = omega arith;
              entry = refl;
              at = ap (λ (x : Located). x.descriptor) w;
              name = same_eq n f.name q;
              changed = λ g. rw q (ap (λ xs. Some (record { name = f.name; at = f.at; records = g f.records }) ∷ xs) (unchanged g es o));
              gone = rw q (ap (λ xs. None ∷ xs) (not_there es o));
              records = rw q refl;
            },
          )
      step false q e' later =
          let r = later e' in
          let s = r.2 in (
            suc r.0,
            omega (arith, r.1),
            record {
              file = s.file;
              within = omega (arith, s.within);
              entry = s.entry;
              at = s.at;
              name = s.name;
              changed = λ g. rw q (ap (λ xs. Some f ∷ xs) (s.changed g));
              gone = rw q (ap (λ xs. Some f ∷ xs) s.gone);
              records = rw q s.records;
            },
          )

  pub listed_at : (es : List (Option Entry)) (p a : ℕ) → DistinctNames (entries es) → located n 0 es ≡ Some (record { place = p; descriptor = a }) → ListedAt n es p a
  listed_at es p a h e =
      let r = located_from 0 es (record { place = p; descriptor = a }) h e in
      let same_place : r.0 ≡ p = omega (arith, r.1) in
      subst (λ j. ListedAt n es j a) same_place r.2

-- ---- in the model's words

located_held : (n : List ℕ) (k : ℕ) (es : List (Option Entry)) → is_some (located n k es) ≡ held n (files_in es)
located_held n k [] = refl
located_held n k (None ∷ es) = located_held n (k + 1) es
located_held n k (Some f ∷ es) = step (same n f.name) (located_held n (k + 1) es)
  where
    step : (t : Bool) → is_some (located n (k + 1) es) ≡ held n (files_in es) → is_some (cond t (Some (record { place = k; descriptor = f.at })) (located n (k + 1) es)) ≡ (t || held n (files_in es))
    step true e = refl
    step false e = e

pub located_present : (b : Model) (d : Layout) (n : List ℕ) → Matches b d → is_some (located n 0 d.places) ≡ present b n
located_present b d n m = located_held n 0 d.places ∙ (held_in n m.files ∙ sym (held_found n b.files))

pub located_records : (b : Model) (d : Layout) (n : List ℕ) (p a : ℕ) → (m : Matches b d) → (e : located n 0 d.places ≡ Some (record { place = p; descriptor = a })) →
    records_of b n ≡ map (λ r. r.bytes) (listed_at n d.places p a m.proper.distinct e).file.records
located_records b d n p a m e =
    let s = listed_at n d.places p a m.proper.distinct e in
    ap (λ r. unwrap_or r []) (sym (found n m.files (distinct_differ d.places m.proper.distinct)) ∙ s.records)

-- the same for whatever entry stands there
pub records_there : (b : Model) (d : Layout) (n : List ℕ) (p a : ℕ) (f : Entry) → Matches b d → located n 0 d.places ≡ Some (record { place = p; descriptor = a }) →
    get_or d.places p None ≡ Some f → records_of b n ≡ map (λ r. r.bytes) f.records
records_there b d n p a f m e h =
    let s = listed_at n d.places p a m.proper.distinct e in
    let here : s.file ≡ f = let x = s.entry in cc in
    located_records b d n p a m e ∙ ap (λ (g : Entry). map (λ r. r.bytes) g.records) here

entries_fit : (es : List (Option Entry)) → length (entries es) ≤ length es
entries_fit [] = omega arith
entries_fit (None ∷ es) = omega (arith, entries_fit es)
entries_fit (Some f ∷ es) = omega (arith, entries_fit es)

none_empty : (k : ℕ) (es : List (Option Entry)) → not (is_some (first_empty k es)) ≡ leb (length es) (length (entries es))
none_empty k [] = sym (le-leb 0 0 (omega arith))
none_empty k (None ∷ es) = sym (lt-leb (length (None ∷ es)) (length (entries es)) (omega (arith, entries_fit es)))
none_empty k (Some f ∷ es) = none_empty (k + 1) es ∙ leb_both (length es) (length (entries es))
  where
    leb_both : (x y : ℕ) → leb x y ≡ leb (suc x) (suc y)
    leb_both x y = grind arith

pub none_empty_full : (b : Model) (d : Layout) → Matches b d → not (is_some (first_empty 0 d.places)) ≡ leb 96 (length b.files)
none_empty_full b d m =
    let long : length (entries d.places) ≡ length b.files = sym (length-map (entries d.places) file_of) ∙ (ap length (sym (files_entries d.places)) ∙ as_long m.files) in
    none_empty 0 d.places ∙ (ap (λ s. leb s (length (entries d.places))) m.proper.places ∙ ap (λ s. leb 96 s) long)

nothing : {A : Type 0} (o : Option A) → not (is_some o) ≡ true → o ≡ None
nothing None h = refl
nothing (Some x) h = absurd (both_ways false refl h)

-- there is no empty place exactly if the model has as many files as there are places
pub full_if_none_empty : (b : Model) (d : Layout) → Matches b d → first_empty 0 d.places ≡ None → 96 ≤ length b.files
full_if_none_empty b d m e = leb-true 96 (length b.files) (sym (none_empty_full b d m) ∙ ap (λ o. not (is_some o)) e)

pub none_empty_if_full : (b : Model) (d : Layout) → Matches b d → 96 ≤ length b.files → first_empty 0 d.places ≡ None
none_empty_if_full b d m l = nothing (first_empty 0 d.places) (none_empty_full b d m ∙ le-leb 96 (length b.files) l)
