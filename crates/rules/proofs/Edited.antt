-- One file's records changed, in a directory and in the model.
use Rattle.std.proofs.Common.{◌≡◌, ℕ, suc, Bool, true, false, cond, ◌&&◌, ◌||◌, ltb, leb, List, [], ◌∷◌, ◌++◌, map, length, Some, None, Option, unwrap_or, sym, refl, ap, ◌∙◌, subst}
use Rattle.std.specs.List.{AllByRecursion}
use Rattle.std.proofs.lemmas.Bool.{or_parts, both_ways}
use Rattle.std.proofs.lemmas.List.{append_assoc}
use Rattle.std.proofs.ByRecursion.{All-append}
use Rattle.chains.specs.Names.{same, legal}
use Rattle.chains.specs.Layout.{Layout, Entry, Placed, reserved, member, numbers, chains}
use Rattle.chains.specs.Sound.{DistinctNumbers, ValidLayout, DistinctNames, named, entries}
use Rattle.rules.specs.Model.{Model, File, find, with_records}
use Rattle.rules.specs.Effects.{in_file, with_places}
use Rattle.rules.specs.Matching.{Matches, Unused}
use Rattle.rules.specs.Runs.{files_in}
use Rattle.rules.proofs.Rearranging.{mapped, differ, held, Differ, same_eq}
use Rattle.rules.proofs.Addresses.{Part, keep, join, part_nil, part_before, part_after, part_front, part_all, part_apart, apart_join, ats, addresses, numbers_chains}

-- ---- names in a directory and in its files

pub named_held : (n : List ℕ) (es : List (Option Entry)) → named n (entries es) ≡ held n (files_in es)
named_held n [] = refl
named_held n (None ∷ es) = named_held n es
named_held n (Some f ∷ es) = ap (λ t. same n f.name || t) (named_held n es)

pub distinct_differ : (es : List (Option Entry)) → DistinctNames (entries es) → Differ (files_in es)
distinct_differ [] h = h
distinct_differ (None ∷ es) h = distinct_differ es h
distinct_differ (Some f ∷ es) h = (sym (named_held f.name es) ∙ h.0, distinct_differ es h.1)

-- ---- the model's side

module _ (n : List ℕ) (h : List (List ℕ) → List (List ℕ)) where
  abbrev pub edited_file : File → File
  edited_file f = record { name = f.name; records = cond (same n f.name) (h f.records) f.records }

  cond_file : (t : Bool) (f : File) (rs : List (List ℕ)) → (t ≡ true → rs ≡ h f.records) →
      cond t (record { name = f.name; records = rs }) f ≡ (record { name = f.name; records = cond t (h f.records) f.records })
  cond_file true f rs e = ap (λ x. record { name = f.name; records = x }) (e refl)
  cond_file false f rs e = refl

  cond_absent : (t : Bool) (f : File) (rs : List (List ℕ)) → t ≡ false →
      cond t (record { name = f.name; records = rs }) f ≡ (record { name = f.name; records = cond t (h f.records) f.records })
  cond_absent t f rs e = cond_file t f rs (λ e'. absurd (both_ways t e e'))

  absent : (rs : List (List ℕ)) (fs : List File) → held n fs ≡ false → with_records n rs fs ≡ map edited_file fs
  absent rs [] o = refl
  absent rs (f ∷ fs) o =
      let parts = or_parts (same n f.name) (held n fs) o in
      let one = cond_absent (same n f.name) f rs parts.0 in
      let rest = absent rs fs parts.1 in
      cc

  -- to give the file n the changed records is to change its records
  pub edited_files : (fs : List File) → Differ fs → with_records n (h (unwrap_or (find n fs) [])) fs ≡ map edited_file fs
  edited_files [] d = refl
  edited_files (f ∷ fs) d = step (same n f.name) refl (edited_files fs d.1)
    where
      step : (t : Bool) → same n f.name ≡ t → with_records n (h (unwrap_or (find n fs) [])) fs ≡ map edited_file fs →
          cond t (record { name = f.name; records = h (unwrap_or (cond t (Some f.records) (find n fs)) []) }) f ∷ with_records n (h (unwrap_or (cond t (Some f.records) (find n fs)) [])) fs
          ≡ record { name = f.name; records = cond t (h f.records) f.records } ∷ map edited_file fs
      step true e ih =
          let o : held n fs ≡ false = rw (same_eq n f.name e) d.0 in
          let r = absent (h f.records) fs o in
          cc
      step false e ih = cc

-- ---- the directory's side

module _ (n : List ℕ) (g : List Placed → List Placed) where
  -- the same as `in_file`, with the test inside
  abbrev pub edited : Entry → Entry
  edited f = record { name = f.name; at = f.at; records = cond (same n f.name) (g f.records) f.records }

  abbrev pub edited_in : List (Option Entry) → List (Option Entry)
  edited_in [] = []
  edited_in (None ∷ es) = None ∷ edited_in es
  edited_in (Some f ∷ es) = Some (edited f) ∷ edited_in es

  cond_entry : (t : Bool) (f : Entry) →
      cond t (Some (record { name = f.name; at = f.at; records = g f.records })) (Some f) ≡ Some (record { name = f.name; at = f.at; records = cond t (g f.records) f.records })
  cond_entry true f = refl
  cond_entry false f = refl

  pub in_file_is : (es : List (Option Entry)) → in_file n g es ≡ edited_in es
  in_file_is [] = refl
  in_file_is (None ∷ es) = ap (λ xs. None ∷ xs) (in_file_is es)
  in_file_is (Some f ∷ es) =
      let one = cond_entry (same n f.name) f in
      let rest = in_file_is es in
      cc

  as_many_places : (es : List (Option Entry)) → length (edited_in es) ≡ length es
  as_many_places [] = refl
  as_many_places (None ∷ es) = ap suc (as_many_places es)
  as_many_places (Some f ∷ es) = ap suc (as_many_places es)

  still_legal : (es : List (Option Entry)) → AllByRecursion (λ f. legal f.name ≡ true) (entries es) → AllByRecursion (λ f. legal f.name ≡ true) (entries (edited_in es))
  still_legal [] h = h
  still_legal (None ∷ es) h = still_legal es h
  still_legal (Some f ∷ es) h = (h.0, still_legal es h.1)

  still_named : (m : List ℕ) (es : List (Option Entry)) → named m (entries (edited_in es)) ≡ named m (entries es)
  still_named m [] = refl
  still_named m (None ∷ es) = still_named m es
  still_named m (Some f ∷ es) = ap (λ t. same m f.name || t) (still_named m es)

  still_distinct : (es : List (Option Entry)) → DistinctNames (entries es) → DistinctNames (entries (edited_in es))
  still_distinct [] h = h
  still_distinct (None ∷ es) h = still_distinct es h
  still_distinct (Some f ∷ es) h = (still_named f.name es ∙ h.0, still_distinct es h.1)

  abbrev Full : List Placed → Type 0
  Full = AllByRecursion (λ p. length p.bytes ≡ 128)

  full_if : (t : Bool) (ps : List Placed) → (Full ps → Full (g ps)) → Full ps → Full (cond t (g ps) ps)
  full_if true ps k h = k h
  full_if false ps k h = h

  still_full : ((ps : List Placed) → Full ps → Full (g ps)) → (es : List (Option Entry)) → AllByRecursion (λ f. Full f.records) (entries es) → AllByRecursion (λ f. Full f.records) (entries (edited_in es))
  still_full k [] h = h
  still_full k (None ∷ es) h = still_full k es h
  still_full k (Some f ∷ es) h = (full_if (same n f.name) f.records (k f.records) h.0, still_full k es h.1)

  -- the sectors used after the change: old ones, and fresh ones
  module _ (fresh : List ℕ) (part : (ps : List Placed) → Part (ats (g ps)) (fresh ++ ats ps)) where
    edit_absent : (es : List (Option Entry)) → named n (entries es) ≡ false → addresses (edited_in es) ≡ addresses es
    edit_absent [] o = refl
    edit_absent (None ∷ es) o = edit_absent es o
    edit_absent (Some f ∷ es) o =
        let parts = or_parts (same n f.name) (named n (entries es)) o in
        rw parts.0 (ap (λ xs. f.at ∷ (ats f.records ++ xs)) (edit_absent es parts.1))

    pub addresses_edited : (es : List (Option Entry)) → DistinctNames (entries es) → Part (addresses (edited_in es)) (fresh ++ addresses es)
    addresses_edited [] h = part_nil (fresh ++ [])
    addresses_edited (None ∷ es) h = addresses_edited es h
    addresses_edited (Some f ∷ es) h = step (same n f.name) refl (addresses_edited es h.1)
      where
        step : (t : Bool) → same n f.name ≡ t → Part (addresses (edited_in es)) (fresh ++ addresses es) →
            Part (f.at ∷ (ats (cond t (g f.records) f.records) ++ addresses (edited_in es))) (fresh ++ (f.at ∷ (ats f.records ++ addresses es)))
        step true e ih =
            let o : named n (entries es) ≡ false = rw (same_eq n f.name e) h.0 in
            let p : Part (ats (g f.records) ++ addresses es) (fresh ++ (ats f.records ++ addresses es)) = rw (← append_assoc fresh (ats f.records) (addresses es)) (part_after (addresses es) (part f.records)) in
            rw (edit_absent es o) (join (keep f.at p) (part_front (f.at ∷ []) fresh (ats f.records ++ addresses es)))
        step false e ih = join (part_before (f.at ∷ ats f.records) ih) (part_front (f.at ∷ ats f.records) fresh (addresses es))

-- ---- both sides

module _ (n : List ℕ) (g : List Placed → List Placed) (h : List (List ℕ) → List (List ℕ))
    (alike : (ps : List Placed) → map (λ p. p.bytes) (g ps) ≡ h (map (λ p. p.bytes) ps)) where
  cond_bytes : (t : Bool) (ps : List Placed) → map (λ p. p.bytes) (cond t (g ps) ps) ≡ cond t (h (map (λ p. p.bytes) ps)) (map (λ p. p.bytes) ps)
  cond_bytes true ps = alike ps
  cond_bytes false ps = refl

  pub files_edited : (es : List (Option Entry)) → files_in (edited_in n g es) ≡ map (edited_file n h) (files_in es)
  files_edited [] = refl
  files_edited (None ∷ es) = files_edited es
  files_edited (Some f ∷ es) =
      let one = cond_bytes (same n f.name) f.records in
      let rest = files_edited es in
      cc

-- the sectors of a layout's chains, with unused ones, are apart and usable
module _ (d : Layout) (proper : ValidLayout d) (fresh : List ℕ) (unused : Unused d fresh) (es : List (Option Entry))
    (part : Part (addresses es) (fresh ++ addresses d.places)) where
  pub still_usable : AllByRecursion (λ m. (leb reserved m && ltb m d.size) ≡ true) (numbers (chains es))
  still_usable =
      let P : ℕ → Type 0 = λ m. (leb reserved m && ltb m d.size) ≡ true in
      let old : AllByRecursion P (addresses d.places) = subst (AllByRecursion P) (numbers_chains d.places) proper.usable in
      subst (AllByRecursion P) (sym (numbers_chains es)) (part_all P part (All-append P fresh (addresses d.places) unused.usable old))

  pub still_apart : DistinctNumbers (numbers (chains es))
  still_apart =
      let old : DistinctNumbers (addresses d.places) = subst DistinctNumbers (numbers_chains d.places) proper.apart in
      let out : AllByRecursion (λ m. member m (addresses d.places) ≡ false) fresh = subst (λ ns. AllByRecursion (λ m. member m ns ≡ false) fresh) (numbers_chains d.places) unused.outside in
      subst DistinctNumbers (sym (numbers_chains es)) (part_apart part (apart_join fresh (addresses d.places) unused.distinct out old))

-- a change of one file's records: the bytes as `h` says, the sectors old ones and fresh ones, every record whole
pub record Edits (g : List Placed → List Placed) (h : List (List ℕ) → List (List ℕ)) (fresh : List ℕ) : Type 0 where
  pub alike : (ps : List Placed) → map (λ p. p.bytes) (g ps) ≡ h (map (λ p. p.bytes) ps)
  pub part : (ps : List Placed) → Part (ats (g ps)) (fresh ++ ats ps)
  pub whole : (ps : List Placed) → AllByRecursion (λ p. length p.bytes ≡ 128) ps → AllByRecursion (λ p. length p.bytes ≡ 128) (g ps)

pub proper_edited : (d : Layout) (n : List ℕ) (g : List Placed → List Placed) (h : List (List ℕ) → List (List ℕ)) (fresh : List ℕ) →
    Edits g h fresh → Unused d fresh → ValidLayout d → ValidLayout (with_places d (edited_in n g d.places))
proper_edited d n g h fresh edits unused proper =
    let part = addresses_edited n g fresh edits.part d.places proper.distinct in
    record {
      size = proper.size;
      id = proper.id;
      reserved_links = proper.reserved_links;
      map = proper.map;
      places = as_many_places n g d.places ∙ proper.places;
      names = still_legal n g d.places proper.names;
      distinct = still_distinct n g d.places proper.distinct;
      usable = still_usable d proper fresh unused (edited_in n g d.places) part;
      apart = still_apart d proper fresh unused (edited_in n g d.places) part;
      records = still_full n g edits.whole d.places proper.records;
    }

-- a model whose file n has its records changed matches the layout with that file changed
pub matches_edited : (b b' : Model) (d : Layout) (n : List ℕ) (g : List Placed → List Placed) (h : List (List ℕ) → List (List ℕ)) (fresh : List ℕ) →
    Edits g h fresh → Unused d fresh → Matches b d → b'.size ≡ b.size → b'.files ≡ with_records n (h (unwrap_or (find n b.files) [])) b.files →
    Matches b' (with_places d (in_file n g d.places))
matches_edited b b' d n g h fresh edits unused m size files =
    rw (in_file_is n g d.places)
    (record {
      proper = proper_edited d n g h fresh edits unused m.proper;
      size = m.size ∙ sym size;
      files =
          rw (files_edited n g h edits.alike d.places, files, edited_files n h b.files (differ m.files (distinct_differ d.places m.proper.distinct)))
          (mapped (edited_file n h) m.files);
    })
