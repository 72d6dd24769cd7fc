-- The changes that calls make: records written, deleted and rewritten, a file made, erased.
use Rattle.std.proofs.Common.{◌≡◌, ℕ, zero, suc, ◌+◌, ◌-◌, ◌*◌, ◌<◌, ◌≤◌, min, Bool, true, false, cond, not, List, [], ◌∷◌, ◌++◌, map, length, take, drop, set, Some, None, filter, Option, sym, refl, ap, ◌∙◌, subst, arith}
use Rattle.std.specs.List.{AllByRecursion}
use Rattle.std.proofs.lemmas.Bool.{or_parts, or_from}
use Rattle.std.proofs.lemmas.List.{map-append, take-map, drop-map, take-append-drop, drop-drop, length-take-le, length-drop, length-map}
use Rattle.std.proofs.ByRecursion.{All-append, All-take, All-drop, all_kept_by}
use Rattle.chains.specs.Names.{same, legal}
use Rattle.chains.specs.Layout.{Layout, Entry, Placed}
use Rattle.chains.specs.Sound.{ValidLayout, DistinctNames, entries}
use Rattle.rules.specs.Model.{Model, File, cut, without}
use Rattle.rules.specs.Effects.{placed, lowest, erased, rewritten, with_places, saved}
use Rattle.rules.specs.Matching.{Matches, Unused, Rearranged, keep, swap, join}
use Rattle.rules.specs.Runs.{files_in, file_of}
use Rattle.rules.proofs.Rearranging.{as_is, turned, mapped, kept, to_end, all_of, as_long, held, Differ, differ, held_in}
use Rattle.rules.proofs.Addresses.{Part, skip, part_itself, part_nil, part_before, part_drop, part_front, ats, addresses}
use Rattle.rules.proofs.Addresses
use Rattle.rules.proofs.Edited.{Edits, named_held, distinct_differ, still_usable, still_apart}

abbrev bytes_of : List Placed → List (List ℕ)
bytes_of = map (λ p. p.bytes)

abbrev WellFormed : List Placed → Type 0
WellFormed = AllByRecursion (λ p. length p.bytes ≡ 128)

-- ---- records written

pub length_cut : (m : ℕ) (bs : List ℕ) → length (cut 128 m bs) ≡ m
length_cut zero bs = refl
length_cut (suc m) bs = ap suc (length_cut m (drop 128 bs))

pub cut_whole : (m : ℕ) (bs : List ℕ) → 128 * m ≤ length bs → AllByRecursion (λ r. length r ≡ 128) (cut 128 m bs)
cut_whole zero bs h = tt
cut_whole (suc m) bs h = (length-take-le 128 bs (omega arith), cut_whole m (drop 128 bs) (simp length-drop (omega arith)))

pub bytes_placed : (ns : List ℕ) (rs : List (List ℕ)) → length rs ≡ length ns → bytes_of (placed ns rs) ≡ rs
bytes_placed [] [] h = refl
bytes_placed [] (r ∷ rs) h = absurd (omega arith)
bytes_placed (n ∷ ns) [] h = refl
bytes_placed (n ∷ ns) (r ∷ rs) h = ap (λ xs. r ∷ xs) (bytes_placed ns rs (omega arith))

pub ats_placed : (ns : List ℕ) (rs : List (List ℕ)) → length rs ≡ length ns → ats (placed ns rs) ≡ ns
ats_placed [] rs h = refl
ats_placed (n ∷ ns) [] h = absurd (omega arith)
ats_placed (n ∷ ns) (r ∷ rs) h = ap (λ xs. n ∷ xs) (ats_placed ns rs (omega arith))

placed_whole : (ns : List ℕ) (rs : List (List ℕ)) → AllByRecursion (λ r. length r ≡ 128) rs → WellFormed (placed ns rs)
placed_whole [] rs h = tt
placed_whole (n ∷ ns) [] h = tt
placed_whole (n ∷ ns) (r ∷ rs) h = (h.0, placed_whole ns rs h.1)

pub writes : (c : ℕ) (taken buf : List ℕ) → 128 * length taken ≤ length buf →
    Edits (λ ps. take c ps ++ (placed taken (cut 128 (length taken) buf) ++ drop c ps)) (λ rs. take c rs ++ (cut 128 (length taken) buf ++ drop c rs)) taken
writes c taken buf room =
    let rs = cut 128 (length taken) buf in
    let new = placed taken rs in
    let long : length rs ≡ length taken = length_cut (length taken) buf in
    record {
      alike = λ ps.
          let e1 = map-append (λ (p : Placed). p.bytes) (take c ps) (new ++ drop c ps) in
          let e2 = map-append (λ (p : Placed). p.bytes) new (drop c ps) in
          let e3 = bytes_placed taken rs long in
          let e4 = take-map (λ (p : Placed). p.bytes) c ps in
          let e5 = drop-map (λ (p : Placed). p.bytes) c ps in
          cc;
      part = λ ps.
          let e1 = map-append (λ (p : Placed). p.at) (take c ps) (new ++ drop c ps) in
          let e2 = map-append (λ (p : Placed). p.at) new (drop c ps) in
          let e3 = ats_placed taken rs long in
          let e4 = take-map (λ (p : Placed). p.at) c ps in
          let e5 = drop-map (λ (p : Placed). p.at) c ps in
          let now : take c (ats ps) ++ (taken ++ drop c (ats ps)) ≡ ats (take c ps ++ (new ++ drop c ps)) = cc in
          let then : taken ++ (take c (ats ps) ++ drop c (ats ps)) ≡ taken ++ ats ps = ap (λ xs. taken ++ xs) (take-append-drop c (ats ps)) in
          subst (λ xs. Part xs (taken ++ ats ps)) now (subst (λ ys. Part (take c (ats ps) ++ (taken ++ drop c (ats ps))) ys) then (part_front (take c (ats ps)) taken (drop c (ats ps))));
      whole = λ ps h.
          All-append _ (take c ps) (new ++ drop c ps) (All-take _ c ps h)
          (All-append _ new (drop c ps) (placed_whole taken rs (cut_whole (length taken) buf room)) (All-drop _ c ps h));
    }

-- ---- records deleted

pub deletes : (before n : ℕ) →
    Edits (λ ps. take before ps ++ drop (before + min n (length ps - before)) ps) (λ rs. take before rs ++ drop (before + min n (length rs - before)) rs) []
deletes before n = record {
  alike = λ ps.
      let past = before + min n (length ps - before) in
      let e1 = map-append (λ (p : Placed). p.bytes) (take before ps) (drop past ps) in
      let e2 = take-map (λ (p : Placed). p.bytes) before ps in
      let e3 = drop-map (λ (p : Placed). p.bytes) past ps in
      let e4 = length-map ps (λ (p : Placed). p.bytes) in
      cc;
  part = λ ps.
      let m = min n (length ps - before) in
      let e1 = map-append (λ (p : Placed). p.at) (take before ps) (drop (before + m) ps) in
      let e2 = take-map (λ (p : Placed). p.at) before ps in
      let e3 = drop-map (λ (p : Placed). p.at) (before + m) ps in
      let e4 = drop-drop m before (ats ps) in
      let now : take before (ats ps) ++ drop m (drop before (ats ps)) ≡ ats (take before ps ++ drop (before + m) ps) = cc in
      subst (λ xs. Part xs (ats ps)) now
      (subst (λ ys. Part (take before (ats ps) ++ drop m (drop before (ats ps))) ys) (take-append-drop before (ats ps)) (part_before (take before (ats ps)) (part_drop m (drop before (ats ps)))));
  whole = λ ps h.
      let past = before + min n (length ps - before) in
      All-append _ (take before ps) (drop past ps) (All-take _ before ps h) (All-drop _ past ps h);
}

pub empties : Edits (λ _. []) (λ _. []) []
empties = record { alike = λ ps. refl; part = λ ps. part_nil (ats ps); whole = λ ps h. tt }

-- ---- a record rewritten

bytes_rewritten : (i : ℕ) (bs : List ℕ) (ps : List Placed) → bytes_of (rewritten i bs ps) ≡ set (bytes_of ps) i bs
bytes_rewritten i bs [] = refl
bytes_rewritten zero bs (p ∷ ps) = refl
bytes_rewritten (suc i) bs (p ∷ ps) = ap (λ xs. p.bytes ∷ xs) (bytes_rewritten i bs ps)

pub ats_rewritten : (i : ℕ) (bs : List ℕ) (ps : List Placed) → ats (rewritten i bs ps) ≡ ats ps
ats_rewritten i bs [] = refl
ats_rewritten zero bs (p ∷ ps) = refl
ats_rewritten (suc i) bs (p ∷ ps) = ap (λ xs. p.at ∷ xs) (ats_rewritten i bs ps)

whole_rewritten : (i : ℕ) (bs : List ℕ) → length bs ≡ 128 → (ps : List Placed) → WellFormed ps → WellFormed (rewritten i bs ps)
whole_rewritten i bs l [] h = h
whole_rewritten zero bs l (p ∷ ps) h = (l, h.1)
whole_rewritten (suc i) bs l (p ∷ ps) h = (h.0, whole_rewritten i bs l ps h.1)

pub rewrites : (i : ℕ) (bs : List ℕ) → length bs ≡ 128 → Edits (rewritten i bs) (λ rs. set rs i bs) []
rewrites i bs l = record {
  alike = bytes_rewritten i bs;
  part = λ ps. subst (λ xs. Part xs (ats ps)) (sym (ats_rewritten i bs ps)) (part_itself (ats ps));
  whole = whole_rewritten i bs l;
}

-- ---- files and entries

pub files_entries : (es : List (Option Entry)) → files_in es ≡ map file_of (entries es)
files_entries [] = refl
files_entries (None ∷ es) = files_entries es
files_entries (Some f ∷ es) = ap (λ xs. file_of f ∷ xs) (files_entries es)

pub differ_distinct : (es : List (Option Entry)) → Differ (files_in es) → DistinctNames (entries es)
differ_distinct [] h = h
differ_distinct (None ∷ es) h = differ_distinct es h
differ_distinct (Some f ∷ es) h = (named_held f.name es ∙ h.0, differ_distinct es h.1)

-- ---- a file made

length_lowest : (f : Entry) (es : List (Option Entry)) → length (lowest f es) ≡ length es
length_lowest f [] = refl
length_lowest f (None ∷ es) = refl
length_lowest f (Some g ∷ es) = ap suc (length_lowest f es)

pub entries_lowest : (f : Entry) (es : List (Option Entry)) → length (entries es) < length es → Rearranged (entries (lowest f es)) (f ∷ entries es)
entries_lowest f [] h = absurd (omega arith)
entries_lowest f (None ∷ es) h = as_is (f ∷ entries es)
entries_lowest f (Some g ∷ es) h = join (keep g (entries_lowest f es (omega arith))) (swap g f (entries es))

pub addresses_lowest : (f : Entry) (es : List (Option Entry)) → Part (addresses (lowest f es)) ((f.at ∷ ats f.records) ++ addresses es)
addresses_lowest f [] = part_nil _
addresses_lowest f (None ∷ es) = part_itself _
addresses_lowest f (Some g ∷ es) =
    Addresses.join (part_before (g.at ∷ ats g.records) (addresses_lowest f es)) (part_front (g.at ∷ ats g.records) (f.at ∷ ats f.records) (addresses es))

module _ (b b' : Model) (d : Layout) (m : Matches b d) (n : List ℕ) (at : ℕ)
    (lawful : legal n ≡ true) (new : held n b.files ≡ false) (room : length b.files < 96) (unused : Unused d (at ∷ [])) where
  abbrev made_entry : Entry
  made_entry = record { name = n; at = at; records = [] }

  as_many : length (files_in d.places) ≡ length (entries d.places)
  as_many = rw (files_entries d.places) (length-map (entries d.places) file_of)

  fits : length (entries d.places) < length d.places
  fits = omega (arith, as_many, as_long m.files, m.proper.places)

  made_files : Rearranged (files_in (lowest made_entry d.places)) (file_of made_entry ∷ files_in d.places)
  made_files = rw (files_entries (lowest made_entry d.places), files_entries d.places) (mapped file_of (entries_lowest made_entry d.places fits))

  made_proper : ValidLayout (with_places d (lowest made_entry d.places))
  made_proper =
      let p = m.proper in
      let back = turned (entries_lowest made_entry d.places fits) in
      let part = addresses_lowest made_entry d.places in
      record {
        size = p.size;
        id = p.id;
        reserved_links = p.reserved_links;
        map = p.map;
        places = length_lowest made_entry d.places ∙ p.places;
        names = all_of _ back (lawful, p.names);
        distinct = differ_distinct (lowest made_entry d.places) (differ (turned made_files) (held_in n m.files ∙ new, distinct_differ d.places p.distinct));
        usable = still_usable d p (at ∷ []) unused (lowest made_entry d.places) part;
        apart = still_apart d p (at ∷ []) unused (lowest made_entry d.places) part;
        records = all_of _ back (tt, p.records);
      }

  pub matches_made : b'.size ≡ b.size → b'.files ≡ b.files ++ record { name = n; records = [] } ∷ [] → Matches b' (with_places d (lowest made_entry d.places))
  matches_made size files = record {
    proper = made_proper;
    size = m.size ∙ sym size;
    files = rw files (join made_files (join (keep (file_of made_entry) m.files) (to_end (file_of made_entry) b.files)));
  }

-- ---- a file erased

part_skips : {A : Type 0} (zs : List A) {xs ys : List A} → Part xs ys → Part xs (zs ++ ys)
part_skips [] p = p
part_skips (z ∷ zs) p = skip z (part_skips zs p)

module _ (n : List ℕ) where
  length_erased : (es : List (Option Entry)) → length (erased n es) ≡ length es
  length_erased [] = refl
  length_erased (None ∷ es) = ap suc (length_erased es)
  length_erased (Some f ∷ es) = ap suc (length_erased es)

  entries_erased : (es : List (Option Entry)) → entries (erased n es) ≡ filter (λ f. not (same n f.name)) (entries es)
  entries_erased [] = refl
  entries_erased (None ∷ es) = entries_erased es
  entries_erased (Some f ∷ es) = step (same n f.name) (entries_erased es)
    where
      step : (t : Bool) → entries (erased n es) ≡ filter (λ f. not (same n f.name)) (entries es) →
          entries (cond t None (Some f) ∷ erased n es) ≡ cond (not t) (f ∷ filter (λ f. not (same n f.name)) (entries es)) (filter (λ f. not (same n f.name)) (entries es))
      step true e = e
      step false e = ap (λ xs. f ∷ xs) e

  files_erased : (es : List (Option Entry)) → files_in (erased n es) ≡ without n (files_in es)
  files_erased [] = refl
  files_erased (None ∷ es) = files_erased es
  files_erased (Some f ∷ es) = step (same n f.name) (files_erased es)
    where
      step : (t : Bool) → files_in (erased n es) ≡ without n (files_in es) →
          files_in (cond t None (Some f) ∷ erased n es) ≡ cond (not t) (file_of f ∷ without n (files_in es)) (without n (files_in es))
      step true e = e
      step false e = ap (λ xs. file_of f ∷ xs) e

  addresses_erased : (es : List (Option Entry)) → Part (addresses (erased n es)) (addresses es)
  addresses_erased [] = part_nil []
  addresses_erased (None ∷ es) = addresses_erased es
  addresses_erased (Some f ∷ es) = step (same n f.name) (addresses_erased es)
    where
      step : (t : Bool) → Part (addresses (erased n es)) (addresses es) → Part (addresses (cond t None (Some f) ∷ erased n es)) (f.at ∷ (ats f.records ++ addresses es))
      step true p = part_skips (f.at ∷ ats f.records) p
      step false p = part_before (f.at ∷ ats f.records) p

held_kept : (p : File → Bool) (m : List ℕ) (fs : List File) → held m fs ≡ false → held m (filter p fs) ≡ false
held_kept p m [] h = h
held_kept p m (f ∷ fs) h =
    let parts = or_parts (same m f.name) (held m fs) h in
    step (p f) parts.0 (held_kept p m fs parts.1)
  where
    step : (t : Bool) → same m f.name ≡ false → held m (filter p fs) ≡ false → held m (cond t (f ∷ filter p fs) (filter p fs)) ≡ false
    step true a k = or_from (same m f.name) (held m (filter p fs)) a k
    step false a k = k

differ_kept : (p : File → Bool) (fs : List File) → Differ fs → Differ (filter p fs)
differ_kept p [] h = h
differ_kept p (f ∷ fs) h = step (p f) (held_kept p f.name fs h.0) (differ_kept p fs h.1)
  where
    step : (t : Bool) → held f.name (filter p fs) ≡ false → Differ (filter p fs) → Differ (cond t (f ∷ filter p fs) (filter p fs))
    step true a k = (a, k)
    step false a k = k

-- the map written anew
pub proper_saved : (d : Layout) → ValidLayout d → ValidLayout (saved d)
proper_saved d p = record {
  size = p.size;
  id = p.id;
  reserved_links = p.reserved_links;
  map = refl;
  places = p.places;
  names = p.names;
  distinct = p.distinct;
  usable = p.usable;
  apart = p.apart;
  records = p.records;
}

pub none_taken : (d : Layout) → Unused d []
none_taken d = record { distinct = tt; usable = tt; outside = tt }

pub matches_erased : (b b' : Model) (d : Layout) (n : List ℕ) → Matches b d → b'.size ≡ b.size → b'.files ≡ without n b.files → Matches b' (saved (with_places d (erased n d.places)))
matches_erased b b' d n m size files =
    let p = m.proper in
    let part = addresses_erased n d.places in
    record {
      proper = proper_saved (with_places d (erased n d.places)) (record {
        size = p.size;
        id = p.id;
        reserved_links = p.reserved_links;
        map = p.map;
        places = length_erased n d.places ∙ p.places;
        names = rw (entries_erased n d.places) (all_kept_by (λ f. not (same n f.name)) _ (entries d.places) p.names);
        distinct = differ_distinct (erased n d.places) (rw (files_erased n d.places) (differ_kept _ (files_in d.places) (distinct_differ d.places p.distinct)));
        usable = still_usable d p [] (none_taken d) (erased n d.places) part;
        apart = still_apart d p [] (none_taken d) (erased n d.places) part;
        records = rw (entries_erased n d.places) (all_kept_by (λ f. not (same n f.name)) _ (entries d.places) p.records);
      });
      size = m.size ∙ sym size;
      files = rw (files_erased n d.places, files) (kept (λ f. not (same n f.name)) m.files);
    }
