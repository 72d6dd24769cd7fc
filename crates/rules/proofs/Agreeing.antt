-- A disk that shows a layout which matches a model agrees with the model.
use Rattle.std.proofs.Common.{◌≡◌, ℕ, Bool, false, not, ◌&&◌, ◌||◌, ltb, leb, List, [], ◌∷◌, ◌++◌, map, reverse, length, Some, None, Option, sym, refl, ap, ◌∙◌, subst}
use mathlib.Core.List.{reverse-cons}
use Rattle.std.specs.List.{AllByRecursion}
use Rattle.std.proofs.lemmas.Bool.{or_parts, cond-false}
use Rattle.std.proofs.lemmas.List.{length-map, map-append}
use Rattle.std.proofs.ByRecursion.{All-map}
use Rattle.freespace.specs.Sets.{counted}
use Rattle.chains.specs.Names.{same}
use Rattle.chains.specs.Layout.{Disk, Layout, Entry, reserved, member, numbers, chains}
use Rattle.chains.specs.Sound.{DistinctNumbers, DistinctNames, named, entries}
use Rattle.rules.specs.Model.{Model, find}
use Rattle.rules.specs.Matching.{Matches}
use Rattle.rules.specs.Runs.{Agrees, DirectoryEntry, lists, EachOnce, directory_of, chain_forward, chain_backward, chain_sectors, contents, files_in, file_of}
use Rattle.rules.proofs.Rearranging.{found, as_long, held_in, held_found, same_itself, same_turned}
use Rattle.rules.proofs.Addresses.{ats, addresses, numbers_chains}
use Rattle.rules.proofs.Edited.{named_held, distinct_differ}
use Rattle.rules.proofs.Changes.{files_entries}
use Rattle.rules.proofs.Counting.{all_both, counts_free}
use Rattle.rules.proofs.Walks.{Walked}

abbrev pub listed_of : Entry → DirectoryEntry
listed_of f = record { name = f.name; at = f.at }

lists_named : (n : List ℕ) (fs : List Entry) → lists n (map listed_of fs) ≡ named n fs
lists_named n [] = refl
lists_named n (f ∷ fs) = ap (λ t. same n f.name || t) (lists_named n fs)

listed_once : (fs : List Entry) → DistinctNames fs → EachOnce (map listed_of fs)
listed_once [] h = h
listed_once (f ∷ fs) h = (lists_named f.name fs ∙ h.0, listed_once fs h.1)

pub none_named : (n : List ℕ) (fs : List Entry) → named n fs ≡ false → AllByRecursion (λ g. same n g.name ≡ false) fs
none_named n [] h = tt
none_named n (f ∷ fs) h = let parts = or_parts (same n f.name) (named n fs) h in (parts.0, none_named n fs parts.1)

-- each entry is found under its name
entries_found : (es : List (Option Entry)) → DistinctNames (entries es) → AllByRecursion (λ f. find f.name (files_in es) ≡ Some (map (λ p. p.bytes) f.records)) (entries es)
entries_found [] h = tt
entries_found (None ∷ es) h = entries_found es h
entries_found (Some f ∷ es) h = (
  rw (same_itself f.name),
  all_both (λ g. same f.name g.name ≡ false) (λ g. find g.name (files_in es) ≡ Some (map (λ p. p.bytes) g.records)) (λ g. find g.name (files_in (Some f ∷ es)) ≡ Some (map (λ p. p.bytes) g.records))
      (λ g o k. cond-false (same g.name f.name) (Some (file_of f).records) (find g.name (files_in es)) (same_turned g.name f.name ∙ o) ∙ k)
      (entries es) (none_named f.name (entries es) h.0) (entries_found es h.1),
)

module _ (ss : Disk) where
  contents_reverse : (xs : List ℕ) → contents ss (reverse xs) ≡ reverse (contents ss xs)
  contents_reverse [] = refl
  contents_reverse (x ∷ xs) =
      ap (contents ss) (reverse-cons x xs) ∙
      (map-append _ (reverse xs) (x ∷ []) ∙
      (ap (λ zs. zs ++ contents ss (x ∷ [])) (contents_reverse xs) ∙ sym (reverse-cons _ (contents ss xs))))

  sectors_listed : (es : List (Option Entry)) → AllByRecursion (Walked ss) (entries es) → chain_sectors ss (map listed_of (entries es)) ≡ addresses es
  sectors_listed [] h = refl
  sectors_listed (None ∷ es) h = sectors_listed es h
  sectors_listed (Some f ∷ es) h =
      let one : chain_forward ss f.at ≡ ats f.records = h.0.forth in
      let rest = sectors_listed es h.1 in
      cc

pub agrees : (b : Model) (d : Layout) (ss : Disk) (free : ℕ → Bool) → Matches b d → length ss ≡ d.size → directory_of ss ≡ map listed_of (entries d.places) → AllByRecursion (Walked ss) (entries d.places) →
    ((n : ℕ) → free n ≡ (leb reserved n && (ltb n (length ss) && not (member n (numbers (chains d.places)))))) → Agrees b ss free
agrees b d ss free m size dir walked law =
    let fs = entries d.places in
    let differ = distinct_differ d.places m.proper.distinct in
    let used : chain_sectors ss (directory_of ss) ≡ numbers (chains d.places) = ap (chain_sectors ss) dir ∙ (sectors_listed ss d.places walked ∙ sym (numbers_chains d.places)) in
    record {
      exactly = λ n. ap (lists n) dir ∙ (lists_named n fs ∙ (named_held n d.places ∙ (held_in n m.files ∙ sym (held_found n b.files))));
      each_once = subst EachOnce (sym dir) (listed_once fs m.proper.distinct);
      as_many = ap length dir ∙ (length-map fs listed_of ∙ (sym (length-map fs file_of) ∙ (ap length (sym (files_entries d.places)) ∙ as_long m.files)));
      forward =
          subst (AllByRecursion (λ e. find e.name b.files ≡ Some (contents ss (chain_forward ss e.at)))) (sym dir)
          (All-map (λ (e : DirectoryEntry). find e.name b.files ≡ Some (contents ss (chain_forward ss e.at))) listed_of fs
          (all_both (λ f. find f.name (files_in d.places) ≡ Some (map (λ p. p.bytes) f.records)) (Walked ss) (λ f. find f.name b.files ≡ Some (contents ss (chain_forward ss f.at)))
          (λ f e w. sym (found f.name m.files differ) ∙ (e ∙ ap (λ rs. Some rs) (sym (ap (contents ss) w.forth ∙ w.holds_bytes)))) fs (entries_found d.places m.proper.distinct) walked));
      backward =
          subst (AllByRecursion (λ e. contents ss (chain_backward ss e.at) ≡ reverse (contents ss (chain_forward ss e.at)))) (sym dir)
          (All-map (λ (e : DirectoryEntry). contents ss (chain_backward ss e.at) ≡ reverse (contents ss (chain_forward ss e.at))) listed_of fs
          (all_both (Walked ss) (Walked ss) (λ f. contents ss (chain_backward ss f.at) ≡ reverse (contents ss (chain_forward ss f.at)))
          (λ f w _. ap (contents ss) w.back ∙ (contents_reverse ss (ats f.records) ∙ ap (λ xs. reverse (contents ss xs)) (sym w.forth))) fs walked walked));
      apart = subst DistinctNumbers (sym used) m.proper.apart;
      size = sym m.size ∙ sym size;
      counts = ap (counted free) size ∙ counts_free b d free m (λ n. law n ∙ ap (λ s. leb reserved n && (ltb n s && not (member n (numbers (chains d.places))))) size);
      unused = λ n. law n ∙ ap (λ ns. leb reserved n && (ltb n (length ss) && not (member n ns))) (sym used);
    }
