-- The free sectors after a file was made or has lost its records, and when there is one left to take.
use Rattle.std.proofs.Common.{◌≡◌, ℕ, zero, suc, ◌<◌, Bool, true, false, cond, not, ◌&&◌, ◌||◌, eqb, ltb, leb, List, [], ◌∷◌, ◌++◌, map, length, get_or, set, Some, None, Option, sym, refl, ap, ◌∙◌, subst, arith}
use Rattle.std.proofs.lemmas.Bool.{and_parts, ltb-true, ne_eqb, eq-eqb}
use Rattle.freespace.specs.Sets.{Picks, counted}
use Rattle.freespace.proofs.Counts.{counted_none, counted_removed}
use Rattle.chains.specs.Changes.{first_empty}
use Rattle.chains.specs.Layout.{Disk, Layout, Entry, reserved, member, numbers, chains}
use Rattle.chains.specs.Sound.{ValidLayout}
use Rattle.rules.specs.Effects.{in_file, lowest, with_places}
use Rattle.rules.specs.Laid.{Laid, Spares}
use Rattle.rules.specs.Model.{Model, available}
use Rattle.rules.proofs.Addresses.{Part, join, part_before, part_front, part_itself, part_member, ats, addresses, numbers_chains}
use Rattle.rules.proofs.Changes.{addresses_lowest}
use Rattle.rules.proofs.FreedChain.{by_falsity, own, own_apart, own_usable, used_by_either, used_by_one}
use Rattle.rules.proofs.Laying.{laid_agrees}
use Rattle.rules.proofs.Lookups.{ListedAt}

-- ---- a new file

-- where there is an empty place, the new file's sectors stand beside those of the others
own_lowest : (f : Entry) (es : List (Option Entry)) (k p : ℕ) → first_empty k es ≡ Some p → Part (own f ++ addresses es) (addresses (lowest f es))
own_lowest f [] k p e = let z : ◌≡◌ {A = ℕ} 0 1 = cc in absurd (omega arith)
own_lowest f (None ∷ es) k p e = part_itself (own f ++ addresses es)
own_lowest f (Some g ∷ es) k p e = join (part_front (own f) (own g) (addresses es)) (part_before (own g) (own_lowest f es _ p e))

taken_away : (here low high used : Bool) → cond here false (low && (high && not used)) ≡ (low && (high && not (here || used)))
taken_away true true true u = refl
taken_away true true false u = refl
taken_away true false h u = refl
taken_away false l h u = refl

module _ (d : Layout) (f : Entry) (bare : f.records ≡ []) (p : ℕ) (empty : first_empty 0 d.places ≡ Some p) where
  used_then : (n : ℕ) → member n (numbers (chains (lowest f d.places))) ≡ (eqb n f.at || member n (numbers (chains d.places)))
  used_then n =
      ap (member n) (numbers_chains (lowest f d.places))
      ∙ (by_falsity (member n (addresses (lowest f d.places))) (member n (own f ++ addresses d.places)) (part_member n (own_lowest f d.places 0 p empty)) (part_member n (addresses_lowest f d.places))
      ∙ (ap (λ ps. member n ((f.at ∷ ats ps) ++ addresses d.places)) bare
      ∙ ap (λ ns. eqb n f.at || member n ns) (sym (numbers_chains d.places))))

  pub made_spares : (free after : ℕ → Bool) → Spares d free → ((n : ℕ) → after n ≡ cond (eqb n f.at) false (free n)) → Spares (with_places d (lowest f d.places)) after
  made_spares free after spare given n =
      given n
      ∙ (ap (λ x. cond (eqb n f.at) false x) (spare n)
      ∙ (taken_away (eqb n f.at) (leb reserved n) (ltb n d.size) (member n (numbers (chains d.places)))
      ∙ ap (λ x. leb reserved n && (ltb n d.size && not x)) (sym (used_then n))))

-- ---- a file without its records

-- the file's own place with these records only, beside the others
own_there : (es : List (Option Entry)) (p : ℕ) (f g : Entry) → get_or es p None ≡ Some f → Part (own g ++ addresses (set es p None)) (addresses (set es p (Some g)))
own_there [] p f g e = let z : ◌≡◌ {A = ℕ} 0 1 = cc in absurd (omega arith)
own_there (None ∷ es) zero f g e = part_itself (own g ++ addresses es)
own_there (Some h ∷ es) zero f g e = part_itself (own g ++ addresses es)
own_there (None ∷ es) (suc p) f g e = own_there es p f g e
own_there (Some h ∷ es) (suc p) f g e = join (part_front (own g) (own h) (addresses (set es p None))) (part_before (own h) (own_there es p f g e))

there_own : (es : List (Option Entry)) (p : ℕ) (f g : Entry) → get_or es p None ≡ Some f → Part (addresses (set es p (Some g))) (own g ++ addresses (set es p None))
there_own [] p f g e = let z : ◌≡◌ {A = ℕ} 0 1 = cc in absurd (omega arith)
there_own (None ∷ es) zero f g e = part_itself (own g ++ addresses es)
there_own (Some h ∷ es) zero f g e = part_itself (own g ++ addresses es)
there_own (None ∷ es) (suc p) f g e = there_own es p f g e
there_own (Some h ∷ es) (suc p) f g e = join (part_before (own h) (there_own es p f g e)) (part_front (own h) (own g) (addresses (set es p None)))

given_back : (at_descriptor at_record other low high : Bool) → ((at_descriptor || at_record) ≡ true → other ≡ false) → ((at_descriptor || at_record) ≡ true → (low && high) ≡ true) → (at_record ≡ true → at_descriptor ≡ false) →
    ((low && (high && not ((at_descriptor || at_record) || other))) || at_record) ≡ (low && (high && not (at_descriptor || other)))
given_back d true o l h one usable apart =
    let off = apart refl in
    let whole : (d || true) ≡ true = ap (λ x. x || true) off in
    let inside = and_parts l h (usable whole) in
    let alone = one whole in
    rw (off, inside.0, inside.1, alone)
given_back true false o l h one usable apart = plain (l && (h && false))
  where
    plain : (x : Bool) → (x || false) ≡ x
    plain true = refl
    plain false = refl
given_back false false o l h one usable apart = plain (l && (h && not o))
  where
    plain : (x : Bool) → (x || false) ≡ x
    plain true = refl
    plain false = refl

module _ (d : Layout) (proper : ValidLayout d) (n : List ℕ) (p a : ℕ) (listed : ListedAt n d.places p a) where
  abbrev f : Entry
  f = listed.file

  -- the file with no record
  abbrev bare : Entry
  bare = record { name = f.name; at = f.at; records = [] }

  used_still : (m : ℕ) → member m (numbers (chains (set d.places p (Some bare)))) ≡ (eqb m f.at || member m (numbers (chains (set d.places p None))))
  used_still m =
      ap (member m) (numbers_chains (set d.places p (Some bare)))
      ∙ (by_falsity (member m (addresses (set d.places p (Some bare)))) (member m (own bare ++ addresses (set d.places p None)))
      (part_member m (own_there d.places p f bare listed.entry)) (part_member m (there_own d.places p f bare listed.entry))
      ∙ ap (λ ns. eqb m f.at || member m ns) (sym (numbers_chains (set d.places p None))))

  pub emptied_spares : (free after : ℕ → Bool) → Spares d free → ((m : ℕ) → after m ≡ (free m || member m (map (λ q. q.at) f.records))) → Spares (with_places d (in_file n (λ _. []) d.places)) after
  emptied_spares free after spare given m =
      let others = member m (numbers (chains (set d.places p None))) in
      given m
      ∙ (ap (λ x. x || member m (ats f.records)) (spare m ∙ ap (λ x. leb reserved m && (ltb m d.size && not x)) (used_by_either d proper p f listed.entry m))
      ∙ (given_back (eqb m f.at) (member m (ats f.records)) others (leb reserved m) (ltb m d.size) (used_by_one d proper p f listed.entry m) (own_usable d proper p f listed.entry m) (own_apart d proper p f listed.entry m)
      ∙ (ap (λ x. leb reserved m && (ltb m d.size && not x)) (sym (used_still m))
      ∙ ap (λ es. leb reserved m && (ltb m d.size && not (member m (numbers (chains es))))) (sym (listed.changed (λ _. []))))))

-- ---- whether a sector is left

module _ (b : Model) (l : Layout) (ss : Disk) (free : ℕ → Bool) (laid : Laid b l ss) (spare : Spares l free) where
  counts : counted free (length ss) ≡ available b
  counts = (laid_agrees b l ss free laid spare).counts

  pub none_left : Picks None free → eqb (available b) 0 ≡ true
  none_left none = eq-eqb (available b) 0 (sym counts ∙ counted_none free (length ss) none)

  -- of the set without n there is one fewer
  pub some_left : (n : ℕ) → Picks (Some n) free → eqb (available b) 0 ≡ false
  some_left n one =
      let inside = (and_parts (leb reserved n) (ltb n l.size && not (member n (numbers (chains l.places)))) (sym (spare n) ∙ one)).1 in
      let within : n < l.size = ltb-true n l.size (and_parts (ltb n l.size) (not (member n (numbers (chains l.places)))) inside).0 in
      let long : n < length ss = subst (λ k. n < k) (sym laid.size) within in
      let fewer = counted_removed free (λ m. cond (eqb m n) false (free m)) n (length ss) (λ m. refl) long one in
      ne_eqb (available b) 0 (λ e. omega (arith, counts))
