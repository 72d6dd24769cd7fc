-- Single sectors written to a disk, as the layout that the disk then shows.
use Rattle.std.proofs.Common.{◌≡◌, ℕ, zero, suc, ◌+◌, ◌*◌, ◌/◌, ◌<◌, ◌≤◌, true, false, ◌&&◌, ◌||◌, eqb, ltb, leb, List, [], ◌∷◌, ◌++◌, map, length, get_or, set, Some, None, Option, sym, refl, ap, ◌∙◌, subst, ⊎_elim, arith}
use Rattle.std.specs.List.{range_with_len, AllByRecursion}
use Rattle.std.proofs.lemmas.Bool.{both_ways, cases_eq, cases_Bool, eqb-true, eqb-false, eq-eqb, ne_eqb, or_cases, or_parts, or_from, or_left, or_right, and_parts, leb-true}
use Rattle.std.proofs.lemmas.List.{ext_get_or, get_or-set_same, get_or-set_other, set-set, set_comm}
use Rattle.std.proofs.ByRecursion.{All-append, All-map, All-weaker}
use Rattle.device.specs.declared.sector.Sector.{Sector}
use Rattle.device.specs.Device.{blank}
use Rattle.chains.specs.Layout.{Disk, Layout, Entry, NumberedSector, numbered, reserved, member, numbers, linked, chain, chains, sector, place_bytes, directory, directory_bytes, directory_back, directory_forward, label_and_map, fixed_sectors, overwritten, Contains}
use Rattle.chains.specs.Sound.{DistinctNumbers, ValidLayout}
use Rattle.chains.specs.Changes.{LaidOut, directory_sector}
use Rattle.chains.proofs.Over.{length_over}
use Rattle.rules.proofs.Over.{over_others, over_shows, over_same, shown}
use Rattle.rules.proofs.Walks.{all_left, all_right}

-- ---- disks that show the same sectors

shown_alike : (xs : List NumberedSector) (ss ts : Disk) (n : ℕ) → member n (numbers xs) ≡ true → Contains xs ss → Contains xs ts → get_or ss n blank ≡ get_or ts n blank
shown_alike [] ss ts n h a b = absurd (both_ways false refl h)
shown_alike (x ∷ xs) ss ts n h a b =
    ⊎_elim
    (λ (e : eqb n x.number ≡ true). subst (λ k. get_or ss k blank ≡ get_or ts k blank) (sym (eqb-true n x.number e)) (a.0 ∙ sym b.0))
    (λ (e : member n (numbers xs) ≡ true). shown_alike xs ss ts n e a.1 b.1)
    (or_cases (eqb n x.number) (member n (numbers xs)) h)

-- a disk that shows these sectors, and has the others as before, is the disk with them written over
pub relaid : (xs : List NumberedSector) (ss ss' : Disk) → length ss' ≡ length ss → DistinctNumbers (numbers xs) → AllByRecursion (λ n. n < length ss) (numbers xs) → Contains xs ss' →
    ((n : ℕ) → member n (numbers xs) ≡ false → get_or ss' n blank ≡ get_or ss n blank) → ss' ≡ overwritten xs ss
relaid xs ss ss' long apart within shows others =
    ext_get_or blank ss' (overwritten xs ss) (long ∙ sym (length_over xs ss))
    (λ n _.
    ⊎_elim
    (λ (e : member n (numbers xs) ≡ true). shown_alike xs ss' (overwritten xs ss) n e shows (over_shows xs ss apart within))
    (λ (e : member n (numbers xs) ≡ false). others n e ∙ sym (over_others xs ss n e))
    (cases_Bool (member n (numbers xs))))

-- ---- a sector written before all of them are written over

over_beside : (xs : List NumberedSector) (ss : Disk) (n : ℕ) (s : Sector) → member n (numbers xs) ≡ false → overwritten xs (set ss n s) ≡ set (overwritten xs ss) n s
over_beside [] ss n s h = refl
over_beside (x ∷ xs) ss n s h =
    let parts = or_parts (eqb n x.number) (member n (numbers xs)) h in
    ap (λ (zs : Disk). set zs x.number x.content) (over_beside xs ss n s parts.1) ∙
    set_comm (overwritten xs ss) n x.number s x.content (eqb-false n x.number parts.0)

-- one of their number is forgotten
pub over_forgets : (xs : List NumberedSector) (ss : Disk) (n : ℕ) (s : Sector) → member n (numbers xs) ≡ true → overwritten xs (set ss n s) ≡ overwritten xs ss
over_forgets [] ss n s h = absurd (both_ways false refl h)
over_forgets (x ∷ xs) ss n s h =
    ⊎_elim
    (λ (e : member n (numbers xs) ≡ true). ap (λ (zs : Disk). set zs x.number x.content) (over_forgets xs ss n s e))
    (λ (o : member n (numbers xs) ≡ false).
    ap (λ (zs : Disk). set zs x.number x.content) (over_beside xs ss n s o) ∙
    ⊎_elim
    (λ (e : eqb n x.number ≡ true).
    subst (λ k. set (set (overwritten xs ss) k s) x.number x.content ≡ set (overwritten xs ss) x.number x.content) (sym (eqb-true n x.number e)) (set-set (overwritten xs ss) x.number s x.content))
    (λ (e : member n (numbers xs) ≡ true). absurd (both_ways (member n (numbers xs)) o e))
    (or_cases (eqb n x.number) (member n (numbers xs)) h))
    (cases_Bool (member n (numbers xs)))

-- and so are sectors written over before, where all their numbers are written again
pub over_over : (xs ys : List NumberedSector) (ss : Disk) → AllByRecursion (λ n. member n (numbers xs) ≡ true) (numbers ys) → overwritten xs (overwritten ys ss) ≡ overwritten xs ss
over_over xs [] ss h = refl
over_over xs (y ∷ ys) ss h = over_forgets xs (overwritten ys ss) y.number y.content h.0 ∙ over_over xs ys ss h.1

-- a write that leaves the disk showing the sectors, its own among them, has written them all over
pub set_over : (xs : List NumberedSector) (ss : Disk) (n : ℕ) (s : Sector) → member n (numbers xs) ≡ true → Contains xs (set ss n s) → set ss n s ≡ overwritten xs ss
set_over xs ss n s h c = sym (over_same xs (set ss n s) c) ∙ over_forgets xs ss n s h

pub sets_over : (xs : List NumberedSector) (ss : Disk) (m n : ℕ) (s t : Sector) → member m (numbers xs) ≡ true → member n (numbers xs) ≡ true → Contains xs (set (set ss m s) n t) → set (set ss m s) n t ≡ overwritten xs ss
sets_over xs ss m n s t h k c = set_over xs (set ss m s) n t k c ∙ over_forgets xs ss m s h

-- ---- among which numbers

pub beside : (xs : List NumberedSector) (ss : Disk) (n : ℕ) (s : Sector) → member n (numbers xs) ≡ false → Contains xs ss → Contains xs (set ss n s)
beside [] ss n s o h = tt
beside (x ∷ xs) ss n s o h =
    let parts = or_parts (eqb n x.number) (member n (numbers xs)) o in
    (get_or-set_other ss n x.number s blank (λ e. eqb-false n x.number parts.0 (sym e)) ∙ h.0, beside xs ss n s parts.1 h.1)

pub among_left : (n : ℕ) (xs ys : List NumberedSector) → member n (numbers xs) ≡ true → member n (numbers (xs ++ ys)) ≡ true
among_left n [] ys h = absurd (both_ways false refl h)
among_left n (x ∷ xs) ys h =
    ⊎_elim
    (λ (e : eqb n x.number ≡ true). or_left (eqb n x.number) (member n (numbers (xs ++ ys))) e)
    (λ (e : member n (numbers xs) ≡ true). or_right (eqb n x.number) (member n (numbers (xs ++ ys))) (among_left n xs ys e))
    (or_cases (eqb n x.number) (member n (numbers xs)) h)

pub among_right : (n : ℕ) (xs ys : List NumberedSector) → member n (numbers ys) ≡ true → member n (numbers (xs ++ ys)) ≡ true
among_right n [] ys h = h
among_right n (x ∷ xs) ys h = or_right (eqb n x.number) (member n (numbers (xs ++ ys))) (among_right n xs ys h)

pub among_neither : (n : ℕ) (xs ys : List NumberedSector) → member n (numbers xs) ≡ false → member n (numbers ys) ≡ false → member n (numbers (xs ++ ys)) ≡ false
among_neither n [] ys h k = k
among_neither n (x ∷ xs) ys h k =
    let parts = or_parts (eqb n x.number) (member n (numbers xs)) h in
    or_from (eqb n x.number) (member n (numbers (xs ++ ys))) parts.0 (among_neither n xs ys parts.1 k)

pub all_among : (ns : List ℕ) → AllByRecursion (λ n. member n ns ≡ true) ns
all_among [] = tt
all_among (n ∷ ns) = (or_left (eqb n n) (member n ns) (eq-eqb n n refl), All-weaker (λ m. member m ns ≡ true) (λ m. (eqb m n || member m ns) ≡ true) (λ m h. or_right (eqb m n) (member m ns) h) ns (all_among ns))

pub all_at : (P : ℕ → Type 0) (n : ℕ) (ns : List ℕ) → AllByRecursion P ns → member n ns ≡ true → P n
all_at P n [] h k = absurd (both_ways false refl k)
all_at P n (m ∷ ns) h k =
    ⊎_elim (λ (e : eqb n m ≡ true). subst P (sym (eqb-true n m e)) h.0) (λ (e : member n ns ≡ true). all_at P n ns h.1 e) (or_cases (eqb n m) (member n ns) k)

-- ---- the directory

abbrev directory_part : List (Option Entry) → ℕ → NumberedSector
directory_part es i = numbered (4 + i) (directory_sector es i)

counted_in : (lo k i : ℕ) → lo ≤ i → i < lo + k → member i (range_with_len lo k) ≡ true
counted_in lo zero i h l = absurd (omega arith)
counted_in lo (suc k) i h l =
    ⊎_elim
    (λ (e : i ≡ lo). or_left (eqb i lo) (member i (range_with_len (lo + 1) k)) (eq-eqb i lo e))
    (λ (ne : i ≡ lo → ⊥). or_right (eqb i lo) (member i (range_with_len (lo + 1) k)) (counted_in (lo + 1) k i (grind arith) (omega arith)))
    (cases_eq i lo)

numbered_in : (es : List (Option Entry)) (is : List ℕ) (i : ℕ) → member i is ≡ true → member (4 + i) (numbers (map (directory_part es) is)) ≡ true
numbered_in es [] i h = absurd (both_ways false refl h)
numbered_in es (j ∷ is) i h =
    ⊎_elim
    (λ (e : eqb i j ≡ true). or_left (eqb (4 + i) (4 + j)) (member (4 + i) (numbers (map (directory_part es) is))) (eq-eqb (4 + i) (4 + j) (ap (λ m. 4 + m) (eqb-true i j e))))
    (λ (e : member i is ≡ true). or_right (eqb (4 + i) (4 + j)) (member (4 + i) (numbers (map (directory_part es) is))) (numbered_in es is i e))
    (or_cases (eqb i j) (member i is) h)

numbered_past : (es : List (Option Entry)) (lo k n : ℕ) → 4 + (lo + k) ≤ n → member n (numbers (map (directory_part es) (range_with_len lo k))) ≡ false
numbered_past es lo zero n h = refl
numbered_past es lo (suc k) n h =
    or_from (eqb n (4 + lo)) (member n (numbers (map (directory_part es) (range_with_len (lo + 1) k)))) (ne_eqb n (4 + lo) (λ e. omega arith)) (numbered_past es (lo + 1) k n (omega arith))

numbered_before : (es : List (Option Entry)) (lo k n : ℕ) → n < 4 → member n (numbers (map (directory_part es) (range_with_len lo k))) ≡ false
numbered_before es lo zero n h = refl
numbered_before es lo (suc k) n h =
    or_from (eqb n (4 + lo)) (member n (numbers (map (directory_part es) (range_with_len (lo + 1) k)))) (ne_eqb n (4 + lo) (λ e. omega arith)) (numbered_before es (lo + 1) k n h)

pub in_directory : (es : List (Option Entry)) (i : ℕ) → i < 32 → member (4 + i) (numbers (directory es)) ≡ true
in_directory es i l = numbered_in es (range_with_len 0 32) i (counted_in 0 32 i (omega arith) (omega arith))

pub past_directory : (es : List (Option Entry)) (n : ℕ) → 36 ≤ n → member n (numbers (directory es)) ≡ false
past_directory es n h = numbered_past es 0 32 n (omega arith)

pub before_directory : (es : List (Option Entry)) (n : ℕ) → n < 4 → member n (numbers (directory es)) ≡ false
before_directory es n h = numbered_before es 0 32 n h

-- the sectors of the directory that do not hold the place p
other_sector : (es : List (Option Entry)) (p : ℕ) (o : Option Entry) (i : ℕ) → (i ≡ p / 3 → ⊥) → directory_sector es i ≡ directory_sector (set es p o) i
other_sector es p o i ne =
    let e0 = get_or-set_other es p (3 * i) o None (λ e. ne (omega arith)) in
    let e1 = get_or-set_other es p (3 * i + 1) o None (λ e. ne (omega arith)) in
    let e2 = get_or-set_other es p (3 * i + 2) o None (λ e. ne (omega arith)) in
    rw (e0, e1, e2) refl

-- the directory is the same where every place is written the same
pub directory_alike : (es es' : List (Option Entry)) → ((k : ℕ) → place_bytes (get_or es k None) ≡ place_bytes (get_or es' k None)) → directory es ≡ directory es'
directory_alike es es' h =
    let alike : (i : ℕ) → directory_bytes es i ≡ directory_bytes es' i = λ i. (let e0 = h (3 * i) in let e1 = h (3 * i + 1) in let e2 = h (3 * i + 2) in cc) in
    ap (λ (bytes : ℕ → List ℕ). map (λ i. numbered (4 + i) (sector (bytes i) (directory_back i) (directory_forward i))) (range_with_len 0 32)) (λ j i. alike i j)

shown_by : {Y : Type 0} (f : Y → NumberedSector) (ss : Disk) (ys : List Y) → Contains (map f ys) ss → AllByRecursion (λ y. get_or ss (f y).number blank ≡ (f y).content) ys
shown_by f ss [] h = tt
shown_by f ss (y ∷ ys) h = (h.0, shown_by f ss ys h.1)

-- one place changed: the directory stands with the one sector written that holds it
pub place_written : (es : List (Option Entry)) (ss : Disk) (p : ℕ) (o : Option Entry) → 4 + p / 3 < length ss → Contains (directory es) ss →
    Contains (directory (set es p o)) (set ss (4 + p / 3) (directory_sector (set es p o) (p / 3)))
place_written es ss p o l h =
    let ss' : Disk = set ss (4 + p / 3) (directory_sector (set es p o) (p / 3)) in
    All-map (λ a. get_or ss' a.number blank ≡ a.content) (directory_part (set es p o)) (range_with_len 0 32)
    (All-weaker (λ i. get_or ss (4 + i) blank ≡ directory_sector es i) (λ i. get_or ss' (4 + i) blank ≡ directory_sector (set es p o) i)
    (λ i k.
    ⊎_elim
    (λ (e : i ≡ p / 3). subst (λ j. get_or ss' (4 + j) blank ≡ directory_sector (set es p o) j) (sym e) (get_or-set_same ss (4 + p / 3) (directory_sector (set es p o) (p / 3)) blank l))
    (λ (ne : i ≡ p / 3 → ⊥). get_or-set_other ss (4 + p / 3) (4 + i) (directory_sector (set es p o) (p / 3)) blank (λ e. ne (omega arith)) ∙ (k ∙ other_sector es p o i ne))
    (cases_eq i (p / 3)))
    (range_with_len 0 32) (shown_by (directory_part es) ss (range_with_len 0 32) h))

-- ---- the parts of a layout

pub past_label_and_map : (d : Layout) (n : ℕ) → 4 ≤ n → member n (numbers (label_and_map d)) ≡ false
past_label_and_map d n h = rw (ne_eqb n 0 (λ e. omega arith), ne_eqb n 1 (λ e. omega arith), ne_eqb n 2 (λ e. omega arith), ne_eqb n 3 (λ e. omega arith)) refl

module _ (d : Layout) where
  pub in_parts_directory : (i : ℕ) → i < 32 → member (4 + i) (numbers (fixed_sectors d)) ≡ true
  in_parts_directory i l =
      among_right (4 + i) (label_and_map d) (directory d.places ++ chains d.places) (among_left (4 + i) (directory d.places) (chains d.places) (in_directory d.places i l))

  pub in_parts_chains : (n : ℕ) → member n (numbers (chains d.places)) ≡ true → member n (numbers (fixed_sectors d)) ≡ true
  in_parts_chains n h =
      among_right n (label_and_map d) (directory d.places ++ chains d.places) (among_right n (directory d.places) (chains d.places) h)

  module _ (ss : Disk) where
    pub from_parts : Contains (label_and_map d) ss → Contains (directory d.places) ss → Contains (chains d.places) ss → Contains (fixed_sectors d) ss
    from_parts a b c =
        All-append (λ x. get_or ss x.number blank ≡ x.content) (label_and_map d) (directory d.places ++ chains d.places) a
        (All-append (λ x. get_or ss x.number blank ≡ x.content) (directory d.places) (chains d.places) b c)

    module _ (shows : Contains (fixed_sectors d) ss) where
      pub label_part : Contains (label_and_map d) ss
      label_part = all_left _ (label_and_map d) (directory d.places ++ chains d.places) shows

      past_label : Contains (directory d.places ++ chains d.places) ss
      past_label = all_right _ (label_and_map d) (directory d.places ++ chains d.places) shows

      pub directory_shows : Contains (directory d.places) ss
      directory_shows = all_left _ (directory d.places) (chains d.places) past_label

      pub chains_part : Contains (chains d.places) ss
      chains_part = all_right _ (directory d.places) (chains d.places) past_label

-- ---- the chains

-- what holds of the chains' sectors holds with one place changed, where it holds of the chain put there
chains_put : (P : NumberedSector → Type 0) (o : Option Entry) → ((es : List (Option Entry)) → AllByRecursion P (chains es) → AllByRecursion P (chains (o ∷ es))) →
    (es : List (Option Entry)) (p : ℕ) → AllByRecursion P (chains es) → AllByRecursion P (chains (set es p o))
chains_put P o k [] p h = tt
chains_put P o k (None ∷ es) zero h = k es h
chains_put P o k (Some f ∷ es) zero h = k es (all_right P (chain f) (chains es) h)
chains_put P o k (None ∷ es) (suc p) h = chains_put P o k es p h
chains_put P o k (Some f ∷ es) (suc p) h = All-append P (chain f) (chains (set es p o)) (all_left P (chain f) (chains es) h) (chains_put P o k es p (all_right P (chain f) (chains es) h))

pub chains_with : (P : NumberedSector → Type 0) (es : List (Option Entry)) (p : ℕ) (f : Entry) → AllByRecursion P (chains es) → AllByRecursion P (chain f) → AllByRecursion P (chains (set es p (Some f)))
chains_with P es p f h k = chains_put P (Some f) (λ fs a. All-append P (chain f) (chains fs) k a) es p h

pub chains_without : (P : NumberedSector → Type 0) (es : List (Option Entry)) (p : ℕ) → AllByRecursion P (chains es) → AllByRecursion P (chains (set es p None))
chains_without P es p h = chains_put P None (λ fs a. a) es p h

-- a file's descriptor is among the chains' sectors
pub descriptor_among : (es : List (Option Entry)) (p : ℕ) (f : Entry) → get_or es p None ≡ Some f → member f.at (numbers (chains es)) ≡ true
descriptor_among [] p f e = let z : ◌≡◌ {A = ℕ} 0 1 = cc in absurd (omega arith)
descriptor_among (None ∷ es) zero f e = let z : ◌≡◌ {A = ℕ} 0 1 = cc in absurd (omega arith)
descriptor_among (Some g ∷ es) zero f e =
    let here : f ≡ g = cc in
    or_left (eqb f.at g.at) (member f.at (numbers (linked g.at g.records ++ chains es))) (eq-eqb f.at g.at (ap (λ (x : Entry). x.at) here))
descriptor_among (None ∷ es) (suc p) f e = descriptor_among es p f e
descriptor_among (Some g ∷ es) (suc p) f e = among_right f.at (chain g) (chains es) (descriptor_among es p f e)

pub chains_placed : (es : List (Option Entry)) (p : ℕ) (f : Entry) → p < length es → member f.at (numbers (chains (set es p (Some f)))) ≡ true
chains_placed es p f l = descriptor_among (set es p (Some f)) p f (get_or-set_same es p (Some f) None l)

-- numbers that are apart: one of the second list is not in the first
apart_front : (n : ℕ) (xs ys : List NumberedSector) → DistinctNumbers (numbers (xs ++ ys)) → member n (numbers ys) ≡ true → member n (numbers xs) ≡ false
apart_front n [] ys a h = refl
apart_front n (x ∷ xs) ys a h =
    or_from (eqb n x.number) (member n (numbers xs))
    (ne_eqb n x.number (λ e. both_ways (member x.number (numbers (xs ++ ys))) a.0 (among_right x.number xs ys (subst (λ k. member k (numbers ys) ≡ true) e h))))
    (apart_front n xs ys a.1 h)

apart_back : (xs ys : List NumberedSector) → DistinctNumbers (numbers (xs ++ ys)) → DistinctNumbers (numbers ys)
apart_back [] ys a = a
apart_back (x ∷ xs) ys a = apart_back xs ys a.1

outside_back : (n : ℕ) (xs ys : List NumberedSector) → member n (numbers (xs ++ ys)) ≡ false → member n (numbers ys) ≡ false
outside_back n [] ys h = h
outside_back n (x ∷ xs) ys h = outside_back n xs ys (or_parts (eqb n x.number) (member n (numbers (xs ++ ys))) h).1

-- and it is in no other chain
pub descriptor_alone : (es : List (Option Entry)) (p : ℕ) (f : Entry) → DistinctNumbers (numbers (chains es)) → get_or es p None ≡ Some f → member f.at (numbers (chains (set es p None))) ≡ false
descriptor_alone [] p f a e = let z : ◌≡◌ {A = ℕ} 0 1 = cc in absurd (omega arith)
descriptor_alone (None ∷ es) zero f a e = let z : ◌≡◌ {A = ℕ} 0 1 = cc in absurd (omega arith)
descriptor_alone (Some g ∷ es) zero f a e =
    let here : g ≡ f = cc in
    subst (λ (x : Entry). member x.at (numbers (chains es)) ≡ false) here (outside_back g.at (linked g.at g.records) (chains es) a.0)
descriptor_alone (None ∷ es) (suc p) f a e = descriptor_alone es p f a e
descriptor_alone (Some g ∷ es) (suc p) f a e =
    among_neither f.at (chain g) (chains (set es p None)) (apart_front f.at (chain g) (chains es) a (descriptor_among es p f e))
    (descriptor_alone es p f (apart_back (chain g) (chains es) a) e)

-- no chain uses a reserved sector
pub none_reserved : (n s : ℕ) (ns : List ℕ) → n < reserved → AllByRecursion (λ m. (leb reserved m && ltb m s) ≡ true) ns → member n ns ≡ false
none_reserved n s [] l h = refl
none_reserved n s (m ∷ ns) l h =
    let a : reserved ≤ m = leb-true reserved m (and_parts (leb reserved m) (ltb m s) h.0).0 in
    or_from (eqb n m) (member n ns) (ne_eqb n m (λ e. omega arith)) (none_reserved n s ns l h.1)

-- ---- layouts

pub large : (d : Layout) → ValidLayout d → 64 ≤ d.size
large d p = leb-true 64 d.size (and_parts (leb 64 d.size) (leb d.size 2464) p.size).0

-- a disk with a layout written over is laid out so
pub laid_over : (d : Layout) (ss ss' : Disk) → ValidLayout d → length ss ≡ d.size → ss' ≡ overwritten (fixed_sectors d) ss → LaidOut d ss'
laid_over d ss ss' proper size e = record {
  proper = proper;
  size = ap length e ∙ (length_over (fixed_sectors d) ss ∙ size);
  shows = subst (Contains (fixed_sectors d)) (sym e) (shown d proper ss size);
}
