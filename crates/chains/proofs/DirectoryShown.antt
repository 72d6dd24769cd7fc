-- The directory of a disk that shows a layout: its sectors, the places cut out of one, and a place put into one.
use Rattle.std.proofs.Common.{◌≡◌, ℕ, ◌+◌, ◌*◌, ◌/◌, ◌%◌, ◌<◌, ◌≤◌, true, false, not, ◌&&◌, leb, ◌≢◌, List, [], ◌∷◌, ◌++◌, map, length, get_or, take, drop, set, replicate, Some, None, codes, Option, sym, refl, ap, ◌∙◌, subst, ⊎_elim, arith}
use Rattle.std.specs.List.{range_with_len, AllByRecursion}
use Rattle.std.proofs.lemmas.Bool.{and_parts, leb-true, both_ways, cases_eq}
use Rattle.std.proofs.lemmas.List.{length-append, append_assoc, take_at, drop_at, get_or-set_same, get_or-set_other}
use Rattle.std.proofs.ByRecursion.{All-get_or}
use Rattle.std.proofs.lemmas.List.FromFn.{get_or-range_with_len, length-range_with_len}
use Rattle.device.specs.Device.{blank}
use Rattle.chains.specs.Names.{legal, spelled, same}
use Rattle.chains.specs.Layout.{Disk, Entry, Layout, NumberedSector, word, padded, numbered, place_bytes, directory_bytes, directory, chains, label_and_map, Contains}
use Rattle.chains.specs.Sound.{entries}
use Rattle.chains.specs.Reading.{sector_at}
use Rattle.chains.specs.Changes.{LaidOut, directory_sector}
use Rattle.chains.proofs.Padding.{length_padded}

-- ---- names that have room in a place

abbrev pub Fits : Option Entry → Type 0
Fits None = Unit {0}
Fits (Some f) = (1 ≤ length f.name) × (length f.name ≤ 32)

spelled_some : (n : List ℕ) → spelled n ≡ true → 1 ≤ length n
spelled_some [] h = absurd (both_ways false refl h)
spelled_some (c ∷ cs) h = omega arith

legal_fits : (f : Entry) → legal f.name ≡ true → Fits (Some f)
legal_fits f h =
    let n = f.name in
    let one = and_parts (spelled n) (leb (length n) 32 && not (same n (codes "DIRECTORY"))) h in
    let two = and_parts (leb (length n) 32) (not (same n (codes "DIRECTORY"))) one.1 in
    (spelled_some n one.0, leb-true (length n) 32 two.0)

pub places_fit : (es : List (Option Entry)) → AllByRecursion (λ f. legal f.name ≡ true) (entries es) → AllByRecursion Fits es
places_fit [] h = tt
places_fit (None ∷ es) h = (tt, places_fit es h)
places_fit (Some f ∷ es) h = (legal_fits f h.0, places_fit es h.1)

pub length_place : (o : Option Entry) → Fits o → length (place_bytes o) ≡ 40
length_place None h = refl
length_place (Some f) h =
    let e = length-append (padded 32 f.name) (word f.at ++ replicate 5 0) in
    let e' = length_padded 32 f.name h.1 in
    omega arith

-- ---- three places and what follows them

module _ (a b c z : List ℕ) (la : length a ≡ 40) (lb : length b ≡ 40) where
  abbrev all_three : List ℕ
  all_three = a ++ (b ++ (c ++ z))

  two_long : length (a ++ b) ≡ 80
  two_long = simp length-append (omega arith)

  two_first : all_three ≡ (a ++ b) ++ (c ++ z)
  two_first = sym (append_assoc a b (c ++ z))

  after_two : drop 80 all_three ≡ c ++ z
  after_two = ap (drop 80) two_first ∙ drop_at (a ++ b) (c ++ z) 80 two_long

  pub first_third : take 40 all_three ≡ a
  first_third = take_at a (b ++ (c ++ z)) 40 la

  pub second_third : take 40 (drop 40 all_three) ≡ b
  second_third = ap (take 40) (drop_at a (b ++ (c ++ z)) 40 la) ∙ take_at b (c ++ z) 40 lb

  pub last_third : length c ≡ 40 → take 40 (drop 80 all_three) ≡ c
  last_third lc = ap (take 40) after_two ∙ take_at c z 40 lc

  first_put : (y : List ℕ) → take 0 all_three ++ (y ++ drop 40 all_three) ≡ y ++ (b ++ (c ++ z))
  first_put y = ap (λ xs. y ++ xs) (drop_at a (b ++ (c ++ z)) 40 la)

  second_put : (y : List ℕ) → take 40 all_three ++ (y ++ drop 80 all_three) ≡ a ++ (y ++ (c ++ z))
  second_put y = λ i. first_third i ++ (y ++ after_two i)

  last_put : (y : List ℕ) → length c ≡ 40 → take 80 all_three ++ (y ++ drop 120 all_three) ≡ a ++ (b ++ (y ++ z))
  last_put y lc =
      let three_first : all_three ≡ ((a ++ b) ++ c) ++ z = two_first ∙ sym (append_assoc (a ++ b) c z) in
      let three_long : length ((a ++ b) ++ c) ≡ 120 = simp length-append (omega arith) in
      let front : take 80 all_three ≡ a ++ b = ap (take 80) two_first ∙ take_at (a ++ b) (c ++ z) 80 two_long in
      let rest : drop 120 all_three ≡ z = ap (drop 120) three_first ∙ drop_at ((a ++ b) ++ c) z 120 three_long in
      (λ i. front i ++ (y ++ rest i)) ∙ append_assoc a b (y ++ z)

-- ---- one place of a sector replaced

module _ (es : List (Option Entry)) (i : ℕ) (e : Option Entry) (long : 3 * i + 2 < length es) (f0 : Fits (get_or es (3 * i) None)) (f1 : Fits (get_or es (3 * i + 1) None)) (f2 : Fits (get_or es (3 * i + 2) None)) where
  abbrev With : ℕ → ℕ → Type 0
  With p r = take (40 * r) (directory_bytes es i) ++ (place_bytes e ++ drop (40 * r + 40) (directory_bytes es i)) ≡ directory_bytes (set es p e) i

  rejoined : (p : ℕ) (a b c : Option Entry) → get_or (set es p e) (3 * i) None ≡ a → get_or (set es p e) (3 * i + 1) None ≡ b → get_or (set es p e) (3 * i + 2) None ≡ c →
      place_bytes a ++ (place_bytes b ++ (place_bytes c ++ replicate 8 0)) ≡ directory_bytes (set es p e) i
  rejoined p a b c x y z = λ j. place_bytes (sym x j) ++ (place_bytes (sym y j) ++ (place_bytes (sym z j) ++ replicate 8 0))

  kept : (p k : ℕ) → k ≢ p → get_or (set es p e) k None ≡ get_or es k None
  kept p k h = get_or-set_other es p k e None h

  here : (p k : ℕ) → p ≡ k → k < length es → get_or (set es p e) k None ≡ e
  here p k h l = subst (λ q. get_or (set es q e) k None ≡ e) (sym h) (get_or-set_same es k e None l)

  put_at : (p r : ℕ) → p ≡ 3 * i + r → r < 3 → With p r
  put_at p r at l =
      let o0 = get_or es (3 * i) None in
      let o1 = get_or es (3 * i + 1) None in
      let o2 = get_or es (3 * i + 2) None in
      let l0 = length_place o0 f0 in
      let l1 = length_place o1 f1 in
      let l2 = length_place o2 f2 in
      ⊎_elim
      (λ (z : r ≡ 0). subst (With p) (sym z)
      (first_put (place_bytes o0) (place_bytes o1) (place_bytes o2) (replicate 8 0) l0 l1 (place_bytes e) ∙
      rejoined p e o1 o2 (here p (3 * i) (omega arith) (omega arith)) (kept p (3 * i + 1) (omega arith)) (kept p (3 * i + 2) (omega arith))))
      (λ (n0 : r ≡ 0 → ⊥). ⊎_elim
      (λ (z : r ≡ 1). subst (With p) (sym z)
      (second_put (place_bytes o0) (place_bytes o1) (place_bytes o2) (replicate 8 0) l0 l1 (place_bytes e) ∙
      rejoined p o0 e o2 (kept p (3 * i) (omega arith)) (here p (3 * i + 1) (omega arith) (omega arith)) (kept p (3 * i + 2) (omega arith))))
      (λ (n1 : r ≡ 1 → ⊥).
      let z : r ≡ 2 = grind arith in
      subst (With p) (sym z)
      (last_put (place_bytes o0) (place_bytes o1) (place_bytes o2) (replicate 8 0) l0 l1 (place_bytes e) l2 ∙
      rejoined p o0 o1 e (kept p (3 * i) (omega arith)) (kept p (3 * i + 1) (omega arith)) (here p (3 * i + 2) (omega arith) (omega arith))))
      (cases_eq r 1))
      (cases_eq r 0)

-- ---- the sectors of the directory

all_unmap : {X Y : Type 0} (P : X → Type 0) (f : Y → X) (ys : List Y) → AllByRecursion P (map f ys) → AllByRecursion (λ y. P (f y)) ys
all_unmap P f [] h = tt
all_unmap P f (y ∷ ys) h = (h.0, all_unmap P f ys h.1)

all_left : {X : Type 0} (P : X → Type 0) (xs ys : List X) → AllByRecursion P (xs ++ ys) → AllByRecursion P xs
all_left P [] ys h = tt
all_left P (x ∷ xs) ys h = (h.0, all_left P xs ys h.1)

all_right : {X : Type 0} (P : X → Type 0) (xs ys : List X) → AllByRecursion P (xs ++ ys) → AllByRecursion P ys
all_right P [] ys h = h
all_right P (x ∷ xs) ys h = all_right P xs ys h.1

of_directory : (n : ℕ) (es : List (Option Entry)) (ss : Disk) → Contains (map (λ i. numbered (4 + i) (directory_sector es i)) (range_with_len 0 n)) ss → (i : ℕ) → i < n → sector_at ss (4 + i) ≡ directory_sector es i
of_directory n es ss shows i l =
    let Q : ℕ → Type 0 = λ i. get_or ss (4 + i) blank ≡ directory_sector es i in
    let within : i < length (range_with_len 0 n) = simp length-range_with_len l in
    let h : Q (get_or (range_with_len 0 n) i 0) = All-get_or Q (range_with_len 0 n) i 0 within (all_unmap (λ a. get_or ss a.number blank ≡ a.content) (λ i. numbered (4 + i) (directory_sector es i)) (range_with_len 0 n) shows) in
    let e : get_or (range_with_len 0 n) i 0 ≡ i = get_or-range_with_len 0 n i 0 l ∙ omega arith in
    subst Q e h

module _ (d : Layout) (ss : Disk) (laid : LaidOut d ss) where
  pub sector_shown : (i : ℕ) → i < 32 → sector_at ss (4 + i) ≡ directory_sector d.places i
  sector_shown i l =
      let P : NumberedSector → Type 0 = λ a. get_or ss a.number blank ≡ a.content in
      let es = d.places in
      of_directory 32 es ss (all_left P (directory es) (chains es) (all_right P (label_and_map d) (directory es ++ chains es) laid.shows)) i l

  pub fits_at : (p : ℕ) → p < 96 → Fits (get_or d.places p None)
  fits_at p l = All-get_or Fits d.places p None (let e = laid.proper.places in omega arith) (places_fit d.places laid.proper.names)

  -- the three places of directory sector i
  pub first_fits : (i : ℕ) → i < 32 → Fits (get_or d.places (3 * i) None)
  first_fits i l = fits_at (3 * i) (omega arith)

  pub second_fits : (i : ℕ) → i < 32 → Fits (get_or d.places (3 * i + 1) None)
  second_fits i l = fits_at (3 * i + 1) (omega arith)

  pub last_fits : (i : ℕ) → i < 32 → Fits (get_or d.places (3 * i + 2) None)
  last_fits i l = fits_at (3 * i + 2) (omega arith)

  -- the sector with other bytes at place p has there what these are
  pub place_put : (p : ℕ) (e : Option Entry) → p < 96 → take (40 * (p % 3)) (directory_bytes d.places (p / 3)) ++ (place_bytes e ++ drop (40 * (p % 3) + 40) (directory_bytes d.places (p / 3))) ≡ directory_bytes (set d.places p e) (p / 3)
  place_put p e l =
      let i = p / 3 in
      let below : i < 32 = omega arith in
      let long : 3 * i + 2 < length d.places = let h = laid.proper.places in omega arith in
      put_at d.places i e long (first_fits i below) (second_fits i below) (last_fits i below) p (p % 3) (omega arith) (omega arith)

  pub directory_within : (i : ℕ) → i < 32 → 4 + i < length ss
  directory_within i l =
      let size = and_parts (leb 64 d.size) (leb d.size 2464) laid.proper.size in
      let least = leb-true 64 d.size size.0 in
      let e = laid.size in
      omega arith
