-- The directory of a disk that shows a layout, read off its sectors.
use Rattle.std.proofs.Common.{◌≡◌, ℕ, zero, suc, ◌+◌, ◌-◌, ◌*◌, ◌/◌, ◌%◌, ◌<◌, ◌≤◌, true, false, not, ◌&&◌, eqb, leb, List, [], ◌∷◌, ◌++◌, map, length, get_or, take, drop, replicate, Some, None, Option, sym, refl, ap, ◌∙◌, subst, ⊎_elim, arith}
use Rattle.std.specs.List.{range_with_len, AllByRecursion}
use Rattle.std.proofs.lemmas.Bool.{and_parts, and_left, leb-true, ne_eqb, cond-true, cond-false, both_ways, cases_eq}
use Rattle.std.proofs.lemmas.List.{length-append, length-replicate, append_assoc, take_at, drop_at, drop_more, drop_all, get_or-append_right}
use Rattle.std.proofs.ByRecursion.{All-get_or}
use Rattle.std.proofs.lemmas.List.FromFn.{get_or-range_with_len}
use Rattle.device.specs.Device.{blank}
use Rattle.chains.specs.Names.{legal, spelled, same}
use Rattle.chains.specs.Layout.{Disk, Entry, word, padded, numbered, sector, place_bytes, directory_bytes, directory_back, directory_forward, directory, Contains}
use Rattle.chains.specs.Sound.{entries}
use Rattle.chains.specs.Reading.{sector_at, place, number, zeros}
use Rattle.rules.specs.Runs.{listed_from, directory_of}
use Rattle.rules.proofs.Agreeing.{listed_of}

-- ---- places

abbrev pub Fits : Option Entry → Type 0
Fits None = Unit {0}
Fits (Some f) = (1 ≤ length f.name) × (length f.name ≤ 32)

spelled_some : (n : List ℕ) → spelled n ≡ true → 1 ≤ length n
spelled_some [] h = absurd (both_ways false refl h)
spelled_some (c ∷ cs) h = omega arith

pub legal_short : (n : List ℕ) → legal n ≡ true → length n ≤ 32
legal_short n h =
    let rest = (and_parts (spelled n) (leb (length n) 32 && not (same n (lib.Chars.codes "DIRECTORY"))) h).1 in
    leb-true (length n) 32 (and_parts (leb (length n) 32) (not (same n (lib.Chars.codes "DIRECTORY"))) rest).0

pub places_fit : (es : List (Option Entry)) → AllByRecursion (λ f. legal f.name ≡ true) (entries es) → AllByRecursion Fits es
places_fit [] h = tt
places_fit (None ∷ es) h = (tt, places_fit es h)
places_fit (Some f ∷ es) h =
    let n = f.name in
    let one = and_parts (spelled n) (leb (length n) 32 && not (same n (lib.Chars.codes "DIRECTORY"))) h.0 in
    ((spelled_some n one.0, legal_short n h.0), places_fit es h.1)

pub length_padded : (n : List ℕ) → length n ≤ 32 → length (padded 32 n) ≡ 32
length_padded n h = simp (length-append, length-replicate) (omega arith)

length_place : (o : Option Entry) → Fits o → length (place_bytes o) ≡ 40
length_place None h = refl
length_place (Some f) h =
    let e = length-append (padded 32 f.name) (word f.at ++ replicate 5 0) in
    let e' = length_padded f.name h.1 in
    omega arith

module _ (a b c z : List ℕ) (la : length a ≡ 40) (lb : length b ≡ 40) (lc : length c ≡ 40) where
  first_third : take 40 (drop (40 * 0) (a ++ (b ++ (c ++ z)))) ≡ a
  first_third = take_at a (b ++ (c ++ z)) 40 la

  second_third : take 40 (drop (40 * 1) (a ++ (b ++ (c ++ z)))) ≡ b
  second_third = ap (take 40) (drop_at a (b ++ (c ++ z)) 40 la) ∙ take_at b (c ++ z) 40 lb

  last_third : take 40 (drop (40 * 2) (a ++ (b ++ (c ++ z)))) ≡ c
  last_third =
      let e : length (a ++ b) ≡ 80 = simp length-append (omega arith) in
      ap (λ xs. take 40 (drop 80 xs)) (sym (append_assoc a b (c ++ z))) ∙ (ap (take 40) (drop_at (a ++ b) (c ++ z) 80 e) ∙ take_at c z 40 lc)

module _ (es : List (Option Entry)) (ss : Disk) (fit : AllByRecursion Fits es) (long : length es ≡ 96) (shows : Contains (directory es) ss) where
  all_unmap : {X Y : Type 0} (P : X → Type 0) (f : Y → X) (ys : List Y) → AllByRecursion P (map f ys) → AllByRecursion (λ y. P (f y)) ys
  all_unmap P f [] h = tt
  all_unmap P f (y ∷ ys) h = (h.0, all_unmap P f ys h.1)

  fits_at : (p : ℕ) → p < 96 → Fits (get_or es p None)
  fits_at p l = All-get_or Fits es p None (omega arith) fit

  pub sector_whole : (i : ℕ) → i < 32 → sector_at ss (4 + i) ≡ sector (directory_bytes es i) (directory_back i) (directory_forward i)
  sector_whole i l =
      let Q : ℕ → Type 0 = λ i. get_or ss (4 + i) blank ≡ sector (directory_bytes es i) (directory_back i) (directory_forward i) in
      let h : Q (get_or (range_with_len 0 32) i 0) = All-get_or Q (range_with_len 0 32) i 0 l (all_unmap (λ a. get_or ss a.number blank ≡ a.content) (λ i. numbered (4 + i) (sector (directory_bytes es i) (directory_back i) (directory_forward i))) (range_with_len 0 32) shows) in
      let e : get_or (range_with_len 0 32) i 0 ≡ i = get_or-range_with_len 0 32 i 0 l ∙ omega arith in
      subst Q e h

  sector_bytes : (i : ℕ) → i < 32 → (sector_at ss (4 + i)).bytes ≡ directory_bytes es i
  sector_bytes i l = ap (λ s. s.bytes) (sector_whole i l)

  pub end_zero : (i : ℕ) → i < 32 → zeros (drop 120 (directory_bytes es i)) ≡ true
  end_zero i l =
      let a = place_bytes (get_or es (3 * i) None) in
      let b = place_bytes (get_or es (3 * i + 1) None) in
      let c = place_bytes (get_or es (3 * i + 2) None) in
      let la = length_place (get_or es (3 * i) None) (fits_at (3 * i) (omega arith)) in
      let lb = length_place (get_or es (3 * i + 1) None) (fits_at (3 * i + 1) (omega arith)) in
      let lc = length_place (get_or es (3 * i + 2) None) (fits_at (3 * i + 2) (omega arith)) in
      let e : a ++ (b ++ (c ++ replicate 8 0)) ≡ (a ++ (b ++ c)) ++ replicate 8 0 = ap (λ xs. a ++ xs) (sym (append_assoc b c (replicate 8 0))) ∙ sym (append_assoc a (b ++ c) (replicate 8 0)) in
      let l3 : length (a ++ (b ++ c)) ≡ 120 = simp length-append (omega arith) in
      ap (λ xs. zeros (drop 120 xs)) e ∙ ap zeros (drop_at (a ++ (b ++ c)) (replicate 8 0) 120 l3)

  third : (i r : ℕ) → 3 * i + 2 < 96 → r < 3 → take 40 (drop (40 * r) (directory_bytes es i)) ≡ place_bytes (get_or es (3 * i + r) None)
  third i r l h =
      let o0 = get_or es (3 * i) None in
      let o1 = get_or es (3 * i + 1) None in
      let o2 = get_or es (3 * i + 2) None in
      let l0 = length_place o0 (fits_at (3 * i) (omega arith)) in
      let l1 = length_place o1 (fits_at (3 * i + 1) (omega arith)) in
      let l2 = length_place o2 (fits_at (3 * i + 2) (omega arith)) in
      let P : ℕ → Type 0 = λ r. take 40 (drop (40 * r) (directory_bytes es i)) ≡ place_bytes (get_or es (3 * i + r) None) in
      let z0 : 3 * i ≡ 3 * i + 0 = omega arith in
      ⊎_elim
      (λ (e : r ≡ 0). subst P (sym e) (first_third (place_bytes o0) (place_bytes o1) (place_bytes o2) (replicate 8 0) l0 l1 l2 ∙ ap (λ j. place_bytes (get_or es j None)) z0))
      (λ (n0 : r ≡ 0 → ⊥). ⊎_elim
      (λ (e : r ≡ 1). subst P (sym e) (second_third (place_bytes o0) (place_bytes o1) (place_bytes o2) (replicate 8 0) l0 l1 l2))
      (λ (n1 : r ≡ 1 → ⊥). let e : r ≡ 2 = grind arith in subst P (sym e) (last_third (place_bytes o0) (place_bytes o1) (place_bytes o2) (replicate 8 0) l0 l1 l2))
      (cases_eq r 1))
      (cases_eq r 0)

  pub place_shown : (p : ℕ) → p < 96 → place ss p ≡ place_bytes (get_or es p None)
  place_shown p l =
      let e : 3 * (p / 3) + p % 3 ≡ p = omega arith in
      ap (λ bs. take 40 (drop (40 * (p % 3)) bs)) (sector_bytes (p / 3) (omega arith)) ∙
      (third (p / 3) (p % 3) (omega arith) (omega arith) ∙ ap (λ j. place_bytes (get_or es j None)) e)

  -- ---- entries

  name_shown : (f : Entry) → length f.name ≤ 32 → take (get_or (place_bytes (Some f)) 0 0) (drop 1 (place_bytes (Some f))) ≡ f.name
  name_shown f h =
      ap (take (length f.name)) (append_assoc f.name (replicate (32 - length f.name) 0) (word f.at ++ replicate 5 0)) ∙
      take_at f.name (replicate (32 - length f.name) 0 ++ (word f.at ++ replicate 5 0)) (length f.name) refl

  at_shown : (f : Entry) → length f.name ≤ 32 → number (place_bytes (Some f)) 33 ≡ f.at
  at_shown f h =
      let low : get_or (place_bytes (Some f)) 33 0 ≡ f.at % 256 = get_or-append_right (padded 32 f.name) (word f.at ++ replicate 5 0) 32 32 0 (length_padded f.name h) (omega arith) in
      let high : get_or (place_bytes (Some f)) 34 0 ≡ f.at / 256 = get_or-append_right (padded 32 f.name) (word f.at ++ replicate 5 0) 32 33 0 (length_padded f.name h) (omega arith) in
      omega arith

  listed_shown : (k p : ℕ) → p + k ≡ 96 → listed_from ss k p ≡ map listed_of (entries (drop p es))
  listed_shown zero p e = ap (λ xs. map listed_of (entries xs)) (sym (drop_all p es (omega arith)))
  listed_shown (suc k) p e =
      step (get_or es p None) (fits_at p (omega arith)) (place_shown p (omega arith)) (listed_shown k (p + 1) (omega arith)) ∙
      ap (λ xs. map listed_of (entries xs)) (sym (drop_more es p None (omega arith)))
    where
      step : (o : Option Entry) → Fits o → place ss p ≡ place_bytes o → listed_from ss k (p + 1) ≡ map listed_of (entries (drop (p + 1) es)) →
          listed_from ss (suc k) p ≡ map listed_of (entries (o ∷ drop (p + 1) es))
      step None h q ih =
          cond-true (zeros (place ss p)) (listed_from ss k (p + 1)) (record { name = take (get_or (place ss p) 0 0) (drop 1 (place ss p)); at = number (place ss p) 33 } ∷ listed_from ss k (p + 1)) (ap zeros q) ∙ ih
      step (Some f) h q ih =
          let not_zeros : zeros (place_bytes (Some f)) ≡ false = and_left (eqb (length f.name) 0) _ (ne_eqb (length f.name) 0 (λ z. omega (arith, h.0))) in
          cond-false (zeros (place ss p)) (listed_from ss k (p + 1)) (record { name = take (get_or (place ss p) 0 0) (drop 1 (place ss p)); at = number (place ss p) 33 } ∷ listed_from ss k (p + 1)) (ap zeros q ∙ not_zeros) ∙
          (ap (λ bs. record { name = take (get_or bs 0 0) (drop 1 bs); at = number bs 33 } ∷ listed_from ss k (p + 1)) q ∙
          made (take (get_or (place_bytes (Some f)) 0 0) (drop 1 (place_bytes (Some f)))) (number (place_bytes (Some f)) 33) (name_shown f h.1) (at_shown f h.1))
        where
          made : (n : List ℕ) (a : ℕ) → n ≡ f.name → a ≡ f.at → record { name = n; at = a } ∷ listed_from ss k (p + 1) ≡ listed_of f ∷ map listed_of (entries (drop (p + 1) es))
          made n a x y = cc

  pub directory_shown : directory_of ss ≡ map listed_of (entries es)
  directory_shown = listed_shown 96 0 refl
