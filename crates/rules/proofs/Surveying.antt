-- A disk that shows a layout is surveyed to that layout.
use Rattle.device.specs.declared.fault.Code.TheVariants.{BadEntry, NotInDirectory, PointerError}
use Rattle.std.proofs.Common.{◌≡◌, ℕ, suc, ◌+◌, ◌-◌, ◌*◌, ◌/◌, ◌%◌, ◌<◌, ◌≤◌, true, false, not, ◌&&◌, eqb, leb, List, [], ◌∷◌, ◌++◌, length, get_or, take, drop, replicate, Some, None, Option, sym, refl, ap, ◌∙◌, subst, arith}
use Rattle.std.specs.List.{AllByRecursion}
use Rattle.std.proofs.lemmas.Bool.{or_parts, or_from, and_parts, and_from, not_from_false, ne_eqb, eq-eqb, eqb-false, cond-true, cond-false, and_left, leb-true}
use Rattle.std.proofs.lemmas.List.{append_assoc, take_at, drop_at, length-append, length-replicate, get_or-append_right}
use Rattle.device.specs.declared.sector.Sector.{Sector}
use Rattle.chains.specs.Names.{same, legal, all}
use Rattle.device.specs.Codes.{code_number}
use Rattle.chains.specs.Layout.{Disk, Entry, Placed, null, word, padded, sector, first_of, last_of, linked, chain, chains, descriptor_bytes, place_bytes, member, numbers, Contains}
use Rattle.chains.specs.Sound.{DistinctNumbers, DistinctNames, entries}
use Rattle.chains.specs.Reading.{Found, fault, read, then, must, sector_at, number, zeros, usable, walk, place_name, place_at, place_well_formed, among, file_at, place, places_from, line}
use Rattle.rules.proofs.Rearranging.{same_itself, same_turned}
use Rattle.rules.proofs.Addresses.{ats, addresses, numbers_linked, member_join}
use Rattle.rules.proofs.Agreeing.{none_named}
use Rattle.rules.proofs.Directory.{Fits}
use Rattle.rules.proofs.Walks.{all_left, all_right}
use Rattle.rules.proofs.Counting.{all_both}

pub each_differs : (n : ℕ) (xs : List ℕ) → member n xs ≡ false → AllByRecursion (λ m. eqb m n ≡ false) xs
each_differs n [] h = tt
each_differs n (x ∷ xs) h =
    let parts = or_parts (eqb n x) (member n xs) h in
    (ne_eqb x n (λ e. eqb-false n x parts.0 (sym e)), each_differs n xs parts.1)

from_word : (x : ℕ) → x % 256 + 256 * (x / 256) ≡ x
from_word x = omega arith

module _ (ss : Disk) where
  walk_read : (visited : List ℕ) (here : ℕ) (ps : List Placed) → (sector_at ss here).forward ≡ first_of ps → Contains (linked here ps) ss →
      AllByRecursion (λ n. usable ss n ≡ true) (ats ps) → AllByRecursion (λ n. member n visited ≡ false) (ats ps) → DistinctNumbers (ats ps) → walk ss visited here (length ps) ≡ read ps
  walk_read visited here [] e h u o a = cond-true (eqb (sector_at ss here).forward null) (read []) (fault (code_number PointerError) here) (ap (λ x. eqb x null) e)
  walk_read visited here (p ∷ ps) e h u o a =
      let K : ℕ → Found (List Placed) = λ next.
      must (usable ss next && not (member next visited)) PointerError here
      (must (eqb (sector_at ss next).back here) PointerError next
      (then (walk ss (next ∷ visited) next (length ps)) (λ qs. read (record { at = next; bytes = (sector_at ss next).bytes } ∷ qs)))) in
      let back : eqb (sector_at ss p.at).back here ≡ true = ap (λ s. eqb s.back here) h.0 ∙ eq-eqb here here refl in
      let ih : walk ss (p.at ∷ visited) p.at (length ps) ≡ read ps =
      walk_read (p.at ∷ visited) p.at ps (ap (λ s. s.forward) h.0) h.1 u.1
      (all_both (λ m. eqb m p.at ≡ false) (λ m. member m visited ≡ false) (λ m. member m (p.at ∷ visited) ≡ false) (λ m x y. or_from (eqb m p.at) (member m visited) x y) (ats ps) (each_differs p.at (ats ps) a.0) o.1) a.1 in
      ap K e ∙
      (cond-true (usable ss p.at && not (member p.at visited)) _ _ (and_from (usable ss p.at) (not (member p.at visited)) u.0 (not_from_false (member p.at visited) o.0)) ∙
      (cond-true (eqb (sector_at ss p.at).back here) _ _ back ∙
      (ap (λ w. then w (λ qs. read (record { at = p.at; bytes = (sector_at ss p.at).bytes } ∷ qs))) ih ∙
      ap (λ s. read (record { at = p.at; bytes = s.bytes } ∷ ps)) h.0)))

  -- ---- one file

  module _ (f : Entry) (short : length f.name ≤ 32) where
    padded_long : length (padded 32 f.name) ≡ 32
    padded_long = simp (length-append, length-replicate) (omega arith)

    name_read : take (get_or (place_bytes (Some f)) 0 0) (drop 1 (place_bytes (Some f))) ≡ f.name
    name_read =
        ap (take (length f.name)) (append_assoc f.name (replicate (32 - length f.name) 0) (word f.at ++ replicate 5 0)) ∙
        take_at f.name (replicate (32 - length f.name) 0 ++ (word f.at ++ replicate 5 0)) (length f.name) refl

    at_read : number (place_bytes (Some f)) 33 ≡ f.at
    at_read =
        let low : get_or (place_bytes (Some f)) 33 0 ≡ f.at % 256 = get_or-append_right (padded 32 f.name) (word f.at ++ replicate 5 0) 32 32 0 padded_long (omega arith) in
        let high : get_or (place_bytes (Some f)) 34 0 ≡ f.at / 256 = get_or-append_right (padded 32 f.name) (word f.at ++ replicate 5 0) 32 33 0 padded_long (omega arith) in
        omega arith

    same_name : same (take 33 (drop 7 (descriptor_bytes f))) (take 33 (place_bytes (Some f))) ≡ true
    same_name =
        let a : take 33 (drop 7 (descriptor_bytes f)) ≡ length f.name ∷ padded 32 f.name = ap (λ xs. length f.name ∷ xs) (take_at (padded 32 f.name) (replicate 88 0) 32 padded_long) in
        let b : take 33 (place_bytes (Some f)) ≡ length f.name ∷ padded 32 f.name = ap (λ xs. length f.name ∷ xs) (take_at (padded 32 f.name) (word f.at ++ replicate 5 0) 32 padded_long) in
        ap (λ xs. same xs (take 33 (place_bytes (Some f)))) a ∙ (ap (same (length f.name ∷ padded 32 f.name)) b ∙ same_itself (length f.name ∷ padded 32 f.name))

    rest_zero : zeros (drop 40 (descriptor_bytes f)) ≡ true
    rest_zero = ap zeros (drop_at (padded 32 f.name) (replicate 88 0) 32 padded_long)

    module _ (visited : List ℕ) (names : List (List ℕ)) (from : ℕ) where
      not_seen : (ns : List (List ℕ)) → AllByRecursion (λ m. same f.name m ≡ false) ns → among (place_name ss visited names from (place_bytes (Some f))) ns ≡ false
      not_seen [] h = refl
      not_seen (m ∷ ns) h =
          or_from (same (place_name ss visited names from (place_bytes (Some f))) m) (among (place_name ss visited names from (place_bytes (Some f))) ns) (ap (λ n. same n m) name_read ∙ h.0) (not_seen ns h.1)

      form : place_well_formed ss visited names from (place_bytes (Some f)) ≡ true
      form =
          ap (λ n. same (place_bytes (Some f)) (length f.name ∷ (padded 32 n ++ (word (place_at ss visited names from (place_bytes (Some f))) ++ replicate 5 0)))) name_read ∙
          (ap (λ a. same (place_bytes (Some f)) (length f.name ∷ (padded 32 f.name ++ (word a ++ replicate 5 0)))) at_read ∙ same_itself (place_bytes (Some f)))

      file_read : Contains (chain f) ss → legal f.name ≡ true → AllByRecursion (λ m. same f.name m ≡ false) names → usable ss f.at ≡ true → member f.at visited ≡ false →
          AllByRecursion (λ n. usable ss n ≡ true) (ats f.records) → AllByRecursion (λ n. member n visited ≡ false) (ats f.records) → DistinctNumbers (f.at ∷ ats f.records) →
          file_at ss visited names from (place_bytes (Some f)) ≡ read f
      file_read h lawful new able out uses outs a =
          let bs = place_bytes (Some f) in
          let R : List ℕ → ℕ → Sector → Found Entry = λ n w d.
          must (not (member w visited)) PointerError from
          (must (same (take 33 (drop 7 d.bytes)) (take 33 bs)) NotInDirectory w
          (must (eqb (get_or d.bytes 6 0) 0 && (zeros (drop 40 d.bytes) && (eqb d.back null && eqb (number d.bytes 0) d.forward))) PointerError w
          (then (walk ss (w ∷ visited) w (number d.bytes 4)) (λ ps.
          must (eqb (number d.bytes 2) (last_of ps)) PointerError w
          (read (record { name = n; at = w; records = ps })))))) in
          let first : (place_well_formed ss visited names from bs && (legal (place_name ss visited names from bs) && (not (among (place_name ss visited names from bs) names) && usable ss (place_at ss visited names from bs)))) ≡ true =
          and_from (place_well_formed ss visited names from bs) _ form
          (and_from (legal (place_name ss visited names from bs)) _ (ap legal name_read ∙ lawful)
          (and_from (not (among (place_name ss visited names from bs) names)) _ (not_from_false (among (place_name ss visited names from bs) names) (not_seen names new)) (ap (usable ss) at_read ∙ able))) in
          let desc = sector (descriptor_bytes f) null (first_of f.records) in
          let links : (eqb 0 0 && (zeros (drop 40 (descriptor_bytes f)) && (eqb null null && eqb (number (descriptor_bytes f) 0) (first_of f.records)))) ≡ true =
          and_from (zeros (drop 40 (descriptor_bytes f))) _ rest_zero (eq-eqb (number (descriptor_bytes f) 0) (first_of f.records) (from_word (first_of f.records))) in
          let walked : walk ss (f.at ∷ visited) f.at (number (descriptor_bytes f) 4) ≡ read f.records =
          ap (walk ss (f.at ∷ visited) f.at) (from_word (length f.records)) ∙
          walk_read (f.at ∷ visited) f.at f.records (ap (λ s. s.forward) h.0) h.1 uses
          (all_both (λ m. eqb m f.at ≡ false) (λ m. member m visited ≡ false) (λ m. member m (f.at ∷ visited) ≡ false) (λ m x y. or_from (eqb m f.at) (member m visited) x y) (ats f.records) (each_differs f.at (ats f.records) a.0) outs) a.1 in
          cond-true (place_well_formed ss visited names from bs && (legal (place_name ss visited names from bs) && (not (among (place_name ss visited names from bs) names) && usable ss (place_at ss visited names from bs))))
          (R (place_name ss visited names from bs) (place_at ss visited names from bs) (sector_at ss (place_at ss visited names from bs))) (fault (code_number BadEntry) from) first ∙
          (ap (λ n. R n (place_at ss visited names from bs) (sector_at ss (place_at ss visited names from bs))) name_read ∙
          (ap (λ w. R f.name w (sector_at ss w)) at_read ∙
          (ap (R f.name f.at) h.0 ∙
          (cond-true (not (member f.at visited)) _ _ (not_from_false (member f.at visited) out) ∙
          (cond-true (same (take 33 (drop 7 (descriptor_bytes f))) (take 33 bs)) _ _ same_name ∙
          (cond-true (eqb 0 0 && (zeros (drop 40 (descriptor_bytes f)) && (eqb null null && eqb (number (descriptor_bytes f) 0) (first_of f.records)))) _ _ links ∙
          (ap (λ w. then w (λ ps. must (eqb (number (descriptor_bytes f) 2) (last_of ps)) PointerError f.at (read (record { name = f.name; at = f.at; records = ps })))) walked ∙
          cond-true (eqb (number (descriptor_bytes f) 2) (last_of f.records)) (read f) (fault (code_number PointerError) f.at) (eq-eqb (number (descriptor_bytes f) 2) (last_of f.records) (from_word (last_of f.records))))))))))

  -- ---- all places

  apart_sides : (xs ys : List ℕ) → DistinctNumbers (xs ++ ys) → AllByRecursion (λ n. member n xs ≡ false) ys
  apart_sides [] ys a = nothing ys
    where
      nothing : (ys : List ℕ) → AllByRecursion (λ n. false ≡ false) ys
      nothing [] = tt
      nothing (y ∷ ys) = (refl, nothing ys)
  apart_sides (x ∷ xs) ys a =
      all_both (λ n. eqb n x ≡ false) (λ n. member n xs ≡ false) (λ n. member n (x ∷ xs) ≡ false) (λ n h k. or_from (eqb n x) (member n xs) h k) ys
      (all_right _ xs ys (each_differs x (xs ++ ys) a.0)) (apart_sides xs ys a.1)

  apart_left : (xs ys : List ℕ) → DistinctNumbers (xs ++ ys) → DistinctNumbers xs
  apart_left [] ys a = tt
  apart_left (x ∷ xs) ys a = (member_left x xs ys a.0, apart_left xs ys a.1)
    where
      member_left : (n : ℕ) (xs ys : List ℕ) → member n (xs ++ ys) ≡ false → member n xs ≡ false
      member_left n [] ys h = refl
      member_left n (x ∷ xs) ys h = let parts = or_parts (eqb n x) (member n (xs ++ ys)) h in or_from (eqb n x) (member n xs) parts.0 (member_left n xs ys parts.1)

  apart_rest : (xs ys : List ℕ) → DistinctNumbers (xs ++ ys) → DistinctNumbers ys
  apart_rest [] ys h = h
  apart_rest (x ∷ xs) ys h = apart_rest xs ys h.1

  pub places_read : (es : List (Option Entry)) (p : ℕ) (visited : List ℕ) (names : List (List ℕ)) →
      ((i : ℕ) → i < length es → place ss (p + i) ≡ place_bytes (get_or es i None)) → AllByRecursion Fits es → Contains (chains es) ss →
      AllByRecursion (λ f. legal f.name ≡ true) (entries es) → DistinctNames (entries es) → AllByRecursion (λ f. AllByRecursion (λ m. same f.name m ≡ false) names) (entries es) →
      AllByRecursion (λ n. usable ss n ≡ true) (addresses es) → AllByRecursion (λ n. member n visited ≡ false) (addresses es) → DistinctNumbers (addresses es) →
      places_from ss (length es) p visited names ≡ read es
  places_read [] p visited names at fit h lawful apart new able out a = refl
  places_read (None ∷ es) p visited names at fit h lawful apart new able out a =
      let z : p ≡ p + 0 = omega arith in
      let e : place ss p ≡ place_bytes None = ap (place ss) z ∙ at 0 (omega arith) in
      let ih = places_read es (p + 1) visited names (λ i l. (let j : p + 1 + i ≡ p + suc i = omega arith in ap (place ss) j ∙ at (suc i) (omega arith))) fit.1 h lawful apart new able out a in
      cond-true (zeros (place ss p)) _ _ (ap zeros e) ∙ ap (λ w. then w (λ es. read (None ∷ es))) ih
  places_read (Some f ∷ es) p visited names at fit h lawful apart new able out a =
      let z : p ≡ p + 0 = omega arith in
      let e : place ss p ≡ place_bytes (Some f) = ap (place ss) z ∙ at 0 (omega arith) in
      let some : zeros (place_bytes (Some f)) ≡ false = and_left (eqb (length f.name) 0) _ (ne_eqb (length f.name) 0 (λ z. omega (arith, fit.0.0))) in
      let us = ats f.records in
      let rest = addresses es in
      let file = file_read f fit.0.1 visited names (4 + p / 3) (all_left _ (chain f) (chains es) h) lawful.0 new.0 able.0 out.0
      (all_left _ us rest able.1) (all_left _ us rest out.1) (apart_left (f.at ∷ us) rest a) in
      let there : numbers (chain f) ≡ f.at ∷ us = ap (λ xs. f.at ∷ xs) (numbers_linked f.at f.records) in
      let unmet : AllByRecursion (λ n. member n (numbers (chain f) ++ visited) ≡ false) rest =
      subst (λ xs. AllByRecursion (λ n. member n (xs ++ visited) ≡ false) rest) (sym there)
      (all_both (λ n. member n (f.at ∷ us) ≡ false) (λ n. member n visited ≡ false) (λ n. member n ((f.at ∷ us) ++ visited) ≡ false) (λ n x y. member_join n (f.at ∷ us) visited x y) rest (apart_sides (f.at ∷ us) rest a) (all_right _ us rest out.1)) in
      let names_new : AllByRecursion (λ g. AllByRecursion (λ m. same g.name m ≡ false) (f.name ∷ names)) (entries es) =
      all_both (λ g. same f.name g.name ≡ false) (λ g. AllByRecursion (λ m. same g.name m ≡ false) names) (λ g. AllByRecursion (λ m. same g.name m ≡ false) (f.name ∷ names))
      (λ g x y. (same_turned g.name f.name ∙ x, y)) (entries es) (none_named f.name (entries es) apart.0) new.1 in
      let ih = places_read es (p + 1) (numbers (chain f) ++ visited) (f.name ∷ names) (λ i l. (let j : p + 1 + i ≡ p + suc i = omega arith in ap (place ss) j ∙ at (suc i) (omega arith)))
      fit.1 (all_right _ (chain f) (chains es) h) lawful.1 apart.1 names_new (all_right _ us rest able.1) unmet (apart_rest (f.at ∷ us) rest a) in
      cond-false (zeros (place ss p)) _ _ (ap zeros e ∙ some) ∙
      (ap (λ w. then w (λ g. then (places_from ss (length es) (p + 1) (numbers (chain g) ++ visited) (g.name ∷ names)) (λ es. read (Some g ∷ es)))) (ap (file_at ss visited names (4 + p / 3)) e ∙ file) ∙
      ap (λ w. then w (λ es. read (Some f ∷ es))) ih)

-- ---- the label

pub line_stops : (xs ys : List ℕ) → all (λ c. leb 0x20 c && (leb c 0x7E && not (eqb c 0x3B))) xs ≡ true → line (xs ++ (10 ∷ ys)) ≡ xs
line_stops [] ys h = refl
line_stops (x ∷ xs) ys h =
    let parts = and_parts (leb 0x20 x && (leb x 0x7E && not (eqb x 0x3B))) (all (λ c. leb 0x20 c && (leb c 0x7E && not (eqb c 0x3B))) xs) h in
    let low : 0x20 ≤ x = leb-true 0x20 x (and_parts (leb 0x20 x) (leb x 0x7E && not (eqb x 0x3B)) parts.0).0 in
    cond-false (eqb x 10) [] (x ∷ line (xs ++ (10 ∷ ys))) (ne_eqb x 10 (λ e. omega arith)) ∙ ap (λ zs. x ∷ zs) (line_stops xs ys parts.1)

pub four : {X : Type 0} (z : X) (xs : List X) → length xs ≡ 4 → get_or xs 0 z ∷ (get_or xs 1 z ∷ (get_or xs 2 z ∷ (get_or xs 3 z ∷ []))) ≡ xs
four z [] h = absurd (omega arith)
four z (a ∷ []) h = absurd (omega arith)
four z (a ∷ (b ∷ [])) h = absurd (omega arith)
four z (a ∷ (b ∷ (c ∷ []))) h = absurd (omega arith)
four z (a ∷ (b ∷ (c ∷ (d ∷ [])))) h = refl
four z (a ∷ (b ∷ (c ∷ (d ∷ (e ∷ xs))))) h = absurd (omega arith)

pub three : {X : Type 0} (z : X) (xs : List X) → length xs ≡ 3 → get_or xs 0 z ∷ (get_or xs 1 z ∷ (get_or xs 2 z ∷ [])) ≡ xs
three z [] h = absurd (omega arith)
three z (a ∷ []) h = absurd (omega arith)
three z (a ∷ (b ∷ [])) h = absurd (omega arith)
three z (a ∷ (b ∷ (c ∷ []))) h = refl
three z (a ∷ (b ∷ (c ∷ (d ∷ xs)))) h = absurd (omega arith)
