-- A disk that shows a layout is surveyed to that layout.
use Rattle.device.specs.declared.fault.Code.TheVariants.{BadLabel, PointerError}
use Rattle.std.proofs.Common.{◌≡◌, ℕ, zero, suc, ◌+◌, ◌-◌, ◌<◌, true, ◌&&◌, eqb, ltb, leb, List, [], ◌∷◌, ◌++◌, map, length, get_or, drop, replicate, codes, Option, sym, refl, ap, ◌∙◌, subst, arith}
use Rattle.std.specs.List.{AllByRecursion}
use Rattle.std.proofs.lemmas.Bool.{and_parts, and_from, eq-eqb, cond-true}
use Rattle.std.proofs.lemmas.List.{append_assoc}
use Rattle.chains.specs.Names.{same, legal_id}
use Rattle.device.specs.Codes.{code_number}
use Rattle.chains.specs.Layout.{Disk, Layout, Entry, Links, null, decimal, label_bytes, label_and_map, directory, directory_back, directory_forward, chains, reserved, fixed_sectors, Contains}
use Rattle.chains.specs.Sound.{DistinctNumbers, ValidLayout, entries}
use Rattle.chains.specs.Reading.{Found, fault, read, then, sector_at, zeros, usable, place, places_from, directory_from, line, label_id, parse_layout}
use Rattle.rules.proofs.Rearranging.{same_itself}
use Rattle.rules.proofs.Addresses.{addresses, numbers_chains}
use Rattle.rules.proofs.Directory.{places_fit, place_shown, sector_whole, end_zero}
use Rattle.rules.proofs.Walks.{all_left, all_right}
use Rattle.rules.proofs.Surveying.{places_read, line_stops, four, three}

all_of_each : {X : Type 0} (P : X → Type 0) → ((x : X) → P x) → (xs : List X) → AllByRecursion P xs
all_of_each P h [] = tt
all_of_each P h (x ∷ xs) = (h x, all_of_each P h xs)

module _ (d : Layout) (ss : Disk) (p : ValidLayout d) (size : length ss ≡ d.size) (h : Contains (fixed_sectors d) ss) where
  pub label_shown : Contains (label_and_map d) ss
  label_shown = all_left _ (label_and_map d) (directory d.places ++ chains d.places) h

  rest_shown : Contains (directory d.places ++ chains d.places) ss
  rest_shown = all_right _ (label_and_map d) (directory d.places ++ chains d.places) h

  directory_there : Contains (directory d.places) ss
  directory_there = all_left _ (directory d.places) (chains d.places) rest_shown

  chains_there : Contains (chains d.places) ss
  chains_there = all_right _ (directory d.places) (chains d.places) rest_shown

  id_read : label_id ss ≡ d.id
  id_read =
      let id = d.id in
      let rest = codes "SECTORS=" ++ (decimal d.size ++ (10 ∷ [])) in
      let z = replicate (128 - length (codes "ID=" ++ (id ++ (10 ∷ rest)))) 0 in
      let printable = (and_parts (leb (length id) 24) _ (and_parts (leb 1 (length id)) _ p.id).1).1 in
      ap (λ s. line (drop 3 s.bytes)) label_shown.0 ∙
      (ap line (append_assoc id (10 ∷ rest) z) ∙ line_stops id (rest ++ z) printable)

  directory_ok : {A : Type 0} (k : Found A) (n i : ℕ) → n + i ≡ 32 → directory_from ss n i k ≡ k
  directory_ok k zero i e = refl
  directory_ok k (suc n) i e =
      let fit = places_fit d.places p.names in
      let low : i < 32 = omega arith in
      let ok : (eqb (sector_at ss (4 + i)).back (directory_back i) && (eqb (sector_at ss (4 + i)).forward (directory_forward i) && zeros (drop 120 (sector_at ss (4 + i)).bytes))) ≡ true =
      ap (λ s. eqb s.back (directory_back i) && (eqb s.forward (directory_forward i) && zeros (drop 120 s.bytes))) (sector_whole d.places ss fit p.places directory_there i low) ∙
      and_from (eqb (directory_back i) (directory_back i)) _ (eq-eqb (directory_back i) (directory_back i) refl)
      (and_from (eqb (directory_forward i) (directory_forward i)) _ (eq-eqb (directory_forward i) (directory_forward i) refl) (end_zero d.places ss fit p.places directory_there i low)) in
      cond-true _ (directory_from ss n (i + 1) k) (fault (code_number PointerError) (4 + i)) ok ∙ directory_ok k n (i + 1) (omega arith)

  places_ok : places_from ss 96 0 [] [] ≡ read d.places
  places_ok =
      let es = d.places in
      let fit = places_fit es p.names in
      let use_able : AllByRecursion (λ n. usable ss n ≡ true) (addresses es) =
      subst (λ s. AllByRecursion (λ n. (leb reserved n && ltb n s) ≡ true) (addresses es)) (sym size) (subst (AllByRecursion (λ n. (leb reserved n && ltb n d.size) ≡ true)) (numbers_chains es) p.usable) in
      ap (λ k. places_from ss k 0 [] []) (sym p.places) ∙
      places_read ss es 0 [] [] (λ i l. (let j : 0 + i ≡ i = omega arith in ap (place ss) j ∙ place_shown es ss fit p.places directory_there i (omega (arith, p.places)))) fit chains_there p.names p.distinct
      (all_of_each _ (λ f. tt) (entries es)) use_able (all_of_each _ (λ n. refl) (addresses es)) (subst DistinctNumbers (numbers_chains es) p.apart)

  abbrev no_links : Links
  no_links = record { back = null; forward = null }

  abbrev links_at : ℕ → Links
  links_at n = record { back = (sector_at ss n).back; forward = (sector_at ss n).forward }

  margins_read : map (λ n. record { back = (sector_at ss n).back; forward = (sector_at ss n).forward }) (0 ∷ 1 ∷ 2 ∷ 3 ∷ []) ≡ d.reserved_links
  margins_read =
      let m0 : links_at 0 ≡ get_or d.reserved_links 0 no_links = ap (λ s. record { back = s.back; forward = s.forward }) label_shown.0 in
      let m1 : links_at 1 ≡ get_or d.reserved_links 1 no_links = ap (λ s. record { back = s.back; forward = s.forward }) label_shown.1.0 in
      let m2 : links_at 2 ≡ get_or d.reserved_links 2 no_links = ap (λ s. record { back = s.back; forward = s.forward }) label_shown.1.1.0 in
      let m3 : links_at 3 ≡ get_or d.reserved_links 3 no_links = ap (λ s. record { back = s.back; forward = s.forward }) label_shown.1.1.1.0 in
      let all_four = four no_links d.reserved_links p.reserved_links in
      let e : links_at 0 ∷ (links_at 1 ∷ (links_at 2 ∷ (links_at 3 ∷ []))) ≡ d.reserved_links = cc in
      e

  map_read : map (λ n. (sector_at ss n).bytes) (1 ∷ 2 ∷ 3 ∷ []) ≡ d.map
  map_read =
      let a : (sector_at ss 1).bytes ≡ get_or d.map 0 [] = ap (λ s. s.bytes) label_shown.1.0 in
      let b : (sector_at ss 2).bytes ≡ get_or d.map 1 [] = ap (λ s. s.bytes) label_shown.1.1.0 in
      let c : (sector_at ss 3).bytes ≡ get_or d.map 2 [] = ap (λ s. s.bytes) label_shown.1.1.1.0 in
      let all_three = three [] d.map p.map in
      cc

  pub survey_read : parse_layout ss ≡ read d
  survey_read =
      let ok : (legal_id (label_id ss) && same (sector_at ss 0).bytes (label_bytes (label_id ss) (length ss))) ≡ true =
      and_from (legal_id (label_id ss)) _ (ap legal_id id_read ∙ p.id)
      (ap (λ bs. same bs (label_bytes (label_id ss) (length ss))) (ap (λ s. s.bytes) label_shown.0) ∙
      (ap (λ i. same (label_bytes d.id d.size) (label_bytes i (length ss))) id_read ∙
      (ap (λ s. same (label_bytes d.id d.size) (label_bytes d.id s)) size ∙ same_itself (label_bytes d.id d.size)))) in
      let F : List (Option Entry) → Found Layout = λ es. read (record {
        id = label_id ss;
        size = length ss;
        reserved_links = map (λ n. record { back = (sector_at ss n).back; forward = (sector_at ss n).forward }) (0 ∷ 1 ∷ 2 ∷ 3 ∷ []);
        map = map (λ n. (sector_at ss n).bytes) (1 ∷ 2 ∷ 3 ∷ []);
        places = es;
      }) in
      cond-true _ (directory_from ss 32 0 (then (places_from ss 96 0 [] []) F)) (fault (code_number BadLabel) 0) ok ∙
      (directory_ok (then (places_from ss 96 0 [] []) F) 32 0 refl ∙
      (ap (λ w. then w F) places_ok ∙
      (ap (λ i. read (record { id = i; size = length ss; reserved_links = map (λ n. record { back = (sector_at ss n).back; forward = (sector_at ss n).forward }) (0 ∷ 1 ∷ 2 ∷ 3 ∷ []); map = map (λ n. (sector_at ss n).bytes) (1 ∷ 2 ∷ 3 ∷ []); places = d.places })) id_read ∙
      (ap (λ s. read (record { id = d.id; size = s; reserved_links = map (λ n. record { back = (sector_at ss n).back; forward = (sector_at ss n).forward }) (0 ∷ 1 ∷ 2 ∷ 3 ∷ []); map = map (λ n. (sector_at ss n).bytes) (1 ∷ 2 ∷ 3 ∷ []); places = d.places })) size ∙
      (ap (λ m. read (record { id = d.id; size = d.size; reserved_links = m; map = map (λ n. (sector_at ss n).bytes) (1 ∷ 2 ∷ 3 ∷ []); places = d.places })) margins_read ∙
      ap (λ m. read (record { id = d.id; size = d.size; reserved_links = d.reserved_links; map = m; places = d.places })) map_read)))))
