-- Walks along the chains of a disk that shows a layout.
use Rattle.std.proofs.Common.{◌≡◌, ℕ, zero, suc, ◌+◌, ◌-◌, ◌*◌, ◌/◌, ◌%◌, ◌<◌, ◌≤◌, true, false, ◌&&◌, ◌||◌, eqb, ltb, leb, List, [], ◌∷◌, ◌++◌, map, reverse, length, Some, None, Option, sym, refl, ap, ◌∙◌, subst, arith}
use mathlib.Core.List.{reverse-cons}
use Rattle.std.specs.List.{AllByRecursion}
use Rattle.std.proofs.lemmas.Bool.{or_parts, or_from, or_right, ne_eqb, eq-eqb, eqb-false, cond-true, cond-false, and_parts, leb-true, ltb-true}
use Rattle.std.proofs.lemmas.List.{append_assoc, append-nil, length-append, length-map}
use Rattle.std.proofs.ByRecursion.{All-weaker}
use Rattle.chains.specs.Layout.{Disk, Layout, Entry, Placed, null, reserved, first_of, end_of, last_of, linked, chain, chains, member, Contains}
use Rattle.chains.specs.Sound.{DistinctNumbers, ValidLayout, entries}
use Rattle.chains.specs.Reading.{sector_at, number}
use Rattle.rules.specs.Runs.{onward, backward, chain_forward, chain_backward, contents}
use Rattle.rules.proofs.Addresses.{ats, addresses, numbers_chains}
use Rattle.rules.proofs.Counting.{addresses_few}

pub all_left : {X : Type 0} (P : X → Type 0) (xs ys : List X) → AllByRecursion P (xs ++ ys) → AllByRecursion P xs
all_left P [] ys h = tt
all_left P (x ∷ xs) ys h = (h.0, all_left P xs ys h.1)

pub all_right : {X : Type 0} (P : X → Type 0) (xs ys : List X) → AllByRecursion P (xs ++ ys) → AllByRecursion P ys
all_right P [] ys h = h
all_right P (x ∷ xs) ys h = all_right P xs ys h.1

module _ (ss : Disk) where
  contents_linked : (here : ℕ) (ps : List Placed) → Contains (linked here ps) ss → contents ss (ats ps) ≡ map (λ p. p.bytes) ps
  contents_linked here [] h = refl
  contents_linked here (p ∷ ps) h =
      let one : (sector_at ss p.at).bytes ≡ p.bytes = ap (λ s. s.bytes) h.0 in
      let rest = contents_linked p.at ps h.1 in
      cc

  walk_forward : (here : ℕ) (ps : List Placed) (k : ℕ) → Contains (linked here ps) ss → AllByRecursion (λ n. n < null) (ats ps) → length ps ≤ k → onward ss k (first_of ps) ≡ ats ps
  walk_forward here [] zero h a l = refl
  walk_forward here [] (suc k) h a l = refl
  walk_forward here (p ∷ ps) zero h a l = absurd (omega arith)
  walk_forward here (p ∷ ps) (suc k) h a l =
      let low : p.at < null = a.0 in
      cond-false (eqb p.at null) [] (p.at ∷ onward ss k (sector_at ss p.at).forward) (ne_eqb p.at null (λ e. omega arith)) ∙
      ap (λ xs. p.at ∷ xs) (ap (λ s. onward ss k s.forward) h.0 ∙ walk_forward p.at ps k h.1 a.1 (omega arith))

  module _ (top : ℕ) where
    back_null : (k : ℕ) → backward ss top k null ≡ []
    back_null zero = refl
    back_null (suc k) = refl

    back_top : (k : ℕ) → backward ss top k top ≡ []
    back_top zero = refl
    back_top (suc k) = cond-true (eqb top null || eqb top top) [] (top ∷ backward ss top k (sector_at ss top).back) (or_right (eqb top null) (eqb top top) (eq-eqb top top refl))

    walk_back : (here : ℕ) (ps : List Placed) (k : ℕ) → Contains (linked here ps) ss → AllByRecursion (λ n. n < null) (ats ps) → AllByRecursion (λ n. eqb n top ≡ false) (ats ps) → length ps ≤ k →
        backward ss top k (end_of here ps) ≡ reverse (ats ps) ++ backward ss top (k - length ps) here
    walk_back here [] k h a o l = let e : k ≡ k - 0 = omega arith in ap (λ j. backward ss top j here) e
    walk_back here (p ∷ ps) k h a o l =
        let low : p.at < null = a.0 in
        let j = k - length (p ∷ ps) in
        let e : k - length ps ≡ suc j = omega arith in
        let rest = backward ss top j here in
        let one : backward ss top (suc j) p.at ≡ p.at ∷ rest =
        cond-false (eqb p.at null || eqb p.at top) [] (p.at ∷ backward ss top j (sector_at ss p.at).back) (or_from (eqb p.at null) (eqb p.at top) (ne_eqb p.at null (λ e. omega arith)) o.0) ∙
        ap (λ s. p.at ∷ backward ss top j s.back) h.0 in
        walk_back p.at ps k h.1 a.1 o.1 (omega arith) ∙
        (ap (λ xs. reverse (ats ps) ++ xs) (ap (λ i. backward ss top i p.at) e ∙ one) ∙
        (sym (append_assoc (reverse (ats ps)) (p.at ∷ []) rest) ∙ ap (λ xs. xs ++ rest) (sym (reverse-cons p.at (ats ps)))))

  -- what the disk's links and bytes say of a file
  pub record Walked (f : Entry) : Type 0 where
    pub forth : chain_forward ss f.at ≡ ats f.records
    pub back : chain_backward ss f.at ≡ reverse (ats f.records)
    pub holds_bytes : contents ss (ats f.records) ≡ map (λ p. p.bytes) f.records

  from_word : (x : ℕ) → x % 256 + 256 * (x / 256) ≡ x
  from_word x = omega arith

  back_from_last : (f : Entry) (ps : List Placed) → Contains (linked f.at ps) ss → AllByRecursion (λ n. n < null) (ats ps) → AllByRecursion (λ n. eqb n f.at ≡ false) (ats ps) → length ps ≤ length ss →
      backward ss f.at (length ss) (last_of ps) ≡ reverse (ats ps)
  back_from_last f [] h a o l = back_null f.at (length ss)
  back_from_last f (p ∷ ps) h a o l =
      walk_back f.at f.at (p ∷ ps) (length ss) h a o l ∙
      (ap (λ xs. reverse (ats (p ∷ ps)) ++ xs) (back_top f.at (length ss - length (p ∷ ps))) ∙ append-nil (reverse (ats (p ∷ ps))))

  walked : (f : Entry) → Contains (chain f) ss → AllByRecursion (λ n. n < null) (ats f.records) → AllByRecursion (λ n. eqb n f.at ≡ false) (ats f.records) → length f.records ≤ length ss → Walked f
  walked f h a o l = record {
    forth =
        ap (λ s. onward ss (length ss) (number s.bytes 0)) h.0 ∙
        (ap (onward ss (length ss)) (from_word (first_of f.records)) ∙ walk_forward f.at f.records (length ss) h.1 a l);
    back =
        ap (λ s. backward ss f.at (length ss) (number s.bytes 2)) h.0 ∙
        (ap (backward ss f.at (length ss)) (from_word (last_of f.records)) ∙ back_from_last f f.records h.1 a o l);
    holds_bytes = contents_linked f.at f.records h.1;
  }

  apart_from : (n : ℕ) (xs ys : List ℕ) → member n (xs ++ ys) ≡ false → AllByRecursion (λ m. eqb m n ≡ false) xs
  apart_from n [] ys h = tt
  apart_from n (x ∷ xs) ys h =
      let parts = or_parts (eqb n x) (member n (xs ++ ys)) h in
      (ne_eqb x n (λ e. eqb-false n x parts.0 (sym e)), apart_from n xs ys parts.1)

  apart_right : (xs ys : List ℕ) → DistinctNumbers (xs ++ ys) → DistinctNumbers ys
  apart_right [] ys h = h
  apart_right (x ∷ xs) ys h = apart_right xs ys h.1

  all_walked : (es : List (Option Entry)) → Contains (chains es) ss → AllByRecursion (λ n. n < null) (addresses es) → DistinctNumbers (addresses es) → length (addresses es) ≤ length ss → AllByRecursion Walked (entries es)
  all_walked [] h a o l = tt
  all_walked (None ∷ es) h a o l = all_walked es h a o l
  all_walked (Some f ∷ es) h a o l =
      let e = length-append (ats f.records) (addresses es) in
      let e' = length-map f.records (λ (p : Placed). p.at) in (
        walked f (all_left _ (chain f) (chains es) h) (all_left _ (ats f.records) (addresses es) a.1) (apart_from f.at (ats f.records) (addresses es) o.0) (omega arith),
        all_walked es (all_right _ (chain f) (chains es) h) (all_right _ (ats f.records) (addresses es) a.1) (apart_right (ats f.records) (addresses es) o.1) (omega arith),
      )

-- every chain of a layout that the disk shows
pub chains_walked : (d : Layout) (ss : Disk) → ValidLayout d → length ss ≡ d.size → Contains (chains d.places) ss → AllByRecursion (Walked ss) (entries d.places)
chains_walked d ss p e h =
    let small = leb-true d.size 2464 (and_parts (leb 64 d.size) (leb d.size 2464) p.size).1 in
    let xs = addresses d.places in
    let use_able : AllByRecursion (λ n. (leb reserved n && ltb n d.size) ≡ true) xs = subst (AllByRecursion (λ n. (leb reserved n && ltb n d.size) ≡ true)) (numbers_chains d.places) p.usable in
    all_walked ss d.places h
    (All-weaker _ (λ n. n < null) (λ n h. let l : n < d.size = ltb-true n d.size (and_parts (leb reserved n) (ltb n d.size) h).1 in omega arith) xs use_able)
    (subst DistinctNumbers (numbers_chains d.places) p.apart) (omega (arith, addresses_few d p))
