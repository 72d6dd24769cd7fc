-- What stands on a disk that shows a layout: its map, its files' chains, and where these lie.
use Rattle.std.proofs.Common.{◌≡◌, ℕ, zero, suc, ◌+◌, ◌*◌, ◌/◌, ◌%◌, ◌<◌, ◌≤◌, true, false, ◌&&◌, ltb, leb, List, [], ◌∷◌, ◌++◌, map, length, get_or, Some, None, Ok, Option, sym, refl, ap, ◌∙◌, subst, ⊎_elim, arith}
use Rattle.std.specs.List.{range_with_len, AllByRecursion}
use Rattle.std.proofs.lemmas.Bool.{and_parts, cases_eq, leb-true, ltb-true}
use Rattle.device.specs.declared.sector.Sector.{Sector}
use Rattle.device.specs.Device.{Medium, blank}
use Rattle.device.proofs.DeviceFacts.{fetched_ok}
use Rattle.chains.specs.Layout.{Disk, Layout, Entry, NumberedSector, Contains, numbered, sector, reserved, reserved_link, label_and_map, directory, chain, chains, numbers}
use Rattle.chains.specs.Changes.{LaidOut, descriptor_sector}
use Rattle.chains.specs.Descriptors.{described, descriptor_read, fields_in, fields_of}

all_left : {X : Type 0} (P : X → Type 0) (xs ys : List X) → AllByRecursion P (xs ++ ys) → AllByRecursion P xs
all_left P [] ys h = tt
all_left P (x ∷ xs) ys h = (h.0, all_left P xs ys h.1)

all_right : {X : Type 0} (P : X → Type 0) (xs ys : List X) → AllByRecursion P (xs ++ ys) → AllByRecursion P ys
all_right P [] ys h = h
all_right P (x ∷ xs) ys h = all_right P xs ys h.1

all_counted : {X : Type 0} (P : X → Type 0) (f : ℕ → X) (a n : ℕ) → AllByRecursion P (map f (range_with_len a n)) → (i : ℕ) → a ≤ i → i < a + n → P (f i)
all_counted P f a zero h i l u = absurd (omega arith)
all_counted P f a (suc n) h i l u =
    ⊎_elim (λ (e : a ≡ i). subst (λ (k : ℕ). P (f k)) e h.0) (λ (ne : a ≡ i → ⊥). all_counted P f (a + 1) n h.1 i (omega arith) (omega arith)) (cases_eq a i)

-- what holds of the sectors of all chains holds of those of the file at place p
chain_holds : (P : NumberedSector → Type 0) (f : Entry) (es : List (Option Entry)) (p : ℕ) → get_or es p None ≡ Some f → AllByRecursion P (chains es) → AllByRecursion P (chain f)
chain_holds P f [] p e h = let z : ◌≡◌ {A = ℕ} 0 1 = cc in absurd (omega arith)
chain_holds P f (None ∷ es) zero e h = let z : ◌≡◌ {A = ℕ} 0 1 = cc in absurd (omega arith)
chain_holds P f (None ∷ es) (suc p) e h = chain_holds P f es p e h
chain_holds P f (Some g ∷ es) zero e h = let q : g ≡ f = cc in subst (λ (k : Entry). AllByRecursion P (chain k)) q (all_left P (chain g) (chains es) h)
chain_holds P f (Some g ∷ es) (suc p) e h = chain_holds P f es p e (all_right P (chain g) (chains es) h)

by_number : (P : ℕ → Type 0) (xs : List NumberedSector) → AllByRecursion P (numbers xs) → AllByRecursion (λ a. P a.number) xs
by_number P [] h = tt
by_number P (a ∷ xs) h = (h.0, by_number P xs h.1)

-- a sector that a file may use
abbrev pub Usable : Layout → NumberedSector → Type 0
Usable d a = (leb reserved a.number && ltb a.number d.size) ≡ true

pub below : (d : Layout) (ss : Disk) → LaidOut d ss → (n : ℕ) → (leb reserved n && ltb n d.size) ≡ true → (36 ≤ n) × (n < length ss) × (n < 2464)
below d ss laid n h =
    let parts = and_parts (leb reserved n) (ltb n d.size) h in
    let low = leb-true reserved n parts.0 in
    let high = ltb-true n d.size parts.1 in
    let most = leb-true d.size 2464 (and_parts (leb 64 d.size) (leb d.size 2464) laid.proper.size).1 in
    (low, omega (arith, laid.size), omega arith)

module _ (d : Layout) (ss : Disk) (laid : LaidOut d ss) where
  abbrev Stands : NumberedSector → Type 0
  Stands a = get_or ss a.number blank ≡ a.content

  pub stands_map : (j : ℕ) → j < 3 → get_or ss (1 + j) blank ≡ sector (get_or d.map j []) (reserved_link d (1 + j)).back (reserved_link d (1 + j)).forward
  stands_map j h =
      all_counted Stands (λ k. numbered (1 + k) (sector (get_or d.map k []) (reserved_link d (1 + k)).back (reserved_link d (1 + k)).forward)) 0 3
      (all_left Stands (label_and_map d) (directory d.places ++ chains d.places) laid.shows).1 j (omega arith) (omega arith)

  -- the file at place p
  module _ (f : Entry) (p : ℕ) (at_place : get_or d.places p None ≡ Some f) where
    pub stands_chain : Contains (chain f) ss
    stands_chain = chain_holds Stands f d.places p at_place (all_right Stands (directory d.places) (chains d.places) (all_right Stands (label_and_map d) (directory d.places ++ chains d.places) laid.shows))

    pub usable_chain : AllByRecursion (Usable d) (chain f)
    usable_chain = chain_holds (Usable d) f d.places p at_place (by_number (λ n. (leb reserved n && ltb n d.size) ≡ true) (chains d.places) laid.proper.usable)

word_is : (n : ℕ) → n % 256 + 256 * (n / 256) ≡ n
word_is n = omega arith

pub describes : (f : Entry) → described f.name (fields_of f.records) ≡ descriptor_sector f
unfolding described
describes f = refl

-- the descriptor of the file at place p reads back
pub descriptor_shown : (m : Medium) (n : ℕ) (d : Layout) (f : Entry) (p : ℕ) → LaidOut d m.sectors → m.door ≡ false → get_or d.places p None ≡ Some f → f.at ≡ n → descriptor_read m n ≡ Ok (fields_of f.records)
descriptor_shown m n d f p laid shut at_place here =
    let usable = (usable_chain d m.sectors laid f p at_place).0 in
    let within = (below d m.sectors laid f.at usable).1 in
    let fields : fields_in (get_or m.sectors f.at blank).bytes ≡ fields_of f.records =
    ap (λ (s : Sector). fields_in s.bytes) (stands_chain d m.sectors laid f p at_place).0 ∙ λ i. record { first = word_is (fields_of f.records).first i; last = word_is (fields_of f.records).last i; count = word_is (fields_of f.records).count i } in
    ap (λ (k : ℕ). descriptor_read m k) (sym here) ∙ simp (fetched_ok m f.at within shut) (ap Ok fields)
