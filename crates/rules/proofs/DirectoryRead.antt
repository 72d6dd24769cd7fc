-- Directory sectors that are accepted hold the places.
use Rattle.device.specs.declared.fault.Code.TheVariants.{PointerError}
use Rattle.std.proofs.Common.{◌≡◌, ℕ, zero, suc, ◌+◌, ◌*◌, ◌/◌, ◌%◌, ◌<◌, ◌≤◌, Bool, true, ◌&&◌, eqb, List, ◌++◌, length, get_or, take, drop, replicate, None, Option, sym, ap, ◌∙◌, arith}
use Rattle.std.specs.List.{range_with_len, AllByRecursion}
use Rattle.std.proofs.lemmas.List.{length-drop, drop-drop, take-append-drop}
use Rattle.std.proofs.ByRecursion.{All-map}
use Rattle.std.proofs.lemmas.Bool.{and_parts, eqb-true}
use Rattle.device.specs.declared.sector.Sector.{Sector}
use Rattle.device.specs.Device.{blank, WellFormed}
use Rattle.chains.specs.Layout.{Disk, Entry, Contains, NumberedSector, sector, numbered, place_bytes, directory, directory_bytes, directory_back, directory_forward}
use Rattle.chains.specs.Reading.{Found, read, zeros, sector_at, place, directory_from}
use Rattle.rules.proofs.Inverts.{must_tells, from_here, whole_at, zeros_are}

all_counting : (P : ℕ → Type 0) (a n : ℕ) → ((j : ℕ) → a ≤ j → j < a + n → P j) → AllByRecursion P (range_with_len a n)
all_counting P a zero h = tt
all_counting P a (suc n) h = (h a (omega arith) (omega arith), all_counting P (a + 1) n (λ j p q. h j (omega arith) (omega arith)))

pub record Framed (ss : Disk) (i : ℕ) : Type 0 where
  pub back : (sector_at ss (4 + i)).back ≡ directory_back i
  pub forward : (sector_at ss (4 + i)).forward ≡ directory_forward i
  pub rest : zeros (drop 120 (sector_at ss (4 + i)).bytes) ≡ true

pub record Framing (ss : Disk) (n i : ℕ) (Then : Type 0) : Type 0 where
  pub each : (j : ℕ) → i ≤ j → j < i + n → Framed ss j
  pub after : Then

pub directory_tells : (ss : Disk) {A : Type 0} (n i : ℕ) (k : Found A) (x : A) → directory_from ss n i k ≡ read x → Framing ss n i (k ≡ read x)
directory_tells ss zero i k x e = record { each = λ j p q. absurd (omega arith); after = e }
directory_tells ss (suc n) i k x e =
    let s : Sector = sector_at ss (4 + i) in
    let b2 : Bool = eqb s.forward (directory_forward i) && zeros (drop 120 s.bytes) in
    let h = must_tells (eqb s.back (directory_back i) && b2) PointerError (4 + i) (directory_from ss n (i + 1) k) e in
    let a = and_parts (eqb s.back (directory_back i)) b2 h.0 in
    let b = and_parts (eqb s.forward (directory_forward i)) (zeros (drop 120 s.bytes)) a.1 in
    let r = directory_tells ss n (i + 1) k x h.1 in
    record {
      each = from_here (Framed ss) i n (record { back = eqb-true s.back (directory_back i) a.0; forward = eqb-true s.forward (directory_forward i) b.0; rest = b.1 }) r.each;
      after = r.after;
    }

place_is : (ss : Disk) (i j : ℕ) → j < 3 → place ss (3 * i + j) ≡ take 40 (drop (40 * j) (sector_at ss (4 + i)).bytes)
place_is ss i j l =
    let r : (3 * i + j) % 3 ≡ j = omega arith in
    let q : (3 * i + j) / 3 ≡ i = omega arith in
    rw (r, q)

-- three parts and the rest
quarters : (xs : List ℕ) → xs ≡ take 40 xs ++ (take 40 (drop 40 xs) ++ (take 40 (drop 80 xs) ++ drop 120 xs))
quarters xs =
    let a : take 40 xs ++ drop 40 xs ≡ xs = take-append-drop 40 xs in
    let b : take 40 (drop 40 xs) ++ drop 40 (drop 40 xs) ≡ drop 40 xs = take-append-drop 40 (drop 40 xs) in
    let c : take 40 (drop 80 xs) ++ drop 40 (drop 80 xs) ≡ drop 80 xs = take-append-drop 40 (drop 80 xs) in
    let p : drop 40 (drop 40 xs) ≡ drop 80 xs = drop-drop 40 40 xs in
    let q : drop 40 (drop 80 xs) ≡ drop 120 xs = drop-drop 40 80 xs in
    cc

module _ (ss : Disk) (w : AllByRecursion WellFormed ss) where
  one_sector : (es : List (Option Entry)) → ((i : ℕ) → i < 96 → place ss (0 + i) ≡ place_bytes (get_or es i None)) → (i : ℕ) → i < 32 → Framed ss i → sector_at ss (4 + i) ≡ sector (directory_bytes es i) (directory_back i) (directory_forward i)
  one_sector es bytes i l fr =
      let s : Sector = sector_at ss (4 + i) in
      let xs : List ℕ = s.bytes in
      let long : length xs ≡ 128 = (whole_at ss w (4 + i)).count in
      let count : length (drop 120 xs) ≡ 8 = simp length-drop (omega arith) in
      let z0 : 3 * i + 0 ≡ 0 + 3 * i = omega arith in
      let z1 : 3 * i + 1 ≡ 0 + (3 * i + 1) = omega arith in
      let z2 : 3 * i + 2 ≡ 0 + (3 * i + 2) = omega arith in
      let p0 : take 40 xs ≡ place_bytes (get_or es (3 * i) None) = sym (place_is ss i 0 (omega arith)) ∙ ap (place ss) z0 ∙ bytes (3 * i) (omega arith) in
      let p1 : take 40 (drop 40 xs) ≡ place_bytes (get_or es (3 * i + 1) None) = sym (place_is ss i 1 (omega arith)) ∙ ap (place ss) z1 ∙ bytes (3 * i + 1) (omega arith) in
      let p2 : take 40 (drop 80 xs) ≡ place_bytes (get_or es (3 * i + 2) None) = sym (place_is ss i 2 (omega arith)) ∙ ap (place ss) z2 ∙ bytes (3 * i + 2) (omega arith) in
      let p3 : drop 120 xs ≡ replicate 8 0 = zeros_are (drop 120 xs) fr.rest ∙ ap (λ n. replicate n 0) count in
      let content : xs ≡ directory_bytes es i = quarters xs ∙ ap (λ x. x ++ (take 40 (drop 40 xs) ++ (take 40 (drop 80 xs) ++ drop 120 xs))) p0 ∙ ap (λ x. place_bytes (get_or es (3 * i) None) ++ (x ++ (take 40 (drop 80 xs) ++ drop 120 xs))) p1 ∙ ap (λ x. place_bytes (get_or es (3 * i) None) ++ (place_bytes (get_or es (3 * i + 1) None) ++ (x ++ drop 120 xs))) p2 ∙ ap (λ x. place_bytes (get_or es (3 * i) None) ++ (place_bytes (get_or es (3 * i + 1) None) ++ (place_bytes (get_or es (3 * i + 2) None) ++ x))) p3 in
      λ t. record { bytes = content t; back = fr.back t; forward = fr.forward t }

  pub directory_holds : (es : List (Option Entry)) → ((i : ℕ) → i < 96 → place ss (0 + i) ≡ place_bytes (get_or es i None)) → ((j : ℕ) → 0 ≤ j → j < 0 + 32 → Framed ss j) → Contains (directory es) ss
  directory_holds es bytes fr =
      let P : NumberedSector → Type 0 = λ a. get_or ss a.number blank ≡ a.content in
      let f : ℕ → NumberedSector = λ i. numbered (4 + i) (sector (directory_bytes es i) (directory_back i) (directory_forward i)) in
      All-map P f (range_with_len 0 32) (all_counting (λ i. P (f i)) 0 32 (λ j p q. one_sector es bytes j (omega arith) (fr j p q)))
