-- One more place of the directory, or one more sector of three places, and what is left of them.
use Rattle.std.proofs.Common.{◌≡◌, ℕ, zero, suc, ◌+◌, ◌-◌, ◌*◌, ◌/◌, ◌%◌, ◌<◌, ◌≤◌, Bool, true, false, cond, not, ◌&&◌, ◌==◌, List, [], take, drop, get_or, Ok, Err, Result, sym, refl, ap, ◌∙◌, zero-add, arith}
use Rattle.std.proofs.lemmas.List.{drop-drop}
use Rattle.std.proofs.lemmas.Result.{IfOk-at_ok, IfOk-weaker}
use Rattle.std.specs.Result.{IfOk}
use Rattle.std.specs.Simd.{first_chunks}
use Rattle.device.specs.declared.fault.Code.{Code}
use Rattle.device.specs.declared.fault.Code.TheVariants.{PointerError, NotInDirectory, BadEntry}
use Rattle.device.specs.declared.fault.Fault.{Fault}
use Rattle.device.specs.declared.sector.Sector.{Sector}
use Rattle.chains.specs.Names.{legal}
use Rattle.chains.specs.Layout.{Disk}
use Rattle.chains.specs.Reading.{number, sector_at, usable, place, zeros}
use Rattle.chains.specs.Survey.{Seen, address_in, also, descriptor_shaped, file_on, last_field, name_in, named_as, need, next, place_on, places_on, records_on, walk_on, well_formed_place}

-- ---- the bytes of a place

chunk_at : (k : ℕ) (xs : List ℕ) (j : ℕ) → j < k → get_or (first_chunks 40 k xs) j [] ≡ take 40 (drop (40 * j) xs)
chunk_at zero xs j h = absurd (omega arith)
chunk_at (suc k) xs zero h = refl
chunk_at (suc k) xs (suc j) h =
    let on : 40 + 40 * j ≡ 40 * suc j = omega arith in
    chunk_at k (drop 40 xs) j (omega arith) ∙ ap (λ (ys : List ℕ). take 40 ys) (drop-drop (40 * j) 40 xs ∙ ap (λ (n : ℕ). drop n xs) on)

-- the places of the sector e, which was fetched as d
pub same_places : (d e : Sector) (places : List (List ℕ)) → ◌≡◌ {A = Result Sector Fault} (Ok d) (Ok e) → places ≡ first_chunks 40 3 d.bytes → places ≡ first_chunks 40 3 e.bytes
same_places d e places got chunks =
    let there : d ≡ e = cc in
    chunks ∙ (λ k. first_chunks 40 3 (there k).bytes)

-- ---- splitting a row of places

next_next : (x : Result Seen Fault) (f g : Seen → Result Seen Fault) → next x (λ t. next (f t) g) ≡ next (next x f) g
next_next (Err e) f g = refl
next_next (Ok s) f g = refl

module _ (ss : Disk) where
  pub places_split : (a b p : ℕ) (s : Seen) → places_on ss (a + b) p s ≡ next (places_on ss a p s) (λ t. places_on ss b (p + a) t)
  unfolding places_on
  places_split zero b p s =
      let none : zero + b ≡ b = zero-add b in
      let stay : p ≡ p + zero = omega arith in
      ap (λ (k : ℕ). places_on ss k p s) none ∙ ap (λ (q : ℕ). places_on ss b q s) stay
  places_split (suc a) b p s =
      let more : suc a + b ≡ suc (a + b) = omega arith in
      let on : p + 1 + a ≡ p + suc a = omega arith in
      let x : Result Seen Fault = place_on ss s (4 + p / 3) (place ss p) in
      ap (λ (k : ℕ). places_on ss k p s) more
      ∙ (λ i. next x (λ t. places_split a b (p + 1) t i))
      ∙ next_next x (λ t. places_on ss a (p + 1) t) (λ t. places_on ss b (p + 1 + a) t)
      ∙ ap (λ (q : ℕ). next (next x (λ t. places_on ss a (p + 1) t)) (λ t. places_on ss b q t)) on

  -- the places of directory sector i, and those after it
  pub sector_more : (i : ℕ) (s : Seen) → i < 32 → places_on ss (96 - 3 * i) (3 * i) s ≡ next (places_on ss 3 (3 * i) s) (λ t. places_on ss (96 - 3 * (i + 1)) (3 * (i + 1)) t)
  sector_more i s below =
      let split : 96 - 3 * i ≡ 3 + (96 - 3 * (i + 1)) = omega arith in
      let on : 3 * i + 3 ≡ 3 * (i + 1) = omega arith in
      ap (λ (k : ℕ). places_on ss k (3 * i) s) split
      ∙ places_split 3 (96 - 3 * (i + 1)) (3 * i) s
      ∙ (λ k. next (places_on ss 3 (3 * i) s) (λ t. places_on ss (96 - 3 * (i + 1)) (on k) t))

  pub sector_over : (i : ℕ) (s : Seen) → 32 ≤ i → places_on ss (96 - 3 * i) (3 * i) s ≡ Ok s
  unfolding places_on
  sector_over i s over = let none : 96 - 3 * i ≡ 0 = omega arith in ap (λ (k : ℕ). places_on ss k (3 * i) s) none

  -- place j of directory sector i, and those after it in the sector
  pub place_more : (i j : ℕ) (s : Seen) → j < 3 → places_on ss (3 - j) (3 * i + j) s ≡ next (place_on ss s (4 + i) (get_or (first_chunks 40 3 (sector_at ss (4 + i)).bytes) j [])) (λ t. places_on ss (3 - (j + 1)) (3 * i + (j + 1)) t)
  unfolding places_on
  place_more i j s below =
      let row : (3 * i + j) / 3 ≡ i = omega arith in
      let column : (3 * i + j) % 3 ≡ j = omega arith in
      let on : 3 * i + j + 1 ≡ 3 * i + (j + 1) = omega arith in
      let left : 3 - j ≡ suc (3 - (j + 1)) = omega arith in
      ap (λ (k : ℕ). places_on ss k (3 * i + j) s) left
      ∙ (λ k. next (place_on ss s (4 + row k) (take 40 (drop (40 * column k) (sector_at ss (4 + row k)).bytes))) (λ t. places_on ss (3 - (j + 1)) (on k) t))
      ∙ ap (λ (bs : List ℕ). next (place_on ss s (4 + i) bs) (λ t. places_on ss (3 - (j + 1)) (3 * i + (j + 1)) t)) (sym (chunk_at 3 (sector_at ss (4 + i)).bytes j below))

  pub place_over : (i j : ℕ) (s : Seen) → 3 ≤ j → places_on ss (3 - j) (3 * i + j) s ≡ Ok s
  unfolding places_on
  place_over i j s over = let none : 3 - j ≡ 0 = omega arith in ap (λ (k : ℕ). places_on ss k (3 * i + j) s) none

-- ---- how many files a place adds

need_keeps : {A : Type 0} (P : A → Type 0) (b : Bool) (c : Code) (n : ℕ) (k : Result A Fault) → IfOk k P → IfOk (need b c n k) P
need_keeps P true c n k h = h
need_keeps P false c n k h = tt

next_keeps : {A B : Type 0} (P : A → Type 0) (Q : B → Type 0) (x : Result A Fault) (k : A → Result B Fault) → IfOk x P → ((y : A) → P y → IfOk (k y) Q) → IfOk (next x k) Q
next_keeps P Q (Err e) k h f = tt
next_keeps P Q (Ok y) k h f = f y h

any_ok : {A : Type 0} (x : Result A Fault) → IfOk x (λ _. Unit {0})
any_ok (Err e) = tt
any_ok (Ok y) = tt

cond_keeps : {A : Type 0} (P : A → Type 0) (b : Bool) (x y : Result A Fault) → IfOk x P → IfOk y P → IfOk (cond b x y) P
cond_keeps P true x y h g = h
cond_keeps P false x y h g = g

module _ (ss : Disk) where
  abbrev Adds : Seen → ℕ → Seen → Type 0
  Adds s n t = t.files ≤ s.files + n

  records_add : (s : Seen) (bs : List ℕ) → IfOk (records_on ss s bs) (Adds s 1)
  unfolding records_on
  records_add s bs = next_keeps (λ _. Unit {0}) (Adds s 1) (walk_on ss (also (address_in bs) s.met) (address_in bs) (number (sector_at ss (address_in bs)).bytes 4)) _ (any_ok _) (λ w _. need_keeps (Adds s 1) (number (sector_at ss (address_in bs)).bytes 2 == last_field (number (sector_at ss (address_in bs)).bytes 4) w.at) PointerError (address_in bs) _ (omega arith))

  file_adds : (s : Seen) (from : ℕ) (bs : List ℕ) → IfOk (file_on ss s from bs) (Adds s 1)
  unfolding file_on
  file_adds s from bs =
      let at = address_in bs in
      let d = sector_at ss at in
      let shaped = need_keeps (Adds s 1) (descriptor_shaped d) PointerError at (records_on ss s bs) (records_add s bs) in
      let named = need_keeps (Adds s 1) (named_as d bs) NotInDirectory at _ shaped in
      let new = need_keeps (Adds s 1) (not (s.met at)) PointerError from _ named in
      need_keeps (Adds s 1) (well_formed_place bs && (legal (name_in bs) && (not (s.names (name_in bs)) && usable ss at))) BadEntry from _ new

  place_adds : (s : Seen) (from : ℕ) (bs : List ℕ) → IfOk (place_on ss s from bs) (Adds s 1)
  place_adds s from bs = cond_keeps (Adds s 1) (zeros bs) (Ok s) (file_on ss s from bs) (omega arith) (file_adds s from bs)

  places_add : (k p : ℕ) (s : Seen) → IfOk (places_on ss k p s) (Adds s k)
  unfolding places_on
  places_add zero p s = omega arith
  places_add (suc k) p s = next_keeps (Adds s 1) (Adds s (suc k)) _ _ (place_adds s (4 + p / 3) (place ss p)) (λ t h. IfOk-weaker _ (Adds t k) (Adds s (suc k)) (λ u g. omega arith) (places_add k (p + 1) t))

  -- a place adds at most one file, and k places at most k
  pub place_count : (s t : Seen) (from : ℕ) (bs : List ℕ) (r : Result Unit Fault) → place_on ss s from bs ≡ next r (λ _. Ok t) → r ≡ Ok tt → t.files ≤ s.files + 1
  place_count s t from bs r e done = IfOk-at_ok (Adds s 1) (e ∙ ap (λ (x : Result Unit Fault). next x (λ _. Ok t)) done) (place_adds s from bs)

  pub places_count : (k p : ℕ) (s t : Seen) (r : Result Unit Fault) → places_on ss k p s ≡ next r (λ _. Ok t) → r ≡ Ok tt → t.files ≤ s.files + k
  places_count k p s t r e done = IfOk-at_ok (Adds s k) (e ∙ ap (λ (x : Result Unit Fault). next x (λ _. Ok t)) done) (places_add k p s)
