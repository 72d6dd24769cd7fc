-- Reading takes every sound disk.
use Rattle.device.specs.declared.fault.Code.TheVariants.{MapWrong}
use Rattle.std.proofs.Common.{◌≡◌, ℕ, zero, suc, ◌+◌, ◌*◌, ◌/◌, ◌%◌, ◌^◌, ◌<◌, ◌≤◌, Bool, true, false, cond, not, eqb, List, [], map, length, get_or, refl, ap, ◌∙◌, arith}
use Rattle.std.specs.List.{range_with_len}
use Rattle.std.proofs.lemmas.Bool.{cond-true}
use Rattle.std.proofs.lemmas.List.FromFn.{get_or-map-range_with_len}
use Rattle.device.specs.Codes.{code_number}
use Rattle.chains.specs.Layout.{Disk, Layout, bit, map_byte, map_bytes, allocated}
use Rattle.chains.specs.Sound.{Sound}
use Rattle.chains.specs.Reading.{Found, fault, read, then, sector_at, marks, map_from, reading}
use Rattle.rules.proofs.Survey.{survey_read, label_shown}

-- ---- one bit of a byte

bit_is : (t : Bool) (v : ℕ) → bit t v ≡ v * bit t 1
bit_is true v = omega arith
bit_is false v = omega arith

bit_small : (t : Bool) → bit t 1 ≤ 1
bit_small true = omega arith
bit_small false = omega arith

bit_tells : (t : Bool) → eqb (bit t 1) 1 ≡ t
bit_tells true = refl
bit_tells false = refl

module _ (b0 b1 b2 b3 b4 b5 b6 b7 : Bool) where
  abbrev byte : ℕ
  byte = bit b0 1 + (bit b1 2 + (bit b2 4 + (bit b3 8 + (bit b4 16 + (bit b5 32 + (bit b6 64 + bit b7 128))))))

  abbrev split : ℕ
  split = bit b0 1 + (2 * bit b1 1 + (4 * bit b2 1 + (8 * bit b3 1 + (16 * bit b4 1 + (32 * bit b5 1 + (64 * bit b6 1 + 128 * bit b7 1))))))

  byte_split : byte ≡ split
  byte_split = omega (arith, bit_is b1 2, bit_is b2 4, bit_is b3 8, bit_is b4 16, bit_is b5 32, bit_is b6 64, bit_is b7 128)

numeric : (x0 x1 x2 x3 x4 x5 x6 x7 : ℕ) → x0 ≤ 1 → x1 ≤ 1 → x2 ≤ 1 → x3 ≤ 1 → x4 ≤ 1 → x5 ≤ 1 → x6 ≤ 1 → x7 ≤ 1 → (y : ℕ) → y ≡ x0 + (2 * x1 + (4 * x2 + (8 * x3 + (16 * x4 + (32 * x5 + (64 * x6 + 128 * x7)))))) →
    (y / 1 % 2 ≡ x0) × (y / 2 % 2 ≡ x1) × (y / 4 % 2 ≡ x2) × (y / 8 % 2 ≡ x3) × (y / 16 % 2 ≡ x4) × (y / 32 % 2 ≡ x5) × (y / 64 % 2 ≡ x6) × (y / 128 % 2 ≡ x7)
numeric x0 x1 x2 x3 x4 x5 x6 x7 a b c d e f g h y s =
    (omega arith, omega arith, omega arith, omega arith, omega arith, omega arith, omega arith, omega arith)

-- ---- the walk over the map

agree : (t : Bool) → cond t t (not t) ≡ true
agree true = refl
agree false = refl

map_ok : {A : Type 0} (ss : Disk) (m : ℕ → Bool) (k : Found A) (j n : ℕ) → ((i : ℕ) → i < n + j → marks ss i ≡ m i) → map_from ss m j n k ≡ k
map_ok ss m k zero n h = refl
map_ok ss m k (suc j) n h =
    cond-true (cond (m n) (marks ss n) (not (marks ss n))) (map_from ss m j (n + 1) k) (fault (code_number MapWrong) (1 + n / 1024)) (ap (λ t. cond (m n) t (not t)) (h n (omega arith)) ∙ agree (m n)) ∙
    map_ok ss m k j (n + 1) (λ i l. h i (omega arith))

module _ (m : ℕ → Bool) (base : ℕ) where
  all_eight : (map_byte m base / 1 % 2 ≡ bit (m base) 1) × (map_byte m base / 2 % 2 ≡ bit (m (base + 1)) 1) × (map_byte m base / 4 % 2 ≡ bit (m (base + 2)) 1) × (map_byte m base / 8 % 2 ≡ bit (m (base + 3)) 1) ×
      (map_byte m base / 16 % 2 ≡ bit (m (base + 4)) 1) × (map_byte m base / 32 % 2 ≡ bit (m (base + 5)) 1) × (map_byte m base / 64 % 2 ≡ bit (m (base + 6)) 1) × (map_byte m base / 128 % 2 ≡ bit (m (base + 7)) 1)
  all_eight =
      numeric (bit (m base) 1) (bit (m (base + 1)) 1) (bit (m (base + 2)) 1) (bit (m (base + 3)) 1) (bit (m (base + 4)) 1) (bit (m (base + 5)) 1) (bit (m (base + 6)) 1) (bit (m (base + 7)) 1)
      (bit_small (m base)) (bit_small (m (base + 1))) (bit_small (m (base + 2))) (bit_small (m (base + 3))) (bit_small (m (base + 4))) (bit_small (m (base + 5))) (bit_small (m (base + 6))) (bit_small (m (base + 7)))
      (map_byte m base) (byte_split (m base) (m (base + 1)) (m (base + 2)) (m (base + 3)) (m (base + 4)) (m (base + 5)) (m (base + 6)) (m (base + 7)))

  bit_at : (r : ℕ) → r < 8 → map_byte m base / (2 ^ r) % 2 ≡ bit (m (base + r)) 1
  bit_at zero l = let e : base ≡ base + 0 = omega arith in all_eight.0 ∙ ap (λ n. bit (m n) 1) e
  bit_at (suc zero) l = all_eight.1
  bit_at (suc (suc zero)) l = all_eight.2
  bit_at (suc (suc (suc zero))) l = all_eight.3
  bit_at (suc (suc (suc (suc zero)))) l = all_eight.4
  bit_at (suc (suc (suc (suc (suc zero))))) l = all_eight.5
  bit_at (suc (suc (suc (suc (suc (suc zero)))))) l = all_eight.6
  bit_at (suc (suc (suc (suc (suc (suc (suc zero))))))) l = all_eight.7
  bit_at (suc (suc (suc (suc (suc (suc (suc (suc r)))))))) l = absurd (omega arith)

row : (ℕ → Bool) → ℕ → List ℕ
row m j = map (λ k. map_byte m (1024 * j + 8 * k)) (range_with_len 0 128)

row_at : (m : ℕ → Bool) (j k : ℕ) → k < 128 → get_or (row m j) k 0 ≡ map_byte m (1024 * j + 8 * k)
unfolding row
row_at m j k l = get_or-map-range_with_len (λ k. map_byte m (1024 * j + 8 * k)) 0 128 k k 0 l (omega arith)

rows_at : (m : ℕ → Bool) (j : ℕ) → j < 3 → get_or (map_bytes m) j [] ≡ row m j
unfolding row
rows_at m zero l = refl
rows_at m (suc zero) l = refl
rows_at m (suc (suc zero)) l = refl
rows_at m (suc (suc (suc j))) l = absurd (omega arith)

module _ (d : Layout) (ss : Disk) (s : Sound d ss) where
  map_sector : (j : ℕ) → j < 3 → (sector_at ss (1 + j)).bytes ≡ get_or d.map j []
  map_sector zero l = ap (λ s. s.bytes) (label_shown d ss s.proper s.size s.shows).1.0
  map_sector (suc zero) l = ap (λ s. s.bytes) (label_shown d ss s.proper s.size s.shows).1.1.0
  map_sector (suc (suc zero)) l = ap (λ s. s.bytes) (label_shown d ss s.proper s.size s.shows).1.1.1.0
  map_sector (suc (suc (suc j))) l = absurd (omega arith)

  abbrev alloc : ℕ → Bool
  alloc = allocated d.size d.places

  marked_right : (n : ℕ) → n < 3072 → marks ss n ≡ alloc n
  marked_right n l =
      let j = n / 1024 in
      let k = n / 8 % 128 in
      let base = 1024 * j + 8 * k in
      let in_rows : j < 3 = omega arith in
      let in_row : k < 128 = omega arith in
      let at : base + n % 8 ≡ n = omega arith in
      let bytes : (sector_at ss (1 + j)).bytes ≡ row alloc j = map_sector j in_rows ∙ (ap (λ rs. get_or rs j []) s.map ∙ rows_at alloc j in_rows) in
      ap (λ bs. eqb (get_or bs k 0 / (2 ^ (n % 8)) % 2) 1) bytes ∙
      (ap (λ x. eqb (x / (2 ^ (n % 8)) % 2) 1) (row_at alloc j k in_row) ∙
      (ap (λ x. eqb x 1) (bit_at alloc base (n % 8) (omega arith)) ∙
      (ap (λ i. eqb (bit (alloc i) 1) 1) at ∙ bit_tells (alloc n))))

  pub reading_takes : reading ss ≡ read d
  reading_takes =
      ap (λ w. then w (λ d. map_from ss (allocated (length ss) d.places) 3072 0 (read d))) (survey_read d ss s.proper s.size s.shows) ∙
      (ap (λ z. map_from ss (allocated z d.places) 3072 0 (read d)) s.size ∙
      map_ok ss alloc (read d) 3072 0 (λ i l. marked_right i (omega arith)))
