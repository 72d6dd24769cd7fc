-- Map sectors that are accepted mark what is allocated, and nothing else.
use Rattle.device.specs.declared.fault.Code.TheVariants.{MapWrong}
use Rattle.std.proofs.Common.{◌≡◌, ℕ, zero, suc, ◌+◌, ◌*◌, ◌/◌, ◌%◌, ◌^◌, ◌<◌, ◌≤◌, Bool, true, false, cond, not, eqb, List, [], ◌∷◌, map, length, get_or, sym, refl, ◌∙◌, arith}
use Rattle.std.specs.List.{range_with_len, AllByRecursion}
use Rattle.std.proofs.lemmas.List.FromFn.{fill_by_all}
use Rattle.std.proofs.ByRecursion.{All-get_or}
use Rattle.std.proofs.lemmas.Bool.{and_parts, eqb-true, not-true}
use Rattle.device.specs.Device.{WellFormed}
use Rattle.chains.specs.Names.{all}
use Rattle.chains.specs.Layout.{Disk, bit, map_byte, map_bytes}
use Rattle.chains.specs.Reading.{Found, read, sector_at, marks, map_from}
use Rattle.rules.proofs.Inverts.{must_tells, from_here, whole_at}

agrees : (b t : Bool) → cond b t (not t) ≡ true → t ≡ b
agrees true t e = e
agrees false t e = not-true t e

pub record Marking (ss : Disk) (m : ℕ → Bool) (c n : ℕ) (Then : Type 0) : Type 0 where
  pub each : (j : ℕ) → n ≤ j → j < n + c → marks ss j ≡ m j
  pub after : Then

pub map_tells : (ss : Disk) {A : Type 0} (m : ℕ → Bool) (c n : ℕ) (k : Found A) (x : A) → map_from ss m c n k ≡ read x → Marking ss m c n (k ≡ read x)
map_tells ss m zero n k x e = record { each = λ j p q. absurd (omega arith); after = e }
map_tells ss m (suc c) n k x e =
    let h = must_tells (cond (m n) (marks ss n) (not (marks ss n))) MapWrong (1 + n / 1024) (map_from ss m c (n + 1) k) e in
    let r = map_tells ss m c (n + 1) k x h.1 in
    record { each = from_here (λ j. marks ss j ≡ m j) n c (agrees (m n) (marks ss n) h.0) r.each; after = r.after }

-- a byte's bits
abbrev has_bit : ℕ → ℕ → Bool
has_bit b r = eqb (b / (2 ^ r) % 2) 1

abbrev again : ℕ → ℕ
again b = bit (has_bit b 0) 1 + (bit (has_bit b 1) 2 + (bit (has_bit b 2) 4 + (bit (has_bit b 3) 8 + (bit (has_bit b 4) 16 + (bit (has_bit b 5) 32 + (bit (has_bit b 6) 64 + bit (has_bit b 7) 128))))))

all_below : (p : ℕ → Bool) (a n : ℕ) → all p (range_with_len a n) ≡ true → (i : ℕ) → a ≤ i → i < a + n → p i ≡ true
all_below p a zero e i l h = absurd (omega arith)
all_below p a (suc n) e i l h =
    let t = and_parts (p a) (all p (range_with_len (a + 1) n)) e in
    from_here (λ j. p j ≡ true) a n t.0 (λ j u v. all_below p (a + 1) n t.1 j u v) i l h

byte_bits : (b : ℕ) → b < 256 → b ≡ again b
byte_bits b h = eqb-true b (again b) (all_below (λ b. eqb b (again b)) 0 256 refl b (omega arith) (omega arith))

module _ (ss : Disk) (w : AllByRecursion WellFormed ss) (m : ℕ → Bool) (right : (n : ℕ) → n < 3072 → marks ss n ≡ m n) where
  one_bit : (j k r n : ℕ) → j < 3 → k < 128 → r < 8 → n ≡ 1024 * j + 8 * k + r → m n ≡ has_bit (get_or (sector_at ss (1 + j)).bytes k 0) r
  one_bit j k r n lj lk lr e =
      let s : n / 1024 ≡ j = omega arith in
      let b : n / 8 % 128 ≡ k = omega arith in
      let t : n % 8 ≡ r = omega arith in
      sym (right n (omega arith)) ∙ rw (s, b, t)

  one_byte : (j k : ℕ) → j < 3 → k < 128 → get_or (sector_at ss (1 + j)).bytes k 0 ≡ map_byte m (1024 * j + 8 * k)
  one_byte j k lj lk =
      let x : ℕ = get_or (sector_at ss (1 + j)).bytes k 0 in
      let n : ℕ = 1024 * j + 8 * k in
      let whole = whole_at ss w (1 + j) in
      let long : length (sector_at ss (1 + j)).bytes ≡ 128 = whole.count in
      let small : x < 256 = All-get_or (λ b. b < 2 ^ 8) (sector_at ss (1 + j)).bytes k 0 (omega arith) whole.bytes in
      let b0 : m n ≡ has_bit x 0 = one_bit j k 0 n lj lk (omega arith) (omega arith) in
      let b1 : m (n + 1) ≡ has_bit x 1 = one_bit j k 1 (n + 1) lj lk (omega arith) refl in
      let b2 : m (n + 2) ≡ has_bit x 2 = one_bit j k 2 (n + 2) lj lk (omega arith) refl in
      let b3 : m (n + 3) ≡ has_bit x 3 = one_bit j k 3 (n + 3) lj lk (omega arith) refl in
      let b4 : m (n + 4) ≡ has_bit x 4 = one_bit j k 4 (n + 4) lj lk (omega arith) refl in
      let b5 : m (n + 5) ≡ has_bit x 5 = one_bit j k 5 (n + 5) lj lk (omega arith) refl in
      let b6 : m (n + 6) ≡ has_bit x 6 = one_bit j k 6 (n + 6) lj lk (omega arith) refl in
      let b7 : m (n + 7) ≡ has_bit x 7 = one_bit j k 7 (n + 7) lj lk (omega arith) refl in
      byte_bits x small ∙ rw (b0, b1, b2, b3, b4, b5, b6, b7)

  one_list : (j : ℕ) → j < 3 → (sector_at ss (1 + j)).bytes ≡ map (λ k. map_byte m (1024 * j + 8 * k)) (range_with_len 0 128)
  one_list j lj = fill_by_all (λ k. map_byte m (1024 * j + 8 * k)) (sector_at ss (1 + j)).bytes 128 0 (whole_at ss w (1 + j)).count (λ k lk. one_byte j k lj lk)

  three_rows : (f : ℕ → List ℕ) (a b c : List ℕ) → a ≡ f 0 → b ≡ f 1 → c ≡ f 2 → a ∷ b ∷ c ∷ [] ≡ map f (range_with_len 0 3)
  three_rows f a b c p q r = cc

  pub map_is : map (λ n. (sector_at ss n).bytes) (1 ∷ 2 ∷ 3 ∷ []) ≡ map_bytes m
  map_is = three_rows (λ j. map (λ k. map_byte m (1024 * j + 8 * k)) (range_with_len 0 128)) (sector_at ss 1).bytes (sector_at ss 2).bytes (sector_at ss 3).bytes (one_list 0 (omega arith)) (one_list 1 (omega arith)) (one_list 2 (omega arith))
