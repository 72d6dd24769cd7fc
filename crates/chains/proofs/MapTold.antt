-- Map sectors compared whole tell what reading finds bit by bit.
use Rattle.std.proofs.Common.{◌≡◌, ℕ, zero, suc, ◌+◌, ◌*◌, ◌/◌, ◌%◌, ◌^◌, ◌<◌, ◌≤◌, Bool, true, false, cond, not, ◌&&◌, eqb, ◌⊎◌, List, [], ◌∷◌, length, get_or, replicate, Err, Result, sym, refl, ap, ◌∙◌, subst, inl, inr, ⊎_elim, add-zero, arith, lit<}
use Rattle.std.specs.List.{range_with_len, AllByRecursion}
use Rattle.std.proofs.lemmas.List.FromFn.{fill_by_all, get_or-map-range_with_len}
use Rattle.std.proofs.ByRecursion.{All-get_or, All-from_get_or}
use Rattle.std.proofs.lemmas.List.{get_or-replicate, get_or_past}
use Rattle.std.proofs.lemmas.Bool.{and_parts, eqb-true, eq-eqb, not-true, both_ways, cases_eq, cases_lt, cases_Bool}
use Rattle.device.specs.Codes.{code_number}
use Rattle.device.specs.declared.fault.Code.TheVariants.{MapWrong}
use Rattle.device.specs.declared.fault.Fault.{Fault}
use Rattle.device.specs.Device.{blank, WellFormed}
use Rattle.chains.specs.Names.{all, same}
use Rattle.chains.specs.Layout.{Disk, bit, map_byte}
use Rattle.chains.specs.Fresh.{map_sector_bytes}
use Rattle.chains.specs.Reading.{Found, fault, must, sector_at, marks, map_from}
use Rattle.chains.specs.Survey.{Tells, structure_fault, need, next, map_on}
use Rattle.chains.proofs.Telling.{next_need}

same_is : (xs ys : List ℕ) → same xs ys ≡ true → xs ≡ ys
same_is [] [] e = refl
same_is [] (y ∷ ys) e = let z : ◌≡◌ {A = ℕ} 0 1 = cc in absurd (omega arith)
same_is (x ∷ xs) [] e = let z : ◌≡◌ {A = ℕ} 0 1 = cc in absurd (omega arith)
same_is (x ∷ xs) (y ∷ ys) e =
    let h = and_parts (eqb x y) (same xs ys) e in
    let p = eqb-true x y h.0 in
    let q = same_is xs ys h.1 in
    cc

same_self : (xs : List ℕ) → same xs xs ≡ true
same_self [] = refl
same_self (x ∷ xs) = rw (eq-eqb x x refl) (same_self xs)

blank_whole : WellFormed blank
unfolding blank
blank_whole =
    record {
      count = refl;
      bytes = All-from_get_or (λ b. b < 2 ^ 8) (replicate 128 0) 0 (λ i h. rw (get_or-replicate {A = ℕ} 128 i 0 0 h) (lit< tt));
      back = omega arith;
      forward = omega arith;
    }

pub whole_at : (ss : Disk) → AllByRecursion WellFormed ss → (n : ℕ) → WellFormed (sector_at ss n)
whole_at ss w n =
    ⊎_elim (λ (l : n < length ss). All-get_or WellFormed ss n blank l w) (λ (l : length ss ≤ n). rw (get_or_past ss n blank l) blank_whole)
    (cases_lt n (length ss))

-- ---- a byte and its bits

abbrev has_bit : ℕ → ℕ → Bool
has_bit b r = eqb (b / (2 ^ r) % 2) 1

-- the byte with eight bits, the lowest first
abbrev byte : Bool → Bool → Bool → Bool → Bool → Bool → Bool → Bool → ℕ
byte a b c d e f g h = bit a 1 + (bit b 2 + (bit c 4 + (bit d 8 + (bit e 16 + (bit f 32 + (bit g 64 + bit h 128))))))

abbrev again : ℕ → ℕ
again b = byte (has_bit b 0) (has_bit b 1) (has_bit b 2) (has_bit b 3) (has_bit b 4) (has_bit b 5) (has_bit b 6) (has_bit b 7)

-- what holds here and from the next on
from_here : (P : ℕ → Type 0) (a n : ℕ) → P a → ((j : ℕ) → a + 1 ≤ j → j < a + 1 + n → P j) → (j : ℕ) → a ≤ j → j < a + suc n → P j
from_here P a n here rest j p q = ⊎_elim (λ (e : j ≡ a). subst P (sym e) here) (λ (ne : j ≡ a → ⊥). rest j (omega arith) (omega arith)) (cases_eq j a)

all_below : (p : ℕ → Bool) (a n : ℕ) → all p (range_with_len a n) ≡ true → (i : ℕ) → a ≤ i → i < a + n → p i ≡ true
all_below p a zero e i l h = absurd (omega arith)
all_below p a (suc n) e i l h =
    let t = and_parts (p a) (all p (range_with_len (a + 1) n)) e in
    from_here (λ j. p j ≡ true) a n t.0 (λ j u v. all_below p (a + 1) n t.1 j u v) i l h

byte_bits : (b : ℕ) → b < 256 → b ≡ again b
byte_bits b h = eqb-true b (again b) (all_below (λ b. eqb b (again b)) 0 256 refl b (omega arith) (omega arith))

-- a test of every Bool, computed
abbrev every : (Bool → Bool) → Bool
every f = f true && f false

every_at : (f : Bool → Bool) → every f ≡ true → (b : Bool) → f b ≡ true
every_at f h true = (and_parts (f true) (f false) h).0
every_at f h false = (and_parts (f true) (f false) h).1

abbrev agree : Bool → Bool → Bool
agree true b = b
agree false b = not b

agree_same : (a b : Bool) → agree a b ≡ true → a ≡ b
agree_same true b h = sym h
agree_same false true h = h
agree_same false false h = refl

abbrev nth : ℕ → Bool → Bool → Bool → Bool → Bool → Bool → Bool → Bool → Bool
nth zero a b c d e f g h = a
nth (suc zero) a b c d e f g h = b
nth (suc (suc zero)) a b c d e f g h = c
nth (suc (suc (suc zero))) a b c d e f g h = d
nth (suc (suc (suc (suc zero)))) a b c d e f g h = e
nth (suc (suc (suc (suc (suc zero))))) a b c d e f g h = f
nth (suc (suc (suc (suc (suc (suc zero)))))) a b c d e f g h = g
nth (suc (suc (suc (suc (suc (suc (suc r))))))) a b c d e f g h = h

abbrev test : ℕ → Bool → Bool → Bool → Bool → Bool → Bool → Bool → Bool → Bool
test r a b c d e f g h = agree (has_bit (byte a b c d e f g h) r) (nth r a b c d e f g h)

abbrev tested : ℕ → Bool
tested r = every (λ a. every (λ b. every (λ c. every (λ d. every (λ e. every (λ f. every (λ g. every (λ h. test r a b c d e f g h))))))))

bit_is : (r : ℕ) → tested r ≡ true → (a b c d e f g h : Bool) → has_bit (byte a b c d e f g h) r ≡ nth r a b c d e f g h
bit_is r t a b c d e f g h =
    agree_same _ _
    (every_at (λ h. test r a b c d e f g h)
    (every_at (λ g. every (λ h. test r a b c d e f g h))
    (every_at (λ f. every (λ g. every (λ h. test r a b c d e f g h)))
    (every_at (λ e. every (λ f. every (λ g. every (λ h. test r a b c d e f g h))))
    (every_at (λ d. every (λ e. every (λ f. every (λ g. every (λ h. test r a b c d e f g h)))))
    (every_at (λ c. every (λ d. every (λ e. every (λ f. every (λ g. every (λ h. test r a b c d e f g h))))))
    (every_at (λ b. every (λ c. every (λ d. every (λ e. every (λ f. every (λ g. every (λ h. test r a b c d e f g h)))))))
    (every_at (λ a. every (λ b. every (λ c. every (λ d. every (λ e. every (λ f. every (λ g. every (λ h. test r a b c d e f g h)))))))) t a)
    b) c) d) e) f) g) h)

abbrev Marked : (ℕ → Bool) → ℕ → ℕ → Type 0
Marked m n r = has_bit (map_byte m n) r ≡ m (n + r)

marked : (m : ℕ → Bool) (n r : ℕ) → r < 8 → Marked m n r
marked m n r l = go r l
  where
    at : (r : ℕ) → tested r ≡ true → has_bit (map_byte m n) r ≡ nth r (m n) (m (n + 1)) (m (n + 2)) (m (n + 3)) (m (n + 4)) (m (n + 5)) (m (n + 6)) (m (n + 7))
    at r t = bit_is r t (m n) (m (n + 1)) (m (n + 2)) (m (n + 3)) (m (n + 4)) (m (n + 5)) (m (n + 6)) (m (n + 7))

    go : (r : ℕ) → r < 8 → Marked m n r
    go zero l = rw add-zero (at 0 refl)
    go (suc zero) l = at 1 refl
    go (suc (suc zero)) l = at 2 refl
    go (suc (suc (suc zero))) l = at 3 refl
    go (suc (suc (suc (suc zero)))) l = at 4 refl
    go (suc (suc (suc (suc (suc zero))))) l = at 5 refl
    go (suc (suc (suc (suc (suc (suc zero)))))) l = at 6 refl
    go (suc (suc (suc (suc (suc (suc (suc zero))))))) l = at 7 refl
    go (suc (suc (suc (suc (suc (suc (suc (suc r)))))))) l = absurd (omega arith)

-- ---- a map sector and its bits

cond_self : (b : Bool) → cond b b (not b) ≡ true
cond_self true = refl
cond_self false = refl

agreeing : (b t : Bool) → cond b t (not t) ≡ true → t ≡ b
agreeing true t e = e
agreeing false t e = not-true t e

-- as many bits as so many sectors of c bits have
abbrev pub bits_in : ℕ → ℕ → ℕ
bits_in c zero = 0
bits_in c (suc s) = c + bits_in c s

module _ (ss : Disk) (w : AllByRecursion WellFormed ss) (m : ℕ → Bool) where
  abbrev Right : ℕ → ℕ → Type 0
  Right n c = (i : ℕ) → n ≤ i → i < n + c → marks ss i ≡ m i

  module _ (j : ℕ) where
    -- a sector with the right bits has the right bytes
    module _ (right : Right (1024 * j) 1024) where
      one_bit : (k r n : ℕ) → k < 128 → r < 8 → n ≡ 1024 * j + 8 * k + r → m n ≡ has_bit (get_or (sector_at ss (1 + j)).bytes k 0) r
      one_bit k r n lk lr e =
          let s : n / 1024 ≡ j = omega arith in
          let b : n / 8 % 128 ≡ k = omega arith in
          let t : n % 8 ≡ r = omega arith in
          sym (right n (omega arith) (omega arith)) ∙ rw (s, b, t)

      one_byte : (k : ℕ) → k < 128 → get_or (sector_at ss (1 + j)).bytes k 0 ≡ map_byte m (1024 * j + 8 * k)
      one_byte k lk =
          let x : ℕ = get_or (sector_at ss (1 + j)).bytes k 0 in
          let n : ℕ = 1024 * j + 8 * k in
          let whole = whole_at ss w (1 + j) in
          let long : length (sector_at ss (1 + j)).bytes ≡ 128 = whole.count in
          let small : x < 256 = All-get_or (λ b. b < 2 ^ 8) (sector_at ss (1 + j)).bytes k 0 (omega arith) whole.bytes in
          let b0 : m n ≡ has_bit x 0 = one_bit k 0 n lk (omega arith) (omega arith) in
          let b1 : m (n + 1) ≡ has_bit x 1 = one_bit k 1 (n + 1) lk (omega arith) refl in
          let b2 : m (n + 2) ≡ has_bit x 2 = one_bit k 2 (n + 2) lk (omega arith) refl in
          let b3 : m (n + 3) ≡ has_bit x 3 = one_bit k 3 (n + 3) lk (omega arith) refl in
          let b4 : m (n + 4) ≡ has_bit x 4 = one_bit k 4 (n + 4) lk (omega arith) refl in
          let b5 : m (n + 5) ≡ has_bit x 5 = one_bit k 5 (n + 5) lk (omega arith) refl in
          let b6 : m (n + 6) ≡ has_bit x 6 = one_bit k 6 (n + 6) lk (omega arith) refl in
          let b7 : m (n + 7) ≡ has_bit x 7 = one_bit k 7 (n + 7) lk (omega arith) refl in
          byte_bits x small ∙ rw (b0, b1, b2, b3, b4, b5, b6, b7)

      bytes_right : (sector_at ss (1 + j)).bytes ≡ map_sector_bytes m j
      bytes_right = fill_by_all (λ k. map_byte m (1024 * j + 8 * k)) (sector_at ss (1 + j)).bytes 128 0 (whole_at ss w (1 + j)).count one_byte

    -- and the other way
    bits_right : (sector_at ss (1 + j)).bytes ≡ map_sector_bytes m j → Right (1024 * j) 1024
    bits_right e n l u =
        let s : n / 1024 ≡ j = omega arith in
        let k : ℕ = n / 8 % 128 in
        let q : 1024 * j + 8 * k + n % 8 ≡ n = omega arith in
        let a : get_or (sector_at ss (1 + j)).bytes k 0 ≡ map_byte m (1024 * j + 8 * k) =
        ap (λ (x : List ℕ). get_or x k 0) e ∙ get_or-map-range_with_len (λ k. map_byte m (1024 * j + 8 * k)) 0 128 k k 0 (omega arith) (omega arith) in
        rw (s, a) (marked m (1024 * j + 8 * k) (n % 8) (omega arith) ∙ ap m q)

  -- ---- the walk over the bits

  module _ {A : Type 0} where
    map_split : (a b n : ℕ) (k : Found A) → map_from ss m a n (map_from ss m b (n + a) k) ≡ map_from ss m (a + b) n k
    map_split zero b n k =
        let here : n + 0 ≡ n = omega arith in
        let all_of : b ≡ 0 + b = omega arith in
        λ t. map_from ss m (all_of t) (here t) k
    map_split (suc a) b n k =
        let on : n + suc a ≡ n + 1 + a = omega arith in
        let more : suc (a + b) ≡ suc a + b = omega arith in
        ap (λ (x : Found A). must (cond (m n) (marks ss n) (not (marks ss n))) MapWrong (1 + n / 1024) x)
        (ap (λ (i : ℕ). map_from ss m a (n + 1) (map_from ss m b i k)) on ∙ map_split a b (n + 1) k)
        ∙ ap (λ (c : ℕ). map_from ss m c n k) more

    map_shown : (c n : ℕ) (k : Found A) → Right n c → map_from ss m c n k ≡ k
    map_shown zero n k h = refl
    map_shown (suc c) n k h =
        rw (h n (omega arith) (omega arith), cond_self (m n), map_shown c (n + 1) k (λ i l u. h i (omega arith) (omega arith)))

    -- bits of sector j alone: all are right, or that sector is named
    map_either : (j c n : ℕ) (k : Found A) → ((i : ℕ) → n ≤ i → i < n + c → i / 1024 ≡ j) → Right n c ⊎ (map_from ss m c n k ≡ fault (code_number MapWrong) (1 + j))
    map_either j zero n k within = inl (λ i l u. absurd (omega arith))
    map_either j (suc c) n k within =
        ⊎_elim (λ (e : cond (m n) (marks ss n) (not (marks ss n)) ≡ true).
        ⊎_elim (λ (h : Right (n + 1) c). inl (from_here (λ i. marks ss i ≡ m i) n c (agreeing (m n) (marks ss n) e) h))
        (λ (h : map_from ss m c (n + 1) k ≡ fault (code_number MapWrong) (1 + j)). inr (rw e h))
        (map_either j c (n + 1) k (λ i l u. within i (omega arith) (omega arith))))
        (λ (e : cond (m n) (marks ss n) (not (marks ss n)) ≡ false). inr (rw e (ap (λ (i : ℕ). fault (code_number MapWrong) (1 + i)) (within n (omega arith) (omega arith)))))
        (cases_Bool (cond (m n) (marks ss n) (not (marks ss n))))

  module _ {A B : Type 0} (P : A → B → Type 0) (c : ℕ) (long : c ≡ 1024) where
    -- the sector j, with its first bit n
    sector_tells : (n j : ℕ) → n ≡ 1024 * j → (x : Found A) (y : Result B Fault) → Tells P x y →
        Tells P (map_from ss m c n x) (need (same (sector_at ss (1 + j)).bytes (map_sector_bytes m j)) MapWrong (1 + j) y)
    sector_tells n j e x y h = step (same (sector_at ss (1 + j)).bytes (map_sector_bytes m j)) refl
      where
        step : (b : Bool) → same (sector_at ss (1 + j)).bytes (map_sector_bytes m j) ≡ b → Tells P (map_from ss m c n x) (need b MapWrong (1 + j) y)
        step true s =
            let right : Right (1024 * j) 1024 = bits_right j (same_is (sector_at ss (1 + j)).bytes (map_sector_bytes m j) s) in
            subst (λ (z : Found A). Tells P z y) (sym (map_shown c n x (λ i l u. right i (omega arith) (omega arith)))) h
        step false s =
            ⊎_elim (λ (right : Right n c).
            let is = bytes_right j (λ i l u. right i (omega arith) (omega arith)) in
            absurd (both_ways (same (sector_at ss (1 + j)).bytes (map_sector_bytes m j)) s (ap (λ (bs : List ℕ). same bs (map_sector_bytes m j)) is ∙ same_self (map_sector_bytes m j))))
            (λ (wrong : map_from ss m c n x ≡ fault (code_number MapWrong) (1 + j)). subst (λ (z : Found A). Tells P z (Err (structure_fault MapWrong (1 + j)))) (sym wrong) (refl, refl, refl))
            (map_either j c n x (λ i l u. omega arith))

    pub map_tells : (s n j : ℕ) → n ≡ 1024 * j → (x : Found A) (y : Result B Fault) → Tells P x y → Tells P (map_from ss m (bits_in c s) n x) (next (map_on ss m s j) (λ _. y))
    unfolding map_on
    map_tells zero n j e x y h = h
    map_tells (suc s) n j e x y h =
        let b : Bool = same (sector_at ss (1 + j)).bytes (map_sector_bytes m j) in
        let rest : Result B Fault = next (map_on ss m s (j + 1)) (λ _. y) in
        subst (λ (z : Found A). Tells P z (next (map_on ss m (suc s) j) (λ _. y))) (map_split c (bits_in c s) n x)
        (subst (λ (r : Result B Fault). Tells P (map_from ss m c n (map_from ss m (bits_in c s) (n + c) x)) r) (next_need b MapWrong (1 + j) (map_on ss m s (j + 1)) (λ _. y))
        (sector_tells n j e (map_from ss m (bits_in c s) (n + c) x) rest
        (map_tells s (n + c) (j + 1) (omega arith) x y h)))
