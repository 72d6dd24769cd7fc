-- Bits of bytes.
use Rattle.std.proofs.Common.{◌≡◌, ℕ, zero, suc, ◌+◌, ◌-◌, ◌*◌, ◌/◌, ◌%◌, ◌^◌, ◌<◌, ◌≤◌, Bool, true, false, cond, eqb, List, length, get_or, set, sym, refl, ap, ◌∙◌, ⊎_elim, arith, get_or-set_other, get_or-set_same}
use native.Mathlib.Nat.{div-eq_of_lt, pow-succ'}
use lib.Bits.{bit_or, bit_xor, or_zero_r, xor_zero_r}
use Rattle.std.proofs.lemmas.Nat.{or_shr, or_mod, xor_shr, xor_mod, pow-add, pow_below, shl-shr}
use Rattle.std.proofs.lemmas.Bool.{cases_eq, cases_lt, eq-eqb, ne_eqb, cond-true, cond-false}
use Rattle.freespace.specs.Bits.{bit_at, bit_of}

one_bit_same : (k : ℕ) → 2 ^ k / 2 ^ k % 2 ≡ 1
one_bit_same k = ap (λ x. x / 2 ^ k % 2) (omega (arith)) ∙ ap (λ x. x % 2) (shl-shr 1 k)

one_bit_below : (k j : ℕ) → k < j → 2 ^ k / 2 ^ j % 2 ≡ 0
one_bit_below k j l = ap (λ x. x % 2) (div-eq_of_lt (pow_below k j l))

one_bit_above : (k j : ℕ) → j < k → 2 ^ k / 2 ^ j % 2 ≡ 0
one_bit_above k j l =
    let e = k - j - 1 in
    let is : k ≡ suc e + j = omega arith in
    let ev : 2 * 2 ^ e % 2 ≡ 0 = omega arith in
    ap (λ x. 2 ^ x / 2 ^ j % 2) is ∙ ap (λ x. x / 2 ^ j % 2) (pow-add 2 (suc e) j) ∙ ap (λ x. x % 2) (shl-shr (2 ^ suc e) j)
    ∙ ap (λ x. x % 2) (pow-succ' 2 e) ∙ ev

one_bit_other : (k j : ℕ) → (j ≡ k → ⊥) → 2 ^ k / 2 ^ j % 2 ≡ 0
one_bit_other k j ne = ⊎_elim (λ (l : k < j). one_bit_below k j l) (λ (l : j ≤ k). one_bit_above k j (omega arith)) (cases_lt k j)

low_two : (P : ℕ → Type 0) → P 0 → P 1 → (x : ℕ) → x < 2 → P x
low_two P a b zero l = a
low_two P a b (suc zero) l = b
low_two P a b (suc (suc x)) l = absurd (omega arith)

-- an operation that goes bit by bit, and keeps a bit beside a 0, changes bit k only
changed_bit : (op : ℕ → ℕ → ℕ) (b k : ℕ) (v : Bool)
    → ((j : ℕ) → op b (2 ^ k) / 2 ^ j % 2 ≡ op (b / 2 ^ j % 2) (2 ^ k / 2 ^ j % 2))
    → ((x : ℕ) → op x 0 ≡ x)
    → eqb (op (b / 2 ^ k % 2) 1) 1 ≡ v
    → (j : ℕ) → bit_at (op b (2 ^ k)) j ≡ cond (eqb j k) v (bit_at b j)
changed_bit op b k v split zero_r one j =
    ap (λ x. eqb x 1) (split j)
    ∙ ⊎_elim
    (λ (e : j ≡ k).
    ap (λ i. eqb (op (b / 2 ^ i % 2) (2 ^ k / 2 ^ i % 2)) 1) e ∙ ap (λ x. eqb (op (b / 2 ^ k % 2) x) 1) (one_bit_same k) ∙ one
    ∙ sym (cond-true (eqb j k) v (bit_at b j) (eq-eqb j k e)))
    (λ (ne : j ≡ k → ⊥).
    ap (λ x. eqb (op (b / 2 ^ j % 2) x) 1) (one_bit_other k j ne) ∙ ap (λ x. eqb x 1) (zero_r (b / 2 ^ j % 2))
    ∙ sym (cond-false (eqb j k) v (bit_at b j) (ne_eqb j k ne)))
    (cases_eq j k)

pub or_bit : (b k j : ℕ) → bit_at (bit_or b (2 ^ k)) j ≡ cond (eqb j k) true (bit_at b j)
or_bit b k =
    changed_bit bit_or b k true (λ j. ap (λ x. x % 2) (or_shr b (2 ^ k) j) ∙ or_mod (b / 2 ^ j) (2 ^ k / 2 ^ j) 1) or_zero_r
    (low_two (λ x. eqb (bit_or x 1) 1 ≡ true) refl refl (b / 2 ^ k % 2) (omega arith))

pub xor_bit : (b k : ℕ) → bit_at b k ≡ true → (j : ℕ) → bit_at (bit_xor b (2 ^ k)) j ≡ cond (eqb j k) false (bit_at b j)
xor_bit b k on =
    changed_bit bit_xor b k false (λ j. ap (λ x. x % 2) (xor_shr b (2 ^ k) j) ∙ xor_mod (b / 2 ^ j) (2 ^ k / 2 ^ j) 1) xor_zero_r
    (low_two (λ x. eqb x 1 ≡ true → eqb (bit_xor x 1) 1 ≡ false) (λ h. sym h) (λ h. refl) (b / 2 ^ k % 2) (omega arith) on)

-- a byte of which bit n mod 8 becomes v is written over byte n div 8
pub bits_set : (bs : List ℕ) (n b : ℕ) (v : Bool)
    → n / 8 < length bs
    → ((j : ℕ) → bit_at b j ≡ cond (eqb j (n % 8)) v (bit_at (get_or bs (n / 8) 0) j))
    → (m : ℕ) → bit_of (set bs (n / 8) b) m ≡ cond (eqb m n) v (bit_of bs m)
bits_set bs n b v l h m =
    ⊎_elim
    (λ (q : m / 8 ≡ n / 8).
    ap (λ i. bit_at (get_or (set bs (n / 8) b) i 0) (m % 8)) q ∙ ap (λ x. bit_at x (m % 8)) (get_or-set_same bs (n / 8) b 0 l) ∙ h (m % 8)
    ∙ ap (λ i. cond (eqb (m % 8) (n % 8)) v (bit_at (get_or bs i 0) (m % 8))) (sym q)
    ∙ ap (λ t. cond t v (bit_of bs m))
    (⊎_elim
    (λ (e : m ≡ n). eq-eqb (m % 8) (n % 8) (omega arith) ∙ sym (eq-eqb m n e))
    (λ (ne : m ≡ n → ⊥). ne_eqb (m % 8) (n % 8) (λ r. ne (omega arith)) ∙ sym (ne_eqb m n ne))
    (cases_eq m n)))
    (λ (nq : m / 8 ≡ n / 8 → ⊥).
    ap (λ x. bit_at x (m % 8)) (get_or-set_other bs (n / 8) (m / 8) b 0 nq)
    ∙ sym (cond-false (eqb m n) v (bit_of bs m) (ne_eqb m n (λ e. nq (ap (λ x. x / 8) e)))))
    (cases_eq (m / 8) (n / 8))
