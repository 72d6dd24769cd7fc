-- The byte of eight marks, bit by bit.
use Rattle.std.proofs.Common.{◌≡◌, ℕ, zero, suc, ◌+◌, ◌*◌, ◌%◌, ◌^◌, ◌<◌, ◌≤◌, ◌≢◌, Bool, true, false, List, eqb, get_or, bit_or, ap, ◌∙◌, subst, ⊎_elim, arith}
use Rattle.std.specs.Array.{IsFromFnResultFrom}
use Rattle.std.specs.Fn.{Called}
use denote.Param.Members.{Mut}
use Rattle.std.proofs.lemmas.Bool.{cases_Bool, eqb-true, eqb-false}
use Rattle.std.proofs.lemmas.Nat.{or_comm, or_shifted}
use Rattle.std.proofs.Math.Nat.{pow-suc}
use Rattle.std.proofs.Math.Pow.{pow-lt}
use Rattle.chains.specs.Layout.{bit}

-- the bits for k sectors from n on
abbrev pub low_bits : (ℕ → Bool) → ℕ → ℕ → ℕ
low_bits m n zero = 0
low_bits m n (suc k) = low_bits m n k + bit (m (n + k)) (2 ^ k)

bit_most : (b : Bool) (v : ℕ) → bit b v ≤ v
bit_most true v = omega arith
bit_most false v = omega arith

low_bits_below : (m : ℕ → Bool) (n k : ℕ) → low_bits m n k < 2 ^ k
low_bits_below m n zero = omega arith
low_bits_below m n (suc k) = let before = low_bits_below m n k in let here = bit_most (m (n + k)) (2 ^ k) in omega (arith, pow-suc 2 k)

-- a higher bit is added to a byte
higher : (byte k : ℕ) → k < 8 → byte < 2 ^ k → bit_or byte (1 * 2 ^ k % 256) ≡ byte + 2 ^ k
higher byte k small h =
    let within : 2 ^ k < 2 ^ 8 = pow-lt small in
    let whole : 1 * 2 ^ k % 256 ≡ 1 * 2 ^ k = omega arith in
    ap (bit_or byte) whole ∙ or_comm byte (1 * 2 ^ k) ∙ or_shifted 1 k byte h ∙ omega arith

module _ (m : ℕ → Bool) (n k byte : ℕ) (so_far : byte ≡ low_bits m n k) where
  one_more : (b : Bool) → b ≡ m (n + k) → byte + bit b (2 ^ k) ≡ low_bits m n (k + 1)
  one_more b e = let next : suc k ≡ k + 1 = omega arith in (λ i. so_far i + bit (e i) (2 ^ k)) ∙ ap (low_bits m n) next

  pub marked_more : (after : ℕ) → k < 8 → true ≡ m (n + k) → after ≡ bit_or byte (1 * 2 ^ k % 256) → after ≡ low_bits m n (k + 1)
  marked_more after small mark made = made ∙ higher byte k small (let b = low_bits_below m n k in omega arith) ∙ one_more true mark

  pub unmarked_more : (after : ℕ) → false ≡ m (n + k) → after ≡ byte → after ≡ low_bits m n (k + 1)
  unmarked_more after mark made = let none : byte ≡ byte + 0 = omega arith in made ∙ none ∙ one_more false mark

-- ---- an array made by a function of the index that changes nothing

module _ {F : Type 0} (g : Mut F (ℕ × Unit {0}) ℕ) (h : ℕ → ℕ) (f : F) (each : (i y : ℕ) (q : F) → Called g f (i, tt) y q → (q ≡ f) × (y ≡ h i)) (ys : List ℕ) where
  pub made_each : (i n : ℕ) → IsFromFnResultFrom g f ys i n → (k : ℕ) → i ≤ k → k < i + n → get_or ys k 0 ≡ h k
  made_each i zero made k low high = absurd (omega arith)
  made_each i (suc n) made k low high =
      let now = each i made.1 made.0 made.3 in
      let rest : IsFromFnResultFrom g f ys (i + 1) n = subst (λ q. IsFromFnResultFrom g q ys (i + 1) n) now.0 made.4 in
      ⊎_elim (λ (e : eqb i k ≡ true). subst (λ j. get_or ys j 0 ≡ h j) (eqb-true i k e) (made.2.1 0 ∙ now.1))
      (λ (e : eqb i k ≡ false). let ne : i ≢ k = eqb-false i k e in made_each (i + 1) n rest k (omega arith) (omega arith)) (cases_Bool (eqb i k))
