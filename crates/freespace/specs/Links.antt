-- A set of numbers kept as an ascending chain through a table. Place 0 is the head and place n + 1 stands for number n; each place of the chain names the next, the last one the place past the span, and every place that is not in the chain has a 0.
use Rattle.std.specs.Prelude.{◌≡◌, ℕ, ◌+◌, ◌<◌, ◌≤◌, Bool, List, nat_lt, slice_index}

abbrev pub link : List ℕ → ℕ → ℕ
link next p = slice_index next p

abbrev pub linked : List ℕ → ℕ → Bool
linked next n = nat_lt 0 (link next (n + 1))

abbrev pub Ascends : (ℕ → ℕ) → Type 0
Ascends f = (p : ℕ) → 0 < f p → p < f p

abbrev pub Within : (ℕ → ℕ) → ℕ → Type 0
Within f span = (p : ℕ) → f p ≤ span + 1

-- each place of the chain names another, or the place past the span
abbrev pub LeadsOn : (ℕ → ℕ) → ℕ → Type 0
LeadsOn f span = (p : ℕ) → 0 < f p → f p ≤ span → 0 < f (f p)

-- no place of the chain lies between one and the next
abbrev pub PassesNone : (ℕ → ℕ) → Type 0
PassesNone f = (p q : ℕ) → (p < q) × (q < f p) → f q ≡ 0

-- a chain from place 0 to the place past the span
pub record Chained (f : ℕ → ℕ) (span : ℕ) : Type 0 where
  pub head : 0 < f 0
  pub ascends : Ascends f
  pub within : Within f span
  pub leads : LeadsOn f span
  pub passes : PassesNone f
