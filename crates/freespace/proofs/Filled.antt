-- What a set is that was filled where a test says yes.
use Rattle.std.proofs.Common.{◌≡◌, ℕ, ◌<◌, ◌≤◌, Bool, true, false, cond, ◌&&◌, ltb, leb, arith}
use Rattle.std.proofs.lemmas.Bool.Decides.{nat_tests}

pub filled : (done : Bool) (new old test : ℕ → Bool) (first s : ℕ)
    → (done ≡ true → (m : ℕ) → first ≤ m → m < s → new m ≡ test m)
    → (done ≡ true → (m : ℕ) → (leb first m && ltb m s) ≡ false → new m ≡ false)
    → (done ≡ false → (m : ℕ) → new m ≡ old m)
    → (m : ℕ) → new m ≡ cond done (leb first m && (ltb m s && test m)) (old m)
filled done new old test first s within outside refused m = grind (arith, nat_tests, within, outside, refused)
