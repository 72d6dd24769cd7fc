-- A call that is not refused adds no more than there are free sectors.
use Rattle.std.proofs.Common.{◌≡◌, ℕ, ◌≤◌, Bool, true, false, cond, not, ◌&&◌, eqb, List, is_some, sym, refl, subst, arith}
use Rattle.std.proofs.lemmas.Bool.{eqb-false}
use Rattle.std.proofs.lemmas.Bool.Decides.{nat_tests}
use Rattle.rules.specs.Model.{Model, Reading, Supplied, faulty, sound, Format, Initialize, Door, Tab, Status, Open, Close, Rewind, Read, Write, WriteCurrent, Delete, ReadCurrent, ReadPrevious, SkipForward, SkipBackward, Erase, find, free_count, response}
use Rattle.rules.specs.Matching.{AddsFew}
use Rattle.rules.proofs.Accepted.{added_write, leaves_open, added_open}

module _ (b : Model) (buf : List ℕ) (given : Supplied) where
  none_format : (id : List ℕ) → (response b given (Format id) buf).added ≡ 0
  none_format id = grind (arith, nat_tests)

  none_status : (response b given Status buf).added ≡ 0
  none_status = grind (arith, nat_tests)

  none_close : (u : ℕ) → (response b given (Close u) buf).added ≡ 0
  none_close u = grind (arith, nat_tests)

  none_rewind : (u : ℕ) → (response b given (Rewind u) buf).added ≡ 0
  none_rewind u = grind (arith, nat_tests)

  none_read : (u n : ℕ) → (response b given (Read u n) buf).added ≡ 0
  none_read u n = grind (arith, nat_tests)

  none_write_current : (u : ℕ) → (response b given (WriteCurrent u) buf).added ≡ 0
  none_write_current u = grind (arith, nat_tests)

  none_delete : (u n : ℕ) → (response b given (Delete u n) buf).added ≡ 0
  none_delete u n = grind (arith, nat_tests)

  none_read_current : (u : ℕ) → (response b given (ReadCurrent u) buf).added ≡ 0
  none_read_current u = grind (arith, nat_tests)

  none_read_previous : (u : ℕ) → (response b given (ReadPrevious u) buf).added ≡ 0
  none_read_previous u = grind (arith, nat_tests)

  none_skip_forward : (u n : ℕ) → (response b given (SkipForward u n) buf).added ≡ 0
  none_skip_forward u n = grind (arith, nat_tests)

  none_skip_backward : (u n : ℕ) → (response b given (SkipBackward u n) buf).added ≡ 0
  none_skip_backward u n = grind (arith, nat_tests)

  none_erase : (n : List ℕ) → (response b given (Erase n) buf).added ≡ 0
  none_erase n = grind (arith, nat_tests)

  one_free : (t : Bool) → (not t && eqb (free_count b) 0) ≡ false → cond t 0 1 ≤ free_count b
  one_free true h = omega arith
  one_free false h = let ne : free_count b ≡ 0 → ⊥ = eqb-false (free_count b) 0 h in grind arith

  few_open : (u : ℕ) (n : List ℕ) (k : ℕ) → (response b given (Open u n k) buf).refused ≡ false → (response b given (Open u n k) buf).added ≤ free_count b
  few_open u n k r =
      subst (λ x. x ≤ free_count b) (sym (added_open b buf u n k given r))
      (one_free (is_some (find n b.files)) (leaves_open b buf u n k given r).checked.1.1.1.1.1.1.1.1.1.1.0)

  few_write : (u n : ℕ) → (response b given (Write u n) buf).refused ≡ false → (response b given (Write u n) buf).added ≤ free_count b
  few_write u n r = omega (arith, added_write b buf u n given r)

few_none : (x k : ℕ) → x ≡ 0 → x ≤ k
few_none x k e = omega arith

none_initialize : (b : Model) (buf : List ℕ) (x : Reading) → (response b (record { reading = x }) Initialize buf).added ≡ 0
none_initialize b buf (faulty c n) = grind (arith, nat_tests)
none_initialize b buf (sound fs) = grind (arith, nat_tests)

pub adds_few : AddsFew
adds_few b given Initialize buf r = few_none _ (free_count b) (none_initialize b buf given.reading)
adds_few b given (Door x) buf r = few_none _ (free_count b) refl
adds_few b given (Tab x) buf r = few_none _ (free_count b) refl
adds_few b given (Open u n k) buf r = few_open b buf given u n k r
adds_few b given (Write u n) buf r = few_write b buf given u n r
adds_few b given (Format id) buf r = few_none _ (free_count b) (none_format b buf given id)
adds_few b given Status buf r = few_none _ (free_count b) (none_status b buf given)
adds_few b given (Close u) buf r = few_none _ (free_count b) (none_close b buf given u)
adds_few b given (Rewind u) buf r = few_none _ (free_count b) (none_rewind b buf given u)
adds_few b given (Read u n) buf r = few_none _ (free_count b) (none_read b buf given u n)
adds_few b given (WriteCurrent u) buf r = few_none _ (free_count b) (none_write_current b buf given u)
adds_few b given (Delete u n) buf r = few_none _ (free_count b) (none_delete b buf given u n)
adds_few b given (ReadCurrent u) buf r = few_none _ (free_count b) (none_read_current b buf given u)
adds_few b given (ReadPrevious u) buf r = few_none _ (free_count b) (none_read_previous b buf given u)
adds_few b given (SkipForward u n) buf r = few_none _ (free_count b) (none_skip_forward b buf given u n)
adds_few b given (SkipBackward u n) buf r = few_none _ (free_count b) (none_skip_backward b buf given u n)
adds_few b given (Erase n) buf r = few_none _ (free_count b) (none_erase b buf given n)
