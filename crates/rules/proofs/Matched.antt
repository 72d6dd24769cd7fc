-- Every call that is not refused keeps the model and the layout matched.
use Rattle.std.proofs.Common.{◌≡◌, ℕ, true, List, refl, arith}
use Rattle.std.proofs.lemmas.Bool.Decides.{nat_tests}
use Rattle.chains.specs.Layout.{Layout}
use Rattle.rules.specs.Model.{Model, Supplied, Format, Initialize, Door, Tab, Status, Open, Close, Rewind, Read, Write, WriteCurrent, Delete, ReadCurrent, ReadPrevious, SkipForward, SkipBackward, Erase, response}
use Rattle.rules.specs.Matching.{Matches, StaysMatched}
use Rattle.rules.proofs.Calls.{on_write, on_delete, on_write_current, on_open, on_erase, on_close, on_format, same_files}

-- the calls that change neither the size nor the files
pub record Quiet (b b' : Model) : Type 0 where
  pub size : b'.size ≡ b.size
  pub files : b'.files ≡ b.files

module _ (b : Model) (given : Supplied) (buf : List ℕ) where
  pub quiet_initialize : b.initialized ≡ true → Quiet b (response b given Initialize buf).after
  quiet_initialize i = record { size = grind (arith, nat_tests); files = grind (arith, nat_tests) }

  pub quiet_status : Quiet b (response b given Status buf).after
  quiet_status = record { size = grind (arith, nat_tests); files = grind (arith, nat_tests) }

  pub quiet_rewind : (u : ℕ) → Quiet b (response b given (Rewind u) buf).after
  quiet_rewind u = record { size = grind (arith, nat_tests); files = grind (arith, nat_tests) }

  pub quiet_read : (u n : ℕ) → Quiet b (response b given (Read u n) buf).after
  quiet_read u n = record { size = grind (arith, nat_tests); files = grind (arith, nat_tests) }

  pub quiet_read_current : (u : ℕ) → Quiet b (response b given (ReadCurrent u) buf).after
  quiet_read_current u = record { size = grind (arith, nat_tests); files = grind (arith, nat_tests) }

  pub quiet_read_previous : (u : ℕ) → Quiet b (response b given (ReadPrevious u) buf).after
  quiet_read_previous u = record { size = grind (arith, nat_tests); files = grind (arith, nat_tests) }

  pub quiet_skip_forward : (u n : ℕ) → Quiet b (response b given (SkipForward u n) buf).after
  quiet_skip_forward u n = record { size = grind (arith, nat_tests); files = grind (arith, nat_tests) }

  pub quiet_skip_backward : (u n : ℕ) → Quiet b (response b given (SkipBackward u n) buf).after
  quiet_skip_backward u n = record { size = grind (arith, nat_tests); files = grind (arith, nat_tests) }

quietly : (b b' : Model) (d : Layout) → Matches b d → Quiet b b' → Matches b' d
quietly b b' d m q = same_files b b' d m q.size q.files

pub stays_matched : StaysMatched
stays_matched b d given (Format id) buf taken i m a l t = on_format b d buf taken given id a
stays_matched b d given Initialize buf taken i m a l t = quietly b (response b given Initialize buf).after d m (quiet_initialize b given buf i)
stays_matched b d given (Door x) buf taken i m a l t = same_files b (response b given (Door x) buf).after d m refl refl
stays_matched b d given (Tab x) buf taken i m a l t = same_files b (response b given (Tab x) buf).after d m refl refl
stays_matched b d given Status buf taken i m a l t = quietly b (response b given Status buf).after d m (quiet_status b given buf)
stays_matched b d given (Open u n k) buf taken i m a l t = on_open b d buf taken m given u n k a l t
stays_matched b d given (Close u) buf taken i m a l t = on_close b d buf taken m given u a
stays_matched b d given (Rewind u) buf taken i m a l t = quietly b (response b given (Rewind u) buf).after d m (quiet_rewind b given buf u)
stays_matched b d given (Read u n) buf taken i m a l t = quietly b (response b given (Read u n) buf).after d m (quiet_read b given buf u n)
stays_matched b d given (Write u n) buf taken i m a l t = on_write b d buf taken m given u n a l t
stays_matched b d given (WriteCurrent u) buf taken i m a l t = on_write_current b d buf taken m given u a
stays_matched b d given (Delete u n) buf taken i m a l t = on_delete b d buf taken m given u n a
stays_matched b d given (ReadCurrent u) buf taken i m a l t = quietly b (response b given (ReadCurrent u) buf).after d m (quiet_read_current b given buf u)
stays_matched b d given (ReadPrevious u) buf taken i m a l t = quietly b (response b given (ReadPrevious u) buf).after d m (quiet_read_previous b given buf u)
stays_matched b d given (SkipForward u n) buf taken i m a l t = quietly b (response b given (SkipForward u n) buf).after d m (quiet_skip_forward b given buf u n)
stays_matched b d given (SkipBackward u n) buf taken i m a l t = quietly b (response b given (SkipBackward u n) buf).after d m (quiet_skip_backward b given buf u n)
stays_matched b d given (Erase n) buf taken i m a l t = on_erase b d buf taken m given n a
