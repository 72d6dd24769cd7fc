-- A call that is refused leaves the model as it was.
use Rattle.std.proofs.Common.{◌≡◌, ℕ, Bool, true, false, cond, List, [], ◌∷◌, is_some, refl, arith}
use Rattle.std.proofs.lemmas.Bool.Decides.{nat_tests}
use Rattle.std.proofs.lemmas.Bool.{both_ways}
use Rattle.rules.specs.Model.{Model, Reading, Supplied, faulty, sound, Request, Format, Initialize, Door, Tab, Status, Open, Close, Rewind, Read, Write, WriteCurrent, Delete, ReadCurrent, ReadPrevious, SkipForward, SkipBackward, Erase, Check, Outcome, first_refusal_or, refusal, adding, done, opened, find, response}
use Rattle.rules.proofs.Accepted.{open_checks}
use Rattle.rules.specs.Matching.{RefusalKeeps}

kept_refused : (b : Model) (buf : List ℕ) (cs : List Check) (o : Outcome) → o.refused ≡ false → (first_refusal_or b buf cs o).refused ≡ true → (first_refusal_or b buf cs o).after ≡ b
kept_refused b buf [] o e r = absurd (both_ways o.refused e r)
kept_refused b buf (c ∷ cs) o e r = step c.applies (kept_refused b buf cs o e) r
  where
    step : (t : Bool) → ((first_refusal_or b buf cs o).refused ≡ true → (first_refusal_or b buf cs o).after ≡ b) →
        (cond t (refusal c.code c.layer b buf) (first_refusal_or b buf cs o)).refused ≡ true → (cond t (refusal c.code c.layer b buf) (first_refusal_or b buf cs o)).after ≡ b
    step true k q = refl
    step false k q = k q

module _ (b : Model) (buf : List ℕ) where
  keeps_format : (given : Supplied) (id : List ℕ) → (response b given (Format id) buf).refused ≡ true → (response b given (Format id) buf).after ≡ b
  keeps_format given id r = grind (arith, nat_tests)

  keeps_initialize : (x : Reading) → (response b (record { reading = x }) Initialize buf).refused ≡ true → (response b (record { reading = x }) Initialize buf).after ≡ b
  keeps_initialize (faulty c n) r = grind (arith, nat_tests)
  keeps_initialize (sound fs) r = grind (arith, nat_tests)

  keeps_status : (given : Supplied) → (response b given Status buf).refused ≡ true → (response b given Status buf).after ≡ b
  keeps_status given r = grind (arith, nat_tests)

  keeps_open : (given : Supplied) (u : ℕ) (n : List ℕ) (k : ℕ) → (response b given (Open u n k) buf).refused ≡ true → (response b given (Open u n k) buf).after ≡ b
  keeps_open given u n k r = kept_refused b buf (open_checks b buf u n k) (adding (cond (is_some (find n b.files)) 0 1) (done (opened b u n k) buf 0)) refl r

  keeps_close : (given : Supplied) (u : ℕ) → (response b given (Close u) buf).refused ≡ true → (response b given (Close u) buf).after ≡ b
  keeps_close given u r = grind (arith, nat_tests)

  keeps_rewind : (given : Supplied) (u : ℕ) → (response b given (Rewind u) buf).refused ≡ true → (response b given (Rewind u) buf).after ≡ b
  keeps_rewind given u r = grind (arith, nat_tests)

  keeps_read : (given : Supplied) (u n : ℕ) → (response b given (Read u n) buf).refused ≡ true → (response b given (Read u n) buf).after ≡ b
  keeps_read given u n r = grind (arith, nat_tests)

  keeps_write : (given : Supplied) (u n : ℕ) → (response b given (Write u n) buf).refused ≡ true → (response b given (Write u n) buf).after ≡ b
  keeps_write given u n r = grind (arith, nat_tests)

  keeps_write_current : (given : Supplied) (u : ℕ) → (response b given (WriteCurrent u) buf).refused ≡ true → (response b given (WriteCurrent u) buf).after ≡ b
  keeps_write_current given u r = grind (arith, nat_tests)

  keeps_delete : (given : Supplied) (u n : ℕ) → (response b given (Delete u n) buf).refused ≡ true → (response b given (Delete u n) buf).after ≡ b
  keeps_delete given u n r = grind (arith, nat_tests)

  keeps_read_current : (given : Supplied) (u : ℕ) → (response b given (ReadCurrent u) buf).refused ≡ true → (response b given (ReadCurrent u) buf).after ≡ b
  keeps_read_current given u r = grind (arith, nat_tests)

  keeps_read_previous : (given : Supplied) (u : ℕ) → (response b given (ReadPrevious u) buf).refused ≡ true → (response b given (ReadPrevious u) buf).after ≡ b
  keeps_read_previous given u r = grind (arith, nat_tests)

  keeps_skip_forward : (given : Supplied) (u n : ℕ) → (response b given (SkipForward u n) buf).refused ≡ true → (response b given (SkipForward u n) buf).after ≡ b
  keeps_skip_forward given u n r = grind (arith, nat_tests)

  keeps_skip_backward : (given : Supplied) (u n : ℕ) → (response b given (SkipBackward u n) buf).refused ≡ true → (response b given (SkipBackward u n) buf).after ≡ b
  keeps_skip_backward given u n r = grind (arith, nat_tests)

  keeps_erase : (given : Supplied) (n : List ℕ) → (response b given (Erase n) buf).refused ≡ true → (response b given (Erase n) buf).after ≡ b
  keeps_erase given n r = grind (arith, nat_tests)

pub refusal_keeps : RefusalKeeps
refusal_keeps b given (Format id) buf r = keeps_format b buf given id r
refusal_keeps b given Initialize buf r = keeps_initialize b buf given.reading r
refusal_keeps b given Status buf r = keeps_status b buf given r
refusal_keeps b given (Open u n k) buf r = keeps_open b buf given u n k r
refusal_keeps b given (Close u) buf r = keeps_close b buf given u r
refusal_keeps b given (Rewind u) buf r = keeps_rewind b buf given u r
refusal_keeps b given (Read u n) buf r = keeps_read b buf given u n r
refusal_keeps b given (Write u n) buf r = keeps_write b buf given u n r
refusal_keeps b given (WriteCurrent u) buf r = keeps_write_current b buf given u r
refusal_keeps b given (Delete u n) buf r = keeps_delete b buf given u n r
refusal_keeps b given (ReadCurrent u) buf r = keeps_read_current b buf given u r
refusal_keeps b given (ReadPrevious u) buf r = keeps_read_previous b buf given u r
refusal_keeps b given (SkipForward u n) buf r = keeps_skip_forward b buf given u n r
refusal_keeps b given (SkipBackward u n) buf r = keeps_skip_backward b buf given u n r
refusal_keeps b given (Erase n) buf r = keeps_erase b buf given n r
refusal_keeps b given (Door x) buf r = absurd (both_ways false refl r)
refusal_keeps b given (Tab x) buf r = absurd (both_ways false refl r)

-- ---- and the buffer, with length 0

pub record Bare (o : Outcome) (buf : List ℕ) : Type 0 where
  pub buffer : o.buffer ≡ buf
  pub len : o.len ≡ 0

bare_refused : (b : Model) (buf : List ℕ) (cs : List Check) (o : Outcome) → o.refused ≡ false → (first_refusal_or b buf cs o).refused ≡ true → Bare (first_refusal_or b buf cs o) buf
bare_refused b buf [] o e r = absurd (both_ways o.refused e r)
bare_refused b buf (c ∷ cs) o e r = step c.applies (bare_refused b buf cs o e) r
  where
    step : (t : Bool) → ((first_refusal_or b buf cs o).refused ≡ true → Bare (first_refusal_or b buf cs o) buf) →
        (cond t (refusal c.code c.layer b buf) (first_refusal_or b buf cs o)).refused ≡ true → Bare (cond t (refusal c.code c.layer b buf) (first_refusal_or b buf cs o)) buf
    step true k q = record { buffer = refl; len = refl }
    step false k q = k q

module _ (b : Model) (buf : List ℕ) where
  bare_initialize : (x : Reading) → (response b (record { reading = x }) Initialize buf).refused ≡ true → Bare (response b (record { reading = x }) Initialize buf) buf
  bare_initialize (faulty c n) r = record { buffer = grind (arith, nat_tests); len = grind (arith, nat_tests) }
  bare_initialize (sound fs) r = record { buffer = grind (arith, nat_tests); len = grind (arith, nat_tests) }

  module _ (given : Supplied) where
    bare_open : (u : ℕ) (n : List ℕ) (k : ℕ) → (response b given (Open u n k) buf).refused ≡ true → Bare (response b given (Open u n k) buf) buf
    bare_open u n k r = bare_refused b buf (open_checks b buf u n k) (adding (cond (is_some (find n b.files)) 0 1) (done (opened b u n k) buf 0)) refl r

    bare_format : (id : List ℕ) → (response b given (Format id) buf).refused ≡ true → Bare (response b given (Format id) buf) buf
    bare_format id r = record { buffer = grind (arith, nat_tests); len = grind (arith, nat_tests) }

    bare_status : (response b given Status buf).refused ≡ true → Bare (response b given Status buf) buf
    bare_status r = record { buffer = grind (arith, nat_tests); len = grind (arith, nat_tests) }

    bare_close : (u : ℕ) → (response b given (Close u) buf).refused ≡ true → Bare (response b given (Close u) buf) buf
    bare_close u r = record { buffer = grind (arith, nat_tests); len = grind (arith, nat_tests) }

    bare_rewind : (u : ℕ) → (response b given (Rewind u) buf).refused ≡ true → Bare (response b given (Rewind u) buf) buf
    bare_rewind u r = record { buffer = grind (arith, nat_tests); len = grind (arith, nat_tests) }

    bare_read : (u n : ℕ) → (response b given (Read u n) buf).refused ≡ true → Bare (response b given (Read u n) buf) buf
    bare_read u n r = record { buffer = grind (arith, nat_tests); len = grind (arith, nat_tests) }

    bare_write : (u n : ℕ) → (response b given (Write u n) buf).refused ≡ true → Bare (response b given (Write u n) buf) buf
    bare_write u n r = record { buffer = grind (arith, nat_tests); len = grind (arith, nat_tests) }

    bare_write_current : (u : ℕ) → (response b given (WriteCurrent u) buf).refused ≡ true → Bare (response b given (WriteCurrent u) buf) buf
    bare_write_current u r = record { buffer = grind (arith, nat_tests); len = grind (arith, nat_tests) }

    bare_delete : (u n : ℕ) → (response b given (Delete u n) buf).refused ≡ true → Bare (response b given (Delete u n) buf) buf
    bare_delete u n r = record { buffer = grind (arith, nat_tests); len = grind (arith, nat_tests) }

    bare_read_current : (u : ℕ) → (response b given (ReadCurrent u) buf).refused ≡ true → Bare (response b given (ReadCurrent u) buf) buf
    bare_read_current u r = record { buffer = grind (arith, nat_tests); len = grind (arith, nat_tests) }

    bare_read_previous : (u : ℕ) → (response b given (ReadPrevious u) buf).refused ≡ true → Bare (response b given (ReadPrevious u) buf) buf
    bare_read_previous u r = record { buffer = grind (arith, nat_tests); len = grind (arith, nat_tests) }

    bare_skip_forward : (u n : ℕ) → (response b given (SkipForward u n) buf).refused ≡ true → Bare (response b given (SkipForward u n) buf) buf
    bare_skip_forward u n r = record { buffer = grind (arith, nat_tests); len = grind (arith, nat_tests) }

    bare_skip_backward : (u n : ℕ) → (response b given (SkipBackward u n) buf).refused ≡ true → Bare (response b given (SkipBackward u n) buf) buf
    bare_skip_backward u n r = record { buffer = grind (arith, nat_tests); len = grind (arith, nat_tests) }

    bare_erase : (n : List ℕ) → (response b given (Erase n) buf).refused ≡ true → Bare (response b given (Erase n) buf) buf
    bare_erase n r = record { buffer = grind (arith, nat_tests); len = grind (arith, nat_tests) }

pub refusal_bare : (b : Model) (given : Supplied) (q : Request) (buf : List ℕ) → (response b given q buf).refused ≡ true → Bare (response b given q buf) buf
refusal_bare b given Initialize buf r = bare_initialize b buf given.reading r
refusal_bare b given (Open u n k) buf r = bare_open b buf given u n k r
refusal_bare b given (Door x) buf r = absurd (both_ways false refl r)
refusal_bare b given (Tab x) buf r = absurd (both_ways false refl r)
refusal_bare b given (Format id) buf r = bare_format b buf given id r
refusal_bare b given Status buf r = bare_status b buf given r
refusal_bare b given (Close u) buf r = bare_close b buf given u r
refusal_bare b given (Rewind u) buf r = bare_rewind b buf given u r
refusal_bare b given (Read u n) buf r = bare_read b buf given u n r
refusal_bare b given (Write u n) buf r = bare_write b buf given u n r
refusal_bare b given (WriteCurrent u) buf r = bare_write_current b buf given u r
refusal_bare b given (Delete u n) buf r = bare_delete b buf given u n r
refusal_bare b given (ReadCurrent u) buf r = bare_read_current b buf given u r
refusal_bare b given (ReadPrevious u) buf r = bare_read_previous b buf given u r
refusal_bare b given (SkipForward u n) buf r = bare_skip_forward b buf given u n r
refusal_bare b given (SkipBackward u n) buf r = bare_skip_backward b buf given u n r
refusal_bare b given (Erase n) buf r = bare_erase b buf given n r
