-- No call changes the size, and only FORMAT and INITIALIZE initialise.
use Rattle.std.proofs.Common.{◌≡◌, ℕ, Bool, true, false, cond, eqb, List, [], ◌∷◌, length, is_some, refl, ◌∙◌, arith}
use Rattle.std.proofs.lemmas.Bool.Decides.{nat_tests}
use Rattle.rules.specs.Model.{Model, Reading, Supplied, faulty, sound, Request, Format, Initialize, Door, Tab, Status, Open, Close, Rewind, Read, Write, WriteCurrent, Delete, ReadCurrent, ReadPrevious, SkipForward, SkipBackward, Erase, Outcome, Check, holds, find, records_of, first_refusal_or, refusal, adding, done, with_unit, emptied, made, opened, response}
use Rattle.rules.proofs.Accepted.{open_checks}

pub record SameDrive (b b' : Model) : Type 0 where
  pub size : b'.size ≡ b.size
  pub initialized : b'.initialized ≡ b.initialized

-- what holds of the model before and of the outcome holds, refused or not
pub either_after : (P : Model → Type 0) (b : Model) (buf : List ℕ) (cs : List Check) (o : Outcome) → P b → P o.after → P (first_refusal_or b buf cs o).after
either_after P b buf [] o h k = k
either_after P b buf (c ∷ cs) o h k = step c.applies (either_after P b buf cs o h k)
  where
    step : (t : Bool) → P (first_refusal_or b buf cs o).after → P (cond t (refusal c.code c.layer b buf) (first_refusal_or b buf cs o)).after
    step true p = h
    step false p = p

module _ (b : Model) (buf : List ℕ) (given : Supplied) where
  opened_same : (u : ℕ) (n : List ℕ) (k : ℕ) (t s : Bool) → SameDrive b (cond t (cond s (emptied b u n k) (with_unit b u (holds n k (cond (eqb k 3) (length (records_of b n)) 0)))) (made b u n k))
  opened_same u n k true true = record { size = refl; initialized = refl }
  opened_same u n k true false = record { size = refl; initialized = refl }
  opened_same u n k false s = record { size = refl; initialized = refl }

  pub same_door : (x : Bool) → SameDrive b (response b given (Door x) buf).after
  same_door x = record { size = refl; initialized = refl }

  pub same_tab : (x : Bool) → SameDrive b (response b given (Tab x) buf).after
  same_tab x = record { size = refl; initialized = refl }

  pub same_status : SameDrive b (response b given Status buf).after
  same_status = record { size = grind (arith, nat_tests); initialized = grind (arith, nat_tests) }

  pub same_open : (u : ℕ) (n : List ℕ) (k : ℕ) → SameDrive b (response b given (Open u n k) buf).after
  same_open u n k = either_after (SameDrive b) b buf (open_checks b buf u n k) (adding (cond (is_some (find n b.files)) 0 1) (done (opened b u n k) buf 0)) (record { size = refl; initialized = refl }) (opened_same u n k (is_some (find n b.files)) (eqb k 2))

  pub same_close : (u : ℕ) → SameDrive b (response b given (Close u) buf).after
  same_close u = record { size = grind (arith, nat_tests); initialized = grind (arith, nat_tests) }

  pub same_rewind : (u : ℕ) → SameDrive b (response b given (Rewind u) buf).after
  same_rewind u = record { size = grind (arith, nat_tests); initialized = grind (arith, nat_tests) }

  pub same_read : (u n : ℕ) → SameDrive b (response b given (Read u n) buf).after
  same_read u n = record { size = grind (arith, nat_tests); initialized = grind (arith, nat_tests) }

  pub same_write : (u n : ℕ) → SameDrive b (response b given (Write u n) buf).after
  same_write u n = record { size = grind (arith, nat_tests); initialized = grind (arith, nat_tests) }

  pub same_write_current : (u : ℕ) → SameDrive b (response b given (WriteCurrent u) buf).after
  same_write_current u = record { size = grind (arith, nat_tests); initialized = grind (arith, nat_tests) }

  pub same_delete : (u n : ℕ) → SameDrive b (response b given (Delete u n) buf).after
  same_delete u n = record { size = grind (arith, nat_tests); initialized = grind (arith, nat_tests) }

  pub same_read_current : (u : ℕ) → SameDrive b (response b given (ReadCurrent u) buf).after
  same_read_current u = record { size = grind (arith, nat_tests); initialized = grind (arith, nat_tests) }

  pub same_read_previous : (u : ℕ) → SameDrive b (response b given (ReadPrevious u) buf).after
  same_read_previous u = record { size = grind (arith, nat_tests); initialized = grind (arith, nat_tests) }

  pub same_skip_forward : (u n : ℕ) → SameDrive b (response b given (SkipForward u n) buf).after
  same_skip_forward u n = record { size = grind (arith, nat_tests); initialized = grind (arith, nat_tests) }

  pub same_skip_backward : (u n : ℕ) → SameDrive b (response b given (SkipBackward u n) buf).after
  same_skip_backward u n = record { size = grind (arith, nat_tests); initialized = grind (arith, nat_tests) }

  pub same_erase : (n : List ℕ) → SameDrive b (response b given (Erase n) buf).after
  same_erase n = record { size = grind (arith, nat_tests); initialized = grind (arith, nat_tests) }

  size_format : (id : List ℕ) → (response b given (Format id) buf).after.size ≡ b.size
  size_format id = grind (arith, nat_tests)

size_initialize : (b : Model) (buf : List ℕ) (x : Reading) → (response b (record { reading = x }) Initialize buf).after.size ≡ b.size
size_initialize b buf (faulty c n) = grind (arith, nat_tests)
size_initialize b buf (sound fs) = grind (arith, nat_tests)

pub size_kept : (b : Model) (buf : List ℕ) (given : Supplied) (q : Request) → (response b given q buf).after.size ≡ b.size
size_kept b buf given (Format id) = size_format b buf given id
size_kept b buf given Initialize = size_initialize b buf given.reading
size_kept b buf given (Door x) = (same_door b buf given x).size
size_kept b buf given (Tab x) = (same_tab b buf given x).size
size_kept b buf given Status = (same_status b buf given).size
size_kept b buf given (Open u n k) = (same_open b buf given u n k).size
size_kept b buf given (Close u) = (same_close b buf given u).size
size_kept b buf given (Rewind u) = (same_rewind b buf given u).size
size_kept b buf given (Read u n) = (same_read b buf given u n).size
size_kept b buf given (Write u n) = (same_write b buf given u n).size
size_kept b buf given (WriteCurrent u) = (same_write_current b buf given u).size
size_kept b buf given (Delete u n) = (same_delete b buf given u n).size
size_kept b buf given (ReadCurrent u) = (same_read_current b buf given u).size
size_kept b buf given (ReadPrevious u) = (same_read_previous b buf given u).size
size_kept b buf given (SkipForward u n) = (same_skip_forward b buf given u n).size
size_kept b buf given (SkipBackward u n) = (same_skip_backward b buf given u n).size
size_kept b buf given (Erase n) = (same_erase b buf given n).size

-- ---- once initialised

going_format : (b : Model) (buf : List ℕ) (given : Supplied) (id : List ℕ) → b.initialized ≡ true → (response b given (Format id) buf).after.initialized ≡ true
going_format b buf given id i = grind (arith, nat_tests)

going_initialize : (b : Model) (buf : List ℕ) (x : Reading) → b.initialized ≡ true → (response b (record { reading = x }) Initialize buf).after.initialized ≡ true
going_initialize b buf (faulty c n) i = grind (arith, nat_tests)
going_initialize b buf (sound fs) i = grind (arith, nat_tests)

pub stays_initialized : (b : Model) (buf : List ℕ) (given : Supplied) (q : Request) → b.initialized ≡ true → (response b given q buf).after.initialized ≡ true
stays_initialized b buf given (Format id) i = going_format b buf given id i
stays_initialized b buf given Initialize i = going_initialize b buf given.reading i
stays_initialized b buf given (Door x) i = (same_door b buf given x).initialized ∙ i
stays_initialized b buf given (Tab x) i = (same_tab b buf given x).initialized ∙ i
stays_initialized b buf given Status i = (same_status b buf given).initialized ∙ i
stays_initialized b buf given (Open u n k) i = (same_open b buf given u n k).initialized ∙ i
stays_initialized b buf given (Close u) i = (same_close b buf given u).initialized ∙ i
stays_initialized b buf given (Rewind u) i = (same_rewind b buf given u).initialized ∙ i
stays_initialized b buf given (Read u n) i = (same_read b buf given u n).initialized ∙ i
stays_initialized b buf given (Write u n) i = (same_write b buf given u n).initialized ∙ i
stays_initialized b buf given (WriteCurrent u) i = (same_write_current b buf given u).initialized ∙ i
stays_initialized b buf given (Delete u n) i = (same_delete b buf given u n).initialized ∙ i
stays_initialized b buf given (ReadCurrent u) i = (same_read_current b buf given u).initialized ∙ i
stays_initialized b buf given (ReadPrevious u) i = (same_read_previous b buf given u).initialized ∙ i
stays_initialized b buf given (SkipForward u n) i = (same_skip_forward b buf given u n).initialized ∙ i
stays_initialized b buf given (SkipBackward u n) i = (same_skip_backward b buf given u n).initialized ∙ i
stays_initialized b buf given (Erase n) i = (same_erase b buf given n).initialized ∙ i
