-- Before the first FORMAT or INITIALIZE that is accepted, every call leaves a model without files and without unsaved changes.
use Rattle.std.proofs.Common.{◌≡◌, ℕ, Bool, true, false, cond, not, List, [], sym, refl, ap, subst}
use Rattle.std.proofs.lemmas.Bool.{both_ways}
use Rattle.rules.specs.Model.{Model, Reading, faulty, sound, Supplied, Request, Format, Initialize, Door, Tab, Status, Open, Close, Rewind, Read, Write, WriteCurrent, Delete, ReadCurrent, ReadPrevious, SkipForward, SkipBackward, Erase, Outcome, done, started, read_in, response}
use Rattle.rules.specs.Matching.{UnreadIsEmpty, StartsUnread, StaysUnread}
use Rattle.rules.proofs.Accepted.{format_checks, initialize_checks}
use Rattle.rules.proofs.Same.{either_after, stays_initialized}

pub starts_unread : StartsUnread
starts_unread s door tab = record { files = λ f. refl; changed = λ f. refl }

-- of a model that is initialised nothing is asked
initialized_is_read : (b : Model) → b.initialized ≡ true → UnreadIsEmpty b
initialized_is_read b i = record { files = λ f. absurd (both_ways b.initialized f i); changed = λ f. absurd (both_ways b.initialized f i) }

-- INITIALIZE, by whether it was initialised and what it reads
read_in_keeps : (b : Model) (buf : List ℕ) (t : Bool) (x : Reading) → UnreadIsEmpty b → UnreadIsEmpty (cond t (done (started b b.files) buf 0) (read_in b x buf)).after
read_in_keeps b buf true x h = initialized_is_read (started b b.files) refl
read_in_keeps b buf false (faulty c n) h = h
read_in_keeps b buf false (sound fs) h = initialized_is_read (started b fs) refl

either_keeps : (b : Model) (t : Bool) (x y : Outcome) → x.after ≡ b → y.after ≡ b → (cond t x y).after ≡ b
either_keeps b true x y p q = p
either_keeps b false x y p q = q

-- a check that applies
refusing : (b : Model) (t : Bool) (x o : Outcome) → x.after ≡ b → t ≡ true → (cond t x o).after ≡ b
refusing b true x o p e = p
refusing b false x o p e = absurd (both_ways false refl e)

module _ (b : Model) (given : Supplied) (buf : List ℕ) (h : UnreadIsEmpty b) where
  -- the calls that leave a model as it was unless it is initialised
  unless_read : (q : Request) → (b.initialized ≡ false → (response b given q buf).after ≡ b) → UnreadIsEmpty (response b given q buf).after
  unless_read q kept = by b.initialized refl
    where
      by : (i : Bool) → b.initialized ≡ i → UnreadIsEmpty (response b given q buf).after
      by true i = initialized_is_read (response b given q buf).after (stays_initialized b buf given q i)
      by false f = subst UnreadIsEmpty (sym (kept f)) h

  -- OPEN and the calls on a unit, which ask for that in their second check
  second : (t : Bool) (x y o : Outcome) → x.after ≡ b → y.after ≡ b → b.initialized ≡ false → (cond t x (cond (not b.initialized) y o)).after ≡ b
  second t x y o p q f = either_keeps b t x (cond (not b.initialized) y o) p (refusing b (not b.initialized) y o q (ap not f))

pub stays_unread : StaysUnread
stays_unread b given (Format id) buf h = either_after UnreadIsEmpty b buf (format_checks b buf id) (done (started b []) buf 0) h (initialized_is_read (started b []) refl)
stays_unread b given Initialize buf h = either_after UnreadIsEmpty b buf (initialize_checks b buf) (cond b.initialized (done (started b b.files) buf 0) (read_in b given.reading buf)) h (read_in_keeps b buf b.initialized given.reading h)
stays_unread b given (Door x) buf h = record { files = h.files; changed = h.changed }
stays_unread b given (Tab x) buf h = record { files = h.files; changed = h.changed }
stays_unread b given Status buf h = unless_read b given buf h Status (λ _. either_keeps b b.initialized _ _ refl refl)
stays_unread b given (Open u n k) buf h = unless_read b given buf h (Open u n k) (second b given buf h _ _ _ _ refl refl)
stays_unread b given (Close u) buf h = unless_read b given buf h (Close u) (second b given buf h _ _ _ _ refl refl)
stays_unread b given (Rewind u) buf h = unless_read b given buf h (Rewind u) (second b given buf h _ _ _ _ refl refl)
stays_unread b given (Read u n) buf h = unless_read b given buf h (Read u n) (second b given buf h _ _ _ _ refl refl)
stays_unread b given (Write u n) buf h = unless_read b given buf h (Write u n) (second b given buf h _ _ _ _ refl refl)
stays_unread b given (WriteCurrent u) buf h = unless_read b given buf h (WriteCurrent u) (second b given buf h _ _ _ _ refl refl)
stays_unread b given (Delete u n) buf h = unless_read b given buf h (Delete u n) (second b given buf h _ _ _ _ refl refl)
stays_unread b given (ReadCurrent u) buf h = unless_read b given buf h (ReadCurrent u) (second b given buf h _ _ _ _ refl refl)
stays_unread b given (ReadPrevious u) buf h = unless_read b given buf h (ReadPrevious u) (second b given buf h _ _ _ _ refl refl)
stays_unread b given (SkipForward u n) buf h = unless_read b given buf h (SkipForward u n) (second b given buf h _ _ _ _ refl refl)
stays_unread b given (SkipBackward u n) buf h = unless_read b given buf h (SkipBackward u n) (second b given buf h _ _ _ _ refl refl)
stays_unread b given (Erase n) buf h = unless_read b given buf h (Erase n) (λ f. refusing b _ _ _ refl (ap not f))
