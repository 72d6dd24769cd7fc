-- What a call that is not refused passed, and the model that it leaves.
use Rattle.std.proofs.Common.{◌≡◌, ℕ, ◌+◌, ◌-◌, ◌*◌, min, max, Bool, true, false, cond, not, ◌&&◌, ◌||◌, eqb, ltb, leb, List, [], ◌∷◌, ◌++◌, length, get_or, take, drop, set, is_some, refl, ap, ◌∙◌}
use Rattle.std.specs.List.{AllByRecursion}
use Rattle.std.proofs.lemmas.Bool.{both_ways}
use Rattle.device.specs.declared.fault.Code.{Code}
use Rattle.device.specs.declared.fault.Code.TheVariants as code
use Rattle.device.specs.declared.fault.Layer.{Layer}
use Rattle.device.specs.declared.fault.Layer.TheVariants as layer
use Rattle.chains.specs.Names.{legal, legal_id}
use Rattle.chains.specs.Layout.{sized}
use Rattle.rules.specs.Model.{Model, Supplied, Format, Initialize, Open, Close, Rewind, Read, Write, WriteCurrent, Delete, ReadPrevious, SkipForward, SkipBackward, Erase, Outcome, Check, closed, find, records_of, without, is_closed, has_name, any, state, name_of, kind_of, cursor_of, free_count, done, answered, refusal, adding, request_check, door_check, tab_check, space_check, first_refusal_or, unit_checks, revised, rounded, joined, cut, started, read_in, opened, updated, moved_to, response}

-- what is not refused passed every check
pub passed : (b : Model) (buf : List ℕ) (cs : List Check) (o : Outcome) → (first_refusal_or b buf cs o).refused ≡ false →
    AllByRecursion (λ c. c.applies ≡ false) cs × (first_refusal_or b buf cs o ≡ o)
passed b buf [] o r = (tt, refl)
passed b buf (c ∷ cs) o r = step c.applies refl (passed b buf cs o) r
  where
    step : (t : Bool) → c.applies ≡ t → ((first_refusal_or b buf cs o).refused ≡ false → AllByRecursion (λ c. c.applies ≡ false) cs × (first_refusal_or b buf cs o ≡ o)) →
        (cond t (refusal c.code c.layer b buf) (first_refusal_or b buf cs o)).refused ≡ false →
        ((c.applies ≡ false) × AllByRecursion (λ c. c.applies ≡ false) cs) × (cond t (refusal c.code c.layer b buf) (first_refusal_or b buf cs o) ≡ o)
    step true e ih q = absurd (both_ways true q refl)
    step false e ih q = let both = ih q in ((e, both.0), both.1)

after_either : (t : Bool) (c : Code) (l : Layer) (x : Model) (buf : List ℕ) (n : ℕ) → (cond t (answered c l) done x buf n).after ≡ x
after_either true c l x buf n = refl
after_either false c l x buf n = refl

-- the checks passed, and the model left
pub record Leaves (checks : List Check) (o : Outcome) (b' : Model) : Type 0 where
  pub checked : AllByRecursion (λ c. c.applies ≡ false) checks
  pub after : o.after ≡ b'

module _ (b : Model) (buf : List ℕ) where
  leaves : (cs : List Check) (o : Outcome) (b' : Model) → o.after ≡ b' → (first_refusal_or b buf cs o).refused ≡ false → Leaves cs (first_refusal_or b buf cs o) b'
  leaves cs o b' e r = let p = passed b buf cs o r in record { checked = p.0; after = ap (λ o. o.after) p.1 ∙ e }

  module _ (u n : ℕ) where
    abbrev pub write_checks : List Check
    write_checks = unit_checks b u ++ (request_check (ltb 65408 n || eqb (kind_of (state b u)) 0) code.InvalidOperation ∷ door_check b.door ∷ tab_check b.tab ∷ request_check (ltb (length buf) (128 * rounded n)) code.ShortBuffer ∷ [])

    abbrev pub write_count : ℕ
    write_count = min (rounded n) (free_count b)

    abbrev pub write_after : ℕ → Model
    write_after k =
        let rs = records_of b (name_of (state b u)) in
        let c = cursor_of (state b u) in
        revised b u (take c rs ++ (cut 128 k buf ++ drop c rs)) (c + k) (ltb 0 k)

    write_done : Outcome
    write_done = adding write_count (cond (ltb write_count (rounded n)) (answered code.DiskFull layer.Space) done (write_after write_count) buf (128 * write_count))

    pub leaves_write : (given : Supplied) → (response b given (Write u n) buf).refused ≡ false → Leaves write_checks (response b given (Write u n) buf) (write_after write_count)
    unfolding write_done
    leaves_write given r = leaves write_checks write_done (write_after write_count) (after_either (ltb write_count (rounded n)) code.DiskFull layer.Space (write_after write_count) buf (128 * write_count)) r

    pub added_write : (given : Supplied) → (response b given (Write u n) buf).refused ≡ false → (response b given (Write u n) buf).added ≡ write_count
    unfolding write_done
    added_write given r = ap (λ o. o.added) (passed b buf write_checks write_done r).1

    abbrev pub delete_checks : List Check
    delete_checks = unit_checks b u ++ (request_check (ltb 511 n || eqb (kind_of (state b u)) 0) code.InvalidOperation ∷ door_check b.door ∷ tab_check b.tab ∷ [])

    abbrev pub delete_after : Model
    delete_after =
        let rs = records_of b (name_of (state b u)) in
        let before = max (cursor_of (state b u)) 1 - 1 in
        let m = min n (length rs - before) in
        revised b u (take before rs ++ drop (before + m) rs) before (ltb 0 m)

    after_cond : (t s : Bool) (x y : Model) (c : Code) (l : Layer) (k : ℕ) → (cond t (done x buf 0) (cond s (answered c l) done y buf k)).after ≡ cond t x y
    after_cond true s x y c l k = refl
    after_cond false s x y c l k = after_either s c l y buf k

    pub leaves_delete : (given : Supplied) → (response b given (Delete u n) buf).refused ≡ false → Leaves delete_checks (response b given (Delete u n) buf) (cond (eqb n 0) b delete_after)
    leaves_delete given r =
        let rs = records_of b (name_of (state b u)) in
        let before = max (cursor_of (state b u)) 1 - 1 in
        let m = min n (length rs - before) in
        leaves delete_checks (cond (eqb n 0) (done b buf 0) (cond (ltb m n) (answered code.EndOfFile layer.Request) done delete_after buf (128 * m))) (cond (eqb n 0) b delete_after)
        (after_cond (eqb n 0) (ltb m n) b delete_after code.EndOfFile layer.Request (128 * m)) r

  module _ (u : ℕ) where
    abbrev pub current_checks : List Check
    current_checks = unit_checks b u ++ (request_check (eqb (kind_of (state b u)) 0) code.InvalidOperation ∷ door_check b.door ∷ tab_check b.tab ∷ request_check (ltb (length buf) 128) code.ShortBuffer ∷ request_check (eqb (cursor_of (state b u)) 0) code.BeginningOfFile ∷ [])

    abbrev pub current_after : Model
    current_after = revised b u (set (records_of b (name_of (state b u))) (cursor_of (state b u) - 1) (take 128 buf)) (cursor_of (state b u)) false

    pub leaves_current : (given : Supplied) → (response b given (WriteCurrent u) buf).refused ≡ false → Leaves current_checks (response b given (WriteCurrent u) buf) current_after
    leaves_current given r = leaves current_checks (done current_after buf 128) current_after refl r

    abbrev pub close_checks : List Check
    close_checks = unit_checks b u ++ (door_check (b.changed && b.door) ∷ tab_check (b.changed && b.tab) ∷ [])

    pub leaves_close : (given : Supplied) → (response b given (Close u) buf).refused ≡ false → Leaves close_checks (response b given (Close u) buf) (updated b false b.files (set b.units u closed))
    leaves_close given r = leaves close_checks (done (updated b false b.files (set b.units u closed)) buf 0) _ refl r

  module _ (u : ℕ) (n : List ℕ) (k : ℕ) where
    abbrev pub open_checks : List Check
    open_checks =
        let here = is_some (find n b.files) in
        request_check (ltb 15 u || ltb 3 k) code.InvalidOperation ∷ request_check (not b.initialized) code.NotInitialized ∷ door_check b.door ∷ request_check (not (legal n)) code.BadName ∷
        request_check (not (is_closed (state b u))) code.UnitInUse ∷ request_check (any (has_name n) b.units) code.AlreadyOpen ∷
        request_check (not here && eqb k 0) code.FileNotFound ∷ request_check (here && eqb k 1) code.FileExists ∷
        tab_check ((not here || eqb k 2) && b.tab) ∷ request_check (not here && leb 96 (length b.files)) code.DirectoryFull ∷ space_check (not here && eqb (free_count b) 0) ∷ []

    pub leaves_open : (given : Supplied) → (response b given (Open u n k) buf).refused ≡ false → Leaves open_checks (response b given (Open u n k) buf) (opened b u n k)
    leaves_open given r = leaves open_checks (adding (cond (is_some (find n b.files)) 0 1) (done (opened b u n k) buf 0)) (opened b u n k) refl r

    pub added_open : (given : Supplied) → (response b given (Open u n k) buf).refused ≡ false → (response b given (Open u n k) buf).added ≡ cond (is_some (find n b.files)) 0 1
    added_open given r = ap (λ o. o.added) (passed b buf open_checks (adding (cond (is_some (find n b.files)) 0 1) (done (opened b u n k) buf 0)) r).1

  abbrev pub erase_checks : List ℕ → List Check
  erase_checks n =
      request_check (not b.initialized) code.NotInitialized ∷ door_check b.door ∷ request_check (not (legal n)) code.BadName ∷ request_check (not (is_some (find n b.files))) code.FileNotFound ∷
      request_check (any (has_name n) b.units) code.AlreadyOpen ∷ tab_check b.tab ∷ []

  pub leaves_erase : (given : Supplied) (n : List ℕ) → (response b given (Erase n) buf).refused ≡ false → Leaves (erase_checks n) (response b given (Erase n) buf) (updated b false (without n b.files) b.units)
  leaves_erase given n r = leaves (erase_checks n) (done (updated b false (without n b.files) b.units) buf 0) _ refl r

  abbrev pub format_checks : List ℕ → List Check
  format_checks id = request_check (any (λ s. not (is_closed s)) b.units) code.AlreadyOpen ∷ door_check b.door ∷ tab_check b.tab ∷ request_check (not (sized b.size)) code.BadSize ∷ request_check (not (legal_id id)) code.BadLabel ∷ []

  pub leaves_format : (given : Supplied) (id : List ℕ) → (response b given (Format id) buf).refused ≡ false → Leaves (format_checks id) (response b given (Format id) buf) (started b [])
  leaves_format given id r = leaves (format_checks id) (done (started b []) buf 0) (started b []) refl r

  abbrev pub initialize_checks : List Check
  initialize_checks = request_check (any (λ s. not (is_closed s)) b.units) code.AlreadyOpen ∷ door_check b.door ∷ request_check (not (sized b.size)) code.BadSize ∷ []

  abbrev pub initialize_after : Supplied → Model
  initialize_after given = cond b.initialized (started b b.files) (read_in b given.reading buf).after

  after_initialize : (t : Bool) (x : Model) (o : Outcome) → (cond t (done x buf 0) o).after ≡ cond t x o.after
  after_initialize true x o = refl
  after_initialize false x o = refl

  pub leaves_initialize : (given : Supplied) → (response b given Initialize buf).refused ≡ false → Leaves initialize_checks (response b given Initialize buf) (initialize_after given)
  leaves_initialize given r =
      leaves initialize_checks (cond b.initialized (done (started b b.files) buf 0) (read_in b given.reading buf)) (initialize_after given)
      (after_initialize b.initialized (started b b.files) (read_in b given.reading buf)) r

-- ---- calls that only move a cursor

-- the cursor of unit u at c, and nothing else changed
pub record Moves (b : Model) (u c : ℕ) (b' : Model) : Type 0 where
  pub is : b' ≡ moved_to b u c
  pub low : ltb 15 u ≡ false
  pub opened : is_closed (state b u) ≡ false

module _ (b : Model) (given : Supplied) (buf : List ℕ) (u : ℕ) where
  pub moves_rewind : (response b given (Rewind u) buf).refused ≡ false → Moves b u 0 (response b given (Rewind u) buf).after
  moves_rewind a =
      let p = passed b buf (unit_checks b u) (done (moved_to b u 0) buf 0) a in
      record { is = ap (λ o. o.after) p.1; low = p.0.0; opened = p.0.1.1.0 }

  pub moves_read : (n : ℕ) → (response b given (Read u n) buf).refused ≡ false → Moves b u (cursor_of (state b u) + min (rounded n) (length (records_of b (name_of (state b u))) - cursor_of (state b u))) (response b given (Read u n) buf).after
  moves_read n a =
      let k = rounded n in
      let rs = records_of b (name_of (state b u)) in
      let c = cursor_of (state b u) in
      let m = min k (length rs - c) in
      let left = joined (take m (drop c rs)) ++ drop (128 * m) buf in
      let p = passed b buf (unit_checks b u ++ (request_check (ltb 65408 n) code.InvalidOperation ∷ door_check b.door ∷ request_check (ltb (length buf) (128 * k)) code.ShortBuffer ∷ []))
      (cond (ltb m k) (answered code.EndOfFile layer.Request) done (moved_to b u (c + m)) left (128 * m)) a in
      record { is = ap (λ o. o.after) p.1 ∙ after_either (ltb m k) code.EndOfFile layer.Request (moved_to b u (c + m)) left (128 * m); low = p.0.0; opened = p.0.1.1.0 }

  pub moves_previous : (response b given (ReadPrevious u) buf).refused ≡ false → Moves b u (cursor_of (state b u) - 1) (response b given (ReadPrevious u) buf).after
  moves_previous a =
      let rs = records_of b (name_of (state b u)) in
      let c = cursor_of (state b u) in
      let p = passed b buf (unit_checks b u ++ (door_check b.door ∷ request_check (ltb (length buf) 128) code.ShortBuffer ∷ request_check (ltb c 2) code.BeginningOfFile ∷ [])) (done (moved_to b u (c - 1)) (get_or rs (c - 2) [] ++ drop 128 buf) 128) a in
      record { is = ap (λ o. o.after) p.1; low = p.0.0; opened = p.0.1.1.0 }

  pub moves_forward : (n : ℕ) → (response b given (SkipForward u n) buf).refused ≡ false → Moves b u (cursor_of (state b u) + min n (length (records_of b (name_of (state b u))) - cursor_of (state b u))) (response b given (SkipForward u n) buf).after
  moves_forward n a =
      let c = cursor_of (state b u) in
      let m = min n (length (records_of b (name_of (state b u))) - c) in
      let p = passed b buf (unit_checks b u ++ door_check b.door ∷ []) (cond (ltb m n) (answered code.EndOfFile layer.Request) done (moved_to b u (c + m)) buf m) a in
      record { is = ap (λ o. o.after) p.1 ∙ after_either (ltb m n) code.EndOfFile layer.Request (moved_to b u (c + m)) buf m; low = p.0.0; opened = p.0.1.1.0 }

  pub moves_backward : (n : ℕ) → (response b given (SkipBackward u n) buf).refused ≡ false → Moves b u (cursor_of (state b u) - min n (cursor_of (state b u))) (response b given (SkipBackward u n) buf).after
  moves_backward n a =
      let c = cursor_of (state b u) in
      let m = min n c in
      let p = passed b buf (unit_checks b u ++ door_check b.door ∷ []) (cond (ltb m n) (answered code.BeginningOfFile layer.Request) done (moved_to b u (c - m)) buf m) a in
      record { is = ap (λ o. o.after) p.1 ∙ after_either (ltb m n) code.BeginningOfFile layer.Request (moved_to b u (c - m)) buf m; low = p.0.0; opened = p.0.1.1.0 }
