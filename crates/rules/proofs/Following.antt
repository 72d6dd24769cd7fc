-- Every call that is not refused keeps the layout following the model, its map too.
use Rattle.std.proofs.Common.{◌≡◌, ℕ, zero, suc, ◌+◌, ◌-◌, ◌<◌, ◌≤◌, min, max, Bool, true, false, cond, not, eqb, ltb, List, [], ◌∷◌, ◌++◌, length, take, drop, set, is_some, Some, None, unwrap_or, sym, refl, ap, ◌∙◌, subst, arith}
use Rattle.std.proofs.lemmas.Bool.{both_ways, or_parts, or_right, ltb-false}
use Rattle.std.proofs.lemmas.Bool.Decides.{nat_tests}
use Rattle.std.proofs.lemmas.List.{length-set, take-append-drop, nil_from_length}
use Rattle.chains.specs.Layout.{Layout, Placed}
use Rattle.rules.specs.Model.{Model, UnitState, Supplied, Format, Initialize, Door, Tab, Status, Open, Close, Rewind, Read, Write, WriteCurrent, Delete, ReadCurrent, ReadPrevious, SkipForward, SkipBackward, Erase, closed, holds, find, records_of, is_closed, any, state, name_of, kind_of, cursor_of, free_count, rounded, cut, started, read_in, made, emptied, with_unit, response}
use Rattle.rules.specs.Effects.{layout_after, in_file, with_places, saved, placed, rewritten}
use Rattle.rules.specs.Matching.{Matches, Follows, Current, StaysFollowing}
use Rattle.rules.proofs.Addresses.{ats}
use Rattle.rules.proofs.Changes.{ats_rewritten}
use Rattle.rules.proofs.Map.{current_edited}
use Rattle.rules.proofs.Accepted.{leaves_write, added_write, leaves_delete, delete_after, leaves_current, leaves_open, leaves_erase, leaves_close, leaves_format, leaves_initialize, Moves, moves_rewind, moves_read, moves_previous, moves_forward, moves_backward}
use Rattle.rules.proofs.Matched.{stays_matched}

abbrev open_unit : UnitState → Bool
open_unit s = not (is_closed s)

any_open : (us : List UnitState) (u : ℕ) (n : List ℕ) (k c : ℕ) → u < length us → any open_unit (set us u (holds n k c)) ≡ true
any_open [] u n k c h = absurd (omega arith)
any_open (s ∷ us) zero n k c h = refl
any_open (s ∷ us) (suc u) n k c h = or_right (open_unit s) (any open_unit (set us u (holds n k c))) (any_open us u n k c (omega arith))

module _ (b b' : Model) (d d' : Layout) (f : Follows b d) (m : Matches b' d') where
  -- a unit is held open
  held_open : (u : ℕ) (n : List ℕ) (k c : ℕ) → ltb 15 u ≡ false → b'.units ≡ set b.units u (holds n k c) → (b'.changed ≡ false → Current d') → Follows b' d'
  held_open u n k c low e cur =
      let few : u < length b.units = omega (arith, ltb-false 15 u low, f.units) in
      record {
        matches = m;
        units = ap length e ∙ (length-set b.units u (holds n k c) ∙ f.units);
        unsaved = λ h. absurd (both_ways (any open_unit b'.units) h (ap (any open_unit) e ∙ any_open b.units u n k c few));
        current = cur;
      }

  -- nothing is left unsaved
  all_saved : length b'.units ≡ length b.units → b'.changed ≡ false → Current d' → Follows b' d'
  all_saved e s cur = record { matches = m; units = e ∙ f.units; unsaved = λ _. s; current = λ _. cur }

-- the same units and nothing new unsaved
module _ (b b' : Model) (d : Layout) (f : Follows b d) (m : Matches b' d) where
  as_before : b'.units ≡ b.units → b'.changed ≡ b.changed → Follows b' d
  as_before e s = record { matches = m; units = ap length e ∙ f.units; unsaved = λ h. s ∙ f.unsaved (sym (ap (any open_unit) e) ∙ h); current = λ h. f.current (sym s ∙ h) }

-- ---- calls that only move a cursor

moved : (b b' : Model) (d : Layout) (u c : ℕ) → Follows b d → Matches b' d → Moves b u c b' → Follows b' d
moved b b' d u c f m v =
    held_open b b' d d f m u (name_of (state b u)) (kind_of (state b u)) c v.low (ap (λ x. x.units) v.is)
    (λ h. f.current (sym (ap (λ x. x.changed) v.is) ∙ h))

-- ---- calls that write

module _ (b : Model) (d : Layout) (buf taken : List ℕ) (f : Follows b d) (given : Supplied) where
  follow_write : (u n : ℕ) → (response b given (Write u n) buf).refused ≡ false → length taken ≡ (response b given (Write u n) buf).added →
      Matches (response b given (Write u n) buf).after (unwrap_or (layout_after d b (Write u n) buf taken) d) → Follows (response b given (Write u n) buf).after (unwrap_or (layout_after d b (Write u n) buf taken) d)
  follow_write u n a long now =
      let m = f.matches in
      let c = cursor_of (state b u) in
      let k = min (rounded n) (free_count b) in
      let p = leaves_write b buf u n given a in
      let after = p.after in
      let l : length taken ≡ k = long ∙ added_write b buf u n given a in
      held_open b (response b given (Write u n) buf).after d (unwrap_or (layout_after d b (Write u n) buf taken) d) f now u (name_of (state b u)) (kind_of (state b u)) (c + k) p.checked.0 (ap (λ x. x.units) after)
      (λ h.
      let parts = or_parts b.changed (ltb 0 k) (sym (ap (λ x. x.changed) after) ∙ h) in
      let nothing : taken ≡ [] = nil_from_length taken (omega (arith, ltb-false 0 k parts.1)) in
      current_edited (name_of (state b u)) (λ ps. take c ps ++ (placed taken (cut 128 (length taken) buf) ++ drop c ps)) b d m (f.current parts.0)
      (λ ps _. ap (λ xs. ats (take c ps ++ (placed xs (cut 128 (length xs) buf) ++ drop c ps))) nothing ∙ ap ats (take-append-drop c ps)))

  follow_write_current : (u : ℕ) → (response b given (WriteCurrent u) buf).refused ≡ false →
      Matches (response b given (WriteCurrent u) buf).after (unwrap_or (layout_after d b (WriteCurrent u) buf taken) d) → Follows (response b given (WriteCurrent u) buf).after (unwrap_or (layout_after d b (WriteCurrent u) buf taken) d)
  follow_write_current u a now =
      let m = f.matches in
      let c = cursor_of (state b u) in
      let p = leaves_current b buf u given a in
      let after = p.after in
      held_open b (response b given (WriteCurrent u) buf).after d (unwrap_or (layout_after d b (WriteCurrent u) buf taken) d) f now u (name_of (state b u)) (kind_of (state b u)) c p.checked.0 (ap (λ x. x.units) after)
      (λ h.
      let parts = or_parts b.changed false (sym (ap (λ x. x.changed) after) ∙ h) in
      current_edited (name_of (state b u)) (rewritten (c - 1) (take 128 buf)) b d m (f.current parts.0) (λ ps _. ats_rewritten (c - 1) (take 128 buf) ps))

  follow_delete : (u n : ℕ) → (response b given (Delete u n) buf).refused ≡ false →
      Matches (response b given (Delete u n) buf).after (unwrap_or (layout_after d b (Delete u n) buf taken) d) → Follows (response b given (Delete u n) buf).after (unwrap_or (layout_after d b (Delete u n) buf taken) d)
  follow_delete u n a now =
      let m = f.matches in
      let rs = records_of b (name_of (state b u)) in
      let before = max (cursor_of (state b u)) 1 - 1 in
      let k = min n (length rs - before) in
      let p = leaves_delete b buf u n given a in
      let after = p.after in
      let g : List Placed → List Placed = λ ps. take before ps ++ drop (before + min n (length ps - before)) ps in
      let target = in_file (name_of (state b u)) g d.places in
      subst (λ x. Follows x (unwrap_or (layout_after d b (Delete u n) buf taken) d)) (sym after)
      (step (delete_after b buf u n) (with_places d target) (eqb n 0)
      (subst (λ x. Matches x (unwrap_or (layout_after d b (Delete u n) buf taken) d)) after now)
      (λ mm. held_open b (delete_after b buf u n) d (with_places d target) f mm u (name_of (state b u)) (kind_of (state b u)) before p.checked.0 refl
      (λ h.
      let parts = or_parts b.changed (ltb 0 k) h in
      let z : k ≤ 0 = ltb-false 0 k parts.1 in
      current_edited (name_of (state b u)) g b d m (f.current parts.0)
      (λ ps l.
      let zero_more : before + min n (length ps - before) ≡ before = omega arith in
      ap (λ j. ats (take before ps ++ drop j ps)) zero_more ∙ ap ats (take-append-drop before ps)))))
    where
      step : (x : Model) (e : Layout) (t : Bool) → Matches (cond t b x) (unwrap_or (cond t None (Some e)) d) → (Matches x e → Follows x e) → Follows (cond t b x) (unwrap_or (cond t None (Some e)) d)
      step x e true mm k = f
      step x e false mm k = k mm

  -- OPEN

  open_cursor : (u : ℕ) (n : List ℕ) (k : ℕ) (t s : Bool) →
      (c : ℕ) × ((cond t (cond s (emptied b u n k) (with_unit b u (holds n k (cond (eqb k 3) (length (records_of b n)) 0)))) (made b u n k)).units ≡ set b.units u (holds n k c))
  open_cursor u n k true true = (0, refl)
  open_cursor u n k true false = (cond (eqb k 3) (length (records_of b n)) 0, refl)
  open_cursor u n k false s = (0, refl)

  open_current : (u : ℕ) (n : List ℕ) (k : ℕ) (e : Layout) (t s : Bool) →
      (cond t (cond s (emptied b u n k) (with_unit b u (holds n k (cond (eqb k 3) (length (records_of b n)) 0)))) (made b u n k)).changed ≡ false →
      Current (unwrap_or (cond t (cond s (Some (with_places d (in_file n (λ _. []) d.places))) None) (Some e)) d)
  open_current u n k e true true h =
      let parts = or_parts b.changed (ltb 0 (length (records_of b n))) h in
      current_edited n (λ _. []) b d f.matches (f.current parts.0)
      (λ ps l. ap ats (sym (nil_from_length ps (omega (arith, ltb-false 0 (length (records_of b n)) parts.1)))))
  open_current u n k e true false h = f.current h
  open_current u n k e false s h = absurd (both_ways true h refl)

  follow_open : (u : ℕ) (n : List ℕ) (k : ℕ) → (response b given (Open u n k) buf).refused ≡ false →
      Matches (response b given (Open u n k) buf).after (unwrap_or (layout_after d b (Open u n k) buf taken) d) → Follows (response b given (Open u n k) buf).after (unwrap_or (layout_after d b (Open u n k) buf taken) d)
  follow_open u n k a now =
      let here = is_some (find n b.files) in
      let p = leaves_open b buf u n k given a in
      let after = p.after in
      let low = (or_parts (ltb 15 u) (ltb 3 k) p.checked.0).0 in
      let c = open_cursor u n k here (eqb k 2) in
      held_open b (response b given (Open u n k) buf).after d (unwrap_or (layout_after d b (Open u n k) buf taken) d) f now u n k c.0 low (ap (λ x. x.units) after ∙ c.1)
      (λ h. open_current u n k _ here (eqb k 2) (sym (ap (λ x. x.changed) after) ∙ h))

  -- CLOSE, ERASE, INITIALIZE, FORMAT

  close_current : (t : Bool) → b.changed ≡ t → Current (unwrap_or (cond t (Some (saved d)) None) d)
  close_current true e = refl
  close_current false e = f.current e

  follow_close : (u : ℕ) → (response b given (Close u) buf).refused ≡ false →
      Matches (response b given (Close u) buf).after (unwrap_or (layout_after d b (Close u) buf taken) d) → Follows (response b given (Close u) buf).after (unwrap_or (layout_after d b (Close u) buf taken) d)
  follow_close u a now =
      let after = (leaves_close b buf u given a).after in
      all_saved b (response b given (Close u) buf).after d (unwrap_or (layout_after d b (Close u) buf taken) d) f now
      (ap (λ x. length x.units) after ∙ length-set b.units u closed) (ap (λ x. x.changed) after) (close_current b.changed refl)

  follow_erase : (n : List ℕ) → (response b given (Erase n) buf).refused ≡ false →
      Matches (response b given (Erase n) buf).after (unwrap_or (layout_after d b (Erase n) buf taken) d) → Follows (response b given (Erase n) buf).after (unwrap_or (layout_after d b (Erase n) buf taken) d)
  follow_erase n a now =
      let after = (leaves_erase b buf given n a).after in
      all_saved b (response b given (Erase n) buf).after d (unwrap_or (layout_after d b (Erase n) buf taken) d) f now
      (ap (λ x. length x.units) after) (ap (λ x. x.changed) after) refl

  follow_format : (id : List ℕ) → (response b given (Format id) buf).refused ≡ false →
      Matches (response b given (Format id) buf).after (unwrap_or (layout_after d b (Format id) buf taken) d) → Follows (response b given (Format id) buf).after (unwrap_or (layout_after d b (Format id) buf taken) d)
  follow_format id a now =
      let after = (leaves_format b buf given id a).after in
      all_saved b (response b given (Format id) buf).after d (unwrap_or (layout_after d b (Format id) buf taken) d) f now
      (ap (λ x. length x.units) after) (ap (λ x. x.changed) after) refl

  again : (t : Bool) (x y : Model) → t ≡ true → cond t x y ≡ x
  again true x y e = refl
  again false x y e = absurd (both_ways false refl e)

  follow_initialize : b.initialized ≡ true → (response b given Initialize buf).refused ≡ false → Matches (response b given Initialize buf).after d → Follows (response b given Initialize buf).after d
  follow_initialize i a now =
      let p = leaves_initialize b buf given a in
      let after : (response b given Initialize buf).after ≡ started b b.files = p.after ∙ again b.initialized (started b b.files) (read_in b given.reading buf).after i in
      all_saved b (response b given Initialize buf).after d d f now
      (ap (λ x. length x.units) after) (ap (λ x. x.changed) after) (f.current (f.unsaved p.checked.0))

-- STATUS and READ CURRENT
module _ (b : Model) (given : Supplied) (buf : List ℕ) where
  pub quiet_units_status : (response b given Status buf).after.units ≡ b.units
  quiet_units_status = grind (arith, nat_tests)

  pub quiet_changed_status : (response b given Status buf).after.changed ≡ b.changed
  quiet_changed_status = grind (arith, nat_tests)

  pub quiet_units_current : (u : ℕ) → (response b given (ReadCurrent u) buf).after.units ≡ b.units
  quiet_units_current u = grind (arith, nat_tests)

  pub quiet_changed_current : (u : ℕ) → (response b given (ReadCurrent u) buf).after.changed ≡ b.changed
  quiet_changed_current u = grind (arith, nat_tests)

pub stays_following : StaysFollowing
stays_following b d given (Format id) buf taken i f a l t = follow_format b d buf taken f given id a (stays_matched b d given (Format id) buf taken i f.matches a l t)
stays_following b d given Initialize buf taken i f a l t = follow_initialize b d buf taken f given i a (stays_matched b d given Initialize buf taken i f.matches a l t)
stays_following b d given (Door x) buf taken i f a l t = as_before b (response b given (Door x) buf).after d f (stays_matched b d given (Door x) buf taken i f.matches a l t) refl refl
stays_following b d given (Tab x) buf taken i f a l t = as_before b (response b given (Tab x) buf).after d f (stays_matched b d given (Tab x) buf taken i f.matches a l t) refl refl
stays_following b d given Status buf taken i f a l t = as_before b (response b given Status buf).after d f (stays_matched b d given Status buf taken i f.matches a l t) (quiet_units_status b given buf) (quiet_changed_status b given buf)
stays_following b d given (Open u n k) buf taken i f a l t = follow_open b d buf taken f given u n k a (stays_matched b d given (Open u n k) buf taken i f.matches a l t)
stays_following b d given (Close u) buf taken i f a l t = follow_close b d buf taken f given u a (stays_matched b d given (Close u) buf taken i f.matches a l t)
stays_following b d given (Rewind u) buf taken i f a l t = moved b (response b given (Rewind u) buf).after d u _ f (stays_matched b d given (Rewind u) buf taken i f.matches a l t) (moves_rewind b given buf u a)
stays_following b d given (Read u n) buf taken i f a l t = moved b (response b given (Read u n) buf).after d u _ f (stays_matched b d given (Read u n) buf taken i f.matches a l t) (moves_read b given buf u n a)
stays_following b d given (Write u n) buf taken i f a l t = follow_write b d buf taken f given u n a l (stays_matched b d given (Write u n) buf taken i f.matches a l t)
stays_following b d given (WriteCurrent u) buf taken i f a l t = follow_write_current b d buf taken f given u a (stays_matched b d given (WriteCurrent u) buf taken i f.matches a l t)
stays_following b d given (Delete u n) buf taken i f a l t = follow_delete b d buf taken f given u n a (stays_matched b d given (Delete u n) buf taken i f.matches a l t)
stays_following b d given (ReadCurrent u) buf taken i f a l t = as_before b (response b given (ReadCurrent u) buf).after d f (stays_matched b d given (ReadCurrent u) buf taken i f.matches a l t) (quiet_units_current b given buf u) (quiet_changed_current b given buf u)
stays_following b d given (ReadPrevious u) buf taken i f a l t = moved b (response b given (ReadPrevious u) buf).after d u _ f (stays_matched b d given (ReadPrevious u) buf taken i f.matches a l t) (moves_previous b given buf u a)
stays_following b d given (SkipForward u n) buf taken i f a l t = moved b (response b given (SkipForward u n) buf).after d u _ f (stays_matched b d given (SkipForward u n) buf taken i f.matches a l t) (moves_forward b given buf u n a)
stays_following b d given (SkipBackward u n) buf taken i f a l t = moved b (response b given (SkipBackward u n) buf).after d u _ f (stays_matched b d given (SkipBackward u n) buf taken i f.matches a l t) (moves_backward b given buf u n a)
stays_following b d given (Erase n) buf taken i f a l t = follow_erase b d buf taken f given n a (stays_matched b d given (Erase n) buf taken i f.matches a l t)
