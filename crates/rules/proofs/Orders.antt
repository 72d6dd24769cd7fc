-- Every call that is not refused leaves the units orderly: each holds a file that is there, and no two hold one.
use Rattle.std.proofs.Common.{◌≡◌, ℕ, ◌+◌, ◌-◌, ◌<◌, ◌≤◌, min, max, Bool, true, false, cond, not, ◌&&◌, eqb, ltb, leb, List, [], ◌++◌, length, get_or, take, drop, set, is_some, Some, unwrap_or, sym, refl, ap, ◌∙◌, subst, arith}
use Rattle.std.proofs.lemmas.Bool.{both_ways, or_parts, and_parts, leb-true, le-leb, ltb-false}
use Rattle.std.proofs.lemmas.List.{length-append, length-take, length-drop, length-set}
use Rattle.chains.specs.Names.{same}
use Rattle.rules.specs.Model.{Model, File, UnitState, Reading, Supplied, faulty, sound, Format, Initialize, Door, Tab, Status, Open, Close, Rewind, Read, Write, WriteCurrent, Delete, ReadCurrent, ReadPrevious, SkipForward, SkipBackward, Erase, closed, holds, find, records_of, with_records, without, is_closed, has_name, any, state, name_of, kind_of, cursor_of, cut, started, read_in, made, emptied, updated, with_unit, moved_to, response}
use Rattle.rules.specs.Matching.{Orderly, seated, StaysOrderly}
use Rattle.rules.proofs.Rearranging.{same_eq}
use Rattle.rules.proofs.Changes.{length_cut}
use Rattle.rules.proofs.Accepted.{leaves_write, write_after, write_count, leaves_delete, delete_after, leaves_current, current_after, leaves_open, leaves_erase, leaves_close, leaves_format, leaves_initialize, initialize_after, Moves, moves_rewind, moves_read, moves_previous, moves_forward, moves_backward}
use Rattle.rules.proofs.Matched.{quiet_status, quiet_read_current}
use Rattle.rules.proofs.Following.{quiet_units_status, quiet_units_current}
use Rattle.rules.proofs.Seats.{find_given, find_beside, find_kept, find_behind, find_added, has_its_name, none_has, none_open, seat_by, reseated}

false_since : (t : Bool) → (t ≡ true → ⊥) → t ≡ false
false_since true h = absurd (h refl)
false_since false h = refl

seat_parts : (fs : List File) (s : UnitState) → seated fs s ≡ true → is_closed s ≡ false → (is_some (find (name_of s) fs) ≡ true) × (cursor_of s ≤ length (unwrap_or (find (name_of s) fs) []))
seat_parts fs closed h o = absurd (both_ways true o refl)
seat_parts fs (holds n k c) h o =
    let both = and_parts (is_some (find n fs)) (leb c (length (unwrap_or (find n fs) []))) h in
    (both.0, leb-true c (length (unwrap_or (find n fs) [])) both.1)

seat_found : (fs : List File) (n : List ℕ) (k c : ℕ) (rs : List (List ℕ)) → find n fs ≡ Some rs → c ≤ length rs → seated fs (holds n k c) ≡ true
seat_found fs n k c rs e h = subst (λ o. (is_some o && leb c (length (unwrap_or o []))) ≡ true) (sym e) (le-leb c (length rs) h)

seat_here : (fs : List File) (n : List ℕ) (k c : ℕ) → is_some (find n fs) ≡ true → c ≤ length (unwrap_or (find n fs) []) → seated fs (holds n k c) ≡ true
seat_here fs n k c i h = rw i (le-leb c (length (unwrap_or (find n fs) [])) h)

-- the same files and units
same_orderly : (b b' : Model) → Orderly b → b'.files ≡ b.files → b'.units ≡ b.units → Orderly b'
same_orderly b b' o e e' =
    let at : (u : ℕ) → state b' u ≡ state b u = λ u. ap (λ us. get_or us u closed) e' in
    record {
      units = ap length e' ∙ o.units;
      seats = λ u. ap (λ fs. seated fs (state b' u)) e ∙ (ap (seated b.files) (at u) ∙ o.seats u);
      alone = λ n u v h k. o.alone n u v (sym (ap (has_name n) (at u)) ∙ h) (sym (ap (has_name n) (at v)) ∙ k);
    }

-- every unit closed
pub all_closed : (b : Model) → length b.units ≡ 16 → any (λ s. not (is_closed s)) b.units ≡ false → Orderly b
all_closed b l h = record {
  units = l;
  seats = λ u. ap (seated b.files) (none_open b.units u h);
  alone = λ n u v k k'. absurd (both_ways false refl (sym (ap (has_name n) (none_open b.units u h)) ∙ k));
}

module _ (b b' : Model) (o : Orderly b) (u : ℕ) (low : ltb 15 u ≡ false) where
  in_table : u < length b.units
  in_table = omega (arith, ltb-false 15 u low, o.units)

  -- a unit that keeps its file
  held_again : (c : ℕ) → is_closed (state b u) ≡ false → b'.units ≡ set b.units u (holds (name_of (state b u)) (kind_of (state b u)) c) →
      seated b'.files (holds (name_of (state b u)) (kind_of (state b u)) c) ≡ true →
      ((m : List ℕ) → same (name_of (state b u)) m ≡ false → find m b'.files ≡ find m b.files) → Orderly b'
  held_again c op units seat beside =
      let n = name_of (state b u) in
      let its = has_its_name (state b u) op in
      reseated b b' o u (holds n (kind_of (state b u)) c) in_table units seat
      (λ v ne. seat_by b'.files b.files n (state b v) (false_since (has_name n (state b v)) (λ h. ne (o.alone n v u h its))) beside (o.seats v))
      (λ m v ne h k. ne (o.alone m v u k (subst (λ x. has_name x (state b u) ≡ true) (sym (same_eq m n h)) its)))

  -- a unit that takes a file which no unit holds
  newly_held : (n : List ℕ) (j c : ℕ) → any (has_name n) b.units ≡ false → b'.units ≡ set b.units u (holds n j c) →
      seated b'.files (holds n j c) ≡ true → ((m : List ℕ) → same n m ≡ false → find m b'.files ≡ find m b.files) → Orderly b'
  newly_held n j c nobody units seat beside =
      reseated b b' o u (holds n j c) in_table units seat
      (λ v ne. seat_by b'.files b.files n (state b v) (none_has n b.units v nobody) beside (o.seats v))
      (λ m v ne h k. both_ways (has_name n (state b v)) (none_has n b.units v nobody) (subst (λ x. has_name x (state b v) ≡ true) (same_eq m n h) k))

  let_go : b'.files ≡ b.files → b'.units ≡ set b.units u closed → Orderly b'
  let_go e units =
      reseated b b' o u closed in_table units refl (λ v ne. ap (λ fs. seated fs (state b v)) e ∙ o.seats v) (λ m v ne h k. both_ways false refl h)

module _ (b : Model) (given : Supplied) (buf : List ℕ) (o : Orderly b) where
  moved_within : (u c : ℕ) (b' : Model) → Moves b u c b' → c ≤ length (records_of b (name_of (state b u))) → Orderly b'
  moved_within u c b' v h =
      let s = seat_parts b.files (state b u) (o.seats u) v.opened in
      subst Orderly (sym v.is)
      (held_again b (moved_to b u c) o u v.low c v.opened refl
      (seat_here b.files (name_of (state b u)) (kind_of (state b u)) c s.0 h) (λ m _. refl))

  within : (u : ℕ) → is_closed (state b u) ≡ false → cursor_of (state b u) ≤ length (records_of b (name_of (state b u)))
  within u op = (seat_parts b.files (state b u) (o.seats u) op).1

  order_rewind : (u : ℕ) → (response b given (Rewind u) buf).refused ≡ false → Orderly (response b given (Rewind u) buf).after
  order_rewind u r = moved_within u _ (response b given (Rewind u) buf).after (moves_rewind b given buf u r) (omega arith)

  order_read : (u n : ℕ) → (response b given (Read u n) buf).refused ≡ false → Orderly (response b given (Read u n) buf).after
  order_read u n r =
      let v = moves_read b given buf u n r in
      let w = within u v.opened in
      moved_within u _ (response b given (Read u n) buf).after v (omega arith)

  order_previous : (u : ℕ) → (response b given (ReadPrevious u) buf).refused ≡ false → Orderly (response b given (ReadPrevious u) buf).after
  order_previous u r =
      let v = moves_previous b given buf u r in
      let w = within u v.opened in
      moved_within u _ (response b given (ReadPrevious u) buf).after v (omega arith)

  order_forward : (u n : ℕ) → (response b given (SkipForward u n) buf).refused ≡ false → Orderly (response b given (SkipForward u n) buf).after
  order_forward u n r =
      let v = moves_forward b given buf u n r in
      let w = within u v.opened in
      moved_within u _ (response b given (SkipForward u n) buf).after v (omega arith)

  order_backward : (u n : ℕ) → (response b given (SkipBackward u n) buf).refused ≡ false → Orderly (response b given (SkipBackward u n) buf).after
  order_backward u n r =
      let v = moves_backward b given buf u n r in
      let w = within u v.opened in
      moved_within u _ (response b given (SkipBackward u n) buf).after v (omega arith)

  -- ---- calls that change a file

  order_write : (u n : ℕ) → (response b given (Write u n) buf).refused ≡ false → Orderly (response b given (Write u n) buf).after
  order_write u n r =
      let p = leaves_write b buf u n given r in
      let k = write_count b buf u n in
      let name = name_of (state b u) in
      let c = cursor_of (state b u) in
      let rs = records_of b name in
      let op = p.checked.1.1.0 in
      let s = seat_parts b.files (state b u) (o.seats u) op in
      let w : c ≤ length rs = s.1 in
      let new = take c rs ++ (cut 128 k buf ++ drop c rs) in
      let fits : c + k ≤ length new = simp (length-append, length-take, length_cut, length-drop) (omega arith) in
      subst Orderly (sym p.after)
      (held_again b (write_after b buf u n k) o u p.checked.0 (c + k) op refl
      (seat_found (with_records name new b.files) name (kind_of (state b u)) (c + k) new (find_given name new b.files s.0) fits)
      (λ m ne. find_beside name new m b.files ne))

  order_current : (u : ℕ) → (response b given (WriteCurrent u) buf).refused ≡ false → Orderly (response b given (WriteCurrent u) buf).after
  order_current u r =
      let p = leaves_current b buf u given r in
      let name = name_of (state b u) in
      let c = cursor_of (state b u) in
      let rs = records_of b name in
      let op = p.checked.1.1.0 in
      let s = seat_parts b.files (state b u) (o.seats u) op in
      let w : c ≤ length rs = s.1 in
      let new = set rs (c - 1) (take 128 buf) in
      let fits : c ≤ length new = simp length-set w in
      subst Orderly (sym p.after)
      (held_again b (current_after b buf u) o u p.checked.0 c op refl
      (seat_found (with_records name new b.files) name (kind_of (state b u)) c new (find_given name new b.files s.0) fits)
      (λ m ne. find_beside name new m b.files ne))

  order_delete : (u n : ℕ) → (response b given (Delete u n) buf).refused ≡ false → Orderly (response b given (Delete u n) buf).after
  order_delete u n r =
      let p = leaves_delete b buf u n given r in
      let name = name_of (state b u) in
      let c = cursor_of (state b u) in
      let rs = records_of b name in
      let before = max c 1 - 1 in
      let op = p.checked.1.1.0 in
      let s = seat_parts b.files (state b u) (o.seats u) op in
      let w : c ≤ length rs = s.1 in
      let new = take before rs ++ drop (before + min n (length rs - before)) rs in
      let fits : before ≤ length new = simp (length-append, length-take, length-drop) (omega arith) in
      subst Orderly (sym p.after)
      (step (delete_after b buf u n) (eqb n 0)
      (held_again b (delete_after b buf u n) o u p.checked.0 before op refl
      (seat_found (with_records name new b.files) name (kind_of (state b u)) before new (find_given name new b.files s.0) fits)
      (λ m ne. find_beside name new m b.files ne)))
    where
      step : (x : Model) (t : Bool) → Orderly x → Orderly (cond t b x)
      step x true h = o
      step x false h = h

  -- OPEN

  end_cursor : (n : List ℕ) (t : Bool) → cond t (length (records_of b n)) 0 ≤ length (records_of b n)
  end_cursor n true = omega arith
  end_cursor n false = omega arith

  opening : (u : ℕ) (n : List ℕ) (k : ℕ) → ltb 15 u ≡ false → any (has_name n) b.units ≡ false → (t s : Bool) → is_some (find n b.files) ≡ t →
      Orderly (cond t (cond s (emptied b u n k) (with_unit b u (holds n k (cond (eqb k 3) (length (records_of b n)) 0)))) (made b u n k))
  opening u n k low nobody true true e =
      newly_held b (emptied b u n k) o u low n k 0 nobody refl
      (seat_found (with_records n [] b.files) n k 0 [] (find_given n [] b.files e) (omega arith)) (λ m ne. find_beside n [] m b.files ne)
  opening u n k low nobody true false e =
      let c = cond (eqb k 3) (length (records_of b n)) 0 in
      newly_held b (with_unit b u (holds n k c)) o u low n k c nobody refl (seat_here b.files n k c e (end_cursor n (eqb k 3))) (λ m ne. refl)
  opening u n k low nobody false s e =
      newly_held b (made b u n k) o u low n k 0 nobody refl
      (seat_found (made b u n k).files n k 0 [] (find_added n [] b.files e) (omega arith)) (λ m ne. find_behind n m [] b.files ne)

  order_open : (u : ℕ) (n : List ℕ) (k : ℕ) → (response b given (Open u n k) buf).refused ≡ false → Orderly (response b given (Open u n k) buf).after
  order_open u n k r =
      let p = leaves_open b buf u n k given r in
      subst Orderly (sym p.after)
      (opening u n k (or_parts (ltb 15 u) (ltb 3 k) p.checked.0).0 p.checked.1.1.1.1.1.0 (is_some (find n b.files)) (eqb k 2) refl)

  -- CLOSE, ERASE, FORMAT, INITIALIZE

  order_close : (u : ℕ) → (response b given (Close u) buf).refused ≡ false → Orderly (response b given (Close u) buf).after
  order_close u r =
      let p = leaves_close b buf u given r in
      subst Orderly (sym p.after) (let_go b (updated b false b.files (set b.units u closed)) o u p.checked.0 refl refl)

  order_erase : (n : List ℕ) → (response b given (Erase n) buf).refused ≡ false → Orderly (response b given (Erase n) buf).after
  order_erase n r =
      let p = leaves_erase b buf given n r in
      let nobody = p.checked.1.1.1.1.0 in
      subst Orderly (sym p.after)
      (record {
        units = o.units;
        seats = λ u. seat_by (without n b.files) b.files n (state b u) (none_has n b.units u nobody) (λ m ne. find_kept n m b.files ne) (o.seats u);
        alone = o.alone;
      })

  order_format : (id : List ℕ) → (response b given (Format id) buf).refused ≡ false → Orderly (response b given (Format id) buf).after
  order_format id r =
      let p = leaves_format b buf given id r in
      subst Orderly (sym p.after) (all_closed (started b []) o.units p.checked.0)

  initialized_units : (t : Bool) (x : Reading) → (cond t (started b b.files) (read_in b x buf).after).units ≡ b.units
  initialized_units true x = refl
  initialized_units false (faulty c n) = refl
  initialized_units false (sound fs) = refl

  order_initialize : (response b given Initialize buf).refused ≡ false → Orderly (response b given Initialize buf).after
  order_initialize r =
      let p = leaves_initialize b buf given r in
      let e = initialized_units b.initialized given.reading in
      subst Orderly (sym p.after) (all_closed (initialize_after b buf given) (ap length e ∙ o.units) (ap (any (λ s. not (is_closed s))) e ∙ p.checked.0))

pub stays_orderly : StaysOrderly
stays_orderly b given (Format id) buf o r = order_format b given buf o id r
stays_orderly b given Initialize buf o r = order_initialize b given buf o r
stays_orderly b given (Door x) buf o r = same_orderly b (response b given (Door x) buf).after o refl refl
stays_orderly b given (Tab x) buf o r = same_orderly b (response b given (Tab x) buf).after o refl refl
stays_orderly b given Status buf o r = same_orderly b (response b given Status buf).after o (quiet_status b given buf).files (quiet_units_status b given buf)
stays_orderly b given (Open u n k) buf o r = order_open b given buf o u n k r
stays_orderly b given (Close u) buf o r = order_close b given buf o u r
stays_orderly b given (Rewind u) buf o r = order_rewind b given buf o u r
stays_orderly b given (Read u n) buf o r = order_read b given buf o u n r
stays_orderly b given (Write u n) buf o r = order_write b given buf o u n r
stays_orderly b given (WriteCurrent u) buf o r = order_current b given buf o u r
stays_orderly b given (Delete u n) buf o r = order_delete b given buf o u n r
stays_orderly b given (ReadCurrent u) buf o r = same_orderly b (response b given (ReadCurrent u) buf).after o (quiet_read_current b given buf u).files (quiet_units_current b given buf u)
stays_orderly b given (ReadPrevious u) buf o r = order_previous b given buf o u r
stays_orderly b given (SkipForward u n) buf o r = order_forward b given buf o u n r
stays_orderly b given (SkipBackward u n) buf o r = order_backward b given buf o u n r
stays_orderly b given (Erase n) buf o r = order_erase b given buf o n r
