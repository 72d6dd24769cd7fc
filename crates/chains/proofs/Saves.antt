-- The sectors of the map written one after another, each with the links that it has.
use Rattle.std.proofs.Common.{◌≡◌, ℕ, zero, suc, ◌+◌, ◌-◌, ◌<◌, ◌≤◌, Bool, true, false, cond, not, ◌&&◌, ◌||◌, ltb, leb, ◌≢◌, List, [], ◌∷◌, map, length, get_or, is_ok, Ok, Err, Result, sym, refl, ap, ◌∙◌, ⊎_elim, arith}
use Rattle.std.specs.List.{range_with_len}
use Rattle.std.proofs.lemmas.List.{get_or-set_other}
use Rattle.std.proofs.lemmas.Bool.{and_parts, cases_Bool, leb-true, ltb-true, ltb-false}
use Rattle.std.proofs.lemmas.Bool.Decides.{nat_tests}
use Rattle.device.specs.declared.sector.Sector.{Sector}
use Rattle.device.specs.declared.fault.Fault.{Fault}
use Rattle.device.specs.declared.fault.Code.TheVariants.{InvalidOperation, NotReady, Protected}
use Rattle.device.specs.Device.{Medium, blank, device_fault, fetched, stored, wrote}
use Rattle.device.proofs.DeviceFacts.{stored_ok}
use Rattle.chains.specs.Layout.{Disk, Layout, NumberedSector, numbered, overwritten, sector, allocated, chains, member, numbers, reserved}
use Rattle.chains.specs.Fresh.{map_sector_bytes, written_over}
use Rattle.chains.specs.Changes.{LaidOut, saved_map_sector}
use Rattle.chains.specs.Saving.{marks_by, remapped, remapped_at, remapped_all, with_map}
use Rattle.chains.proofs.LaidOut.{stands_map}
use Rattle.chains.proofs.Listings.{given_sector}
use Rattle.chains.proofs.Over.{length_over}
use Rattle.chains.proofs.Writes.{done_is, from, from_more, from_none, never}

-- ---- answers of the device

parts_by : (within door tab : Bool) → ◌≡◌ {A = Result Unit Fault} (cond within (cond door (Err (device_fault NotReady)) (cond tab (Err (device_fault Protected)) (Ok tt))) (Err (device_fault InvalidOperation))) (Ok tt) →
    (within ≡ true) × (door ≡ false) × (tab ≡ false)
parts_by true true tab h = never refl (sym h)
parts_by true false true h = never refl (sym h)
parts_by true false false h = (refl, refl, refl)
parts_by false door tab h = never refl (sym h)

-- a device that takes a write takes one of a lower sector
stored_below : (m : Medium) (n k : ℕ) → k ≤ n → stored m n ≡ Ok tt → stored m k ≡ Ok tt
stored_below m n k h ok =
    let parts = parts_by (ltb n (length m.sectors)) m.door m.tab ok in
    let within = ltb-true n (length m.sectors) parts.0 in
    stored_ok m k (omega arith) parts.1 parts.2

stored_over : (xs : List NumberedSector) (m : Medium) (n : ℕ) → stored (written_over xs m) n ≡ stored m n
stored_over xs m n =
    ap (λ (k : ℕ). cond (ltb n k) (cond m.door (Err (device_fault NotReady)) (cond m.tab (Err (device_fault Protected)) (Ok tt))) (Err (device_fault InvalidOperation))) (length_over xs m.sectors)

-- ---- the loop

-- a map sector written with the links that the device gave
pub record Saved (marks : ℕ → Bool) (j : ℕ) (m : Medium) (r : Result Unit Fault) (then : Medium) : Type 0 where
  pub value : r ≡ stored m (1 + j)
  pub after : then ≡ cond (is_ok r) (wrote m (1 + j) (remapped m.sectors marks j)) m

pub sector_saved : (m now then : Medium) (marks : ℕ → Bool) (j : ℕ) (old : Sector) (bytes : List ℕ) (r : Result Unit Fault) → Ok old ≡ fetched m (1 + j) → bytes ≡ map_sector_bytes marks j → now ≡ m →
    r ≡ stored now (1 + j) → then ≡ cond (is_ok r) (wrote now (1 + j) (sector bytes old.back old.forward)) now → Saved marks j m r then
unfolding remapped
sector_saved m now then marks j old bytes r given is same value after =
    let links : old ≡ get_or m.sectors (1 + j) blank = given_sector m (1 + j) old (sym given) in
    record {
      value = value ∙ ap (λ (x : Medium). stored x (1 + j)) same;
      after = after ∙ (λ i. cond (is_ok r) (wrote (same i) (1 + j) (sector (is i) (links i).back (links i).forward)) (same i));
    }

over_lower : (f : ℕ → Sector) (a n : ℕ) (ss : Disk) (k : ℕ) → k ≤ a → get_or (overwritten (map (λ j. numbered (1 + j) (f j)) (range_with_len a n)) ss) k blank ≡ get_or ss k blank
over_lower f a zero ss k h = refl
over_lower f a (suc n) ss k h =
    let other : k ≢ 1 + a = λ e. omega arith in
    get_or-set_other (overwritten (map (λ j. numbered (1 + j) (f j)) (range_with_len (a + 1) n)) ss) (1 + a) k (f a) blank other ∙ over_lower f (a + 1) n ss k (omega arith)

-- map sectors from i on are written
pub record SavedFrom (marks : ℕ → Bool) (i : ℕ) (m now : Medium) : Type 0 where
  pub after : now ≡ written_over (from (remapped_at m.sectors marks) 3 i) m
  pub begun : i < 3 → stored m 3 ≡ Ok tt

-- map sector j comes next
module _ (marks : ℕ → Bool) (i j : ℕ) (m now then : Medium) (r : Result Unit Fault) (next : j + 1 ≡ i) (most : i ≤ 3) (written : Saved marks j now r then) (w : SavedFrom marks i m now) where
  abbrev f : ℕ → NumberedSector
  f = remapped_at m.sectors marks

  answers : r ≡ stored m 3
  answers =
      let here : r ≡ stored m (1 + j) = written.value ∙ ap (λ (x : Medium). stored x (1 + j)) w.after ∙ stored_over (from f 3 i) m (1 + j) in
      here ∙
      ⊎_elim (λ (h : ltb i 3 ≡ true). let ok = w.begun (ltb-true i 3 h) in stored_below m 3 (1 + j) (omega arith) ok ∙ sym ok)
      (λ (h : ltb i 3 ≡ false). ap (λ (k : ℕ). stored m k) (let l = ltb-false i 3 h in omega arith))
      (cases_Bool (ltb i 3))

  -- its links are still those at first
  links : remapped now.sectors marks j ≡ remapped m.sectors marks j
  unfolding remapped
  links =
      ap (λ (x : Medium). sector (map_sector_bytes marks j) (get_or x.sectors (1 + j) blank).back (get_or x.sectors (1 + j) blank).forward) w.after
      ∙ ap (λ (s : Sector). sector (map_sector_bytes marks j) s.back s.forward) (over_lower (remapped m.sectors marks) i (3 - i) m.sectors (1 + j) (omega arith))

  pub save_more : r ≡ Ok tt → SavedFrom marks j m then
  save_more ok =
      record {
        after =
            done_is (wrote now (1 + j) (remapped now.sectors marks j)) now then r written.after ok
            ∙ ap (λ (s : Sector). wrote now (1 + j) s) links
            ∙ ap (λ (x : Medium). wrote x (1 + j) (remapped m.sectors marks j)) w.after
            ∙ ap (λ (xs : List NumberedSector). written_over xs m) (from_more f 3 i j next most);
        begun = λ _. sym answers ∙ ok;
      }

  -- a refusal, handed on as x, is the first write's: nothing was written
  pub save_refused : (e d : Fault) (x : Result Unit Fault) → r ≡ Err e → x ≡ Err d → d ≡ e → (x ≡ stored m 3) × ((done : Medium) → then ≡ cond (is_ok x) done m)
  save_refused e d x fails passed same =
      let err : x ≡ Err e = passed ∙ ap (λ (y : Fault). Err y) same in
      let untouched : then ≡ now = written.after ∙ ap (λ (y : Result Unit Fault). cond (is_ok y) (wrote now (1 + j) (remapped now.sectors marks j)) now) fails in
      let none : now ≡ m =
      ⊎_elim (λ (h : ltb i 3 ≡ true). never (w.begun (ltb-true i 3 h)) (sym answers ∙ fails))
      (λ (h : ltb i 3 ≡ false). w.after ∙ ap (λ (xs : List NumberedSector). written_over xs m) (from_none f 3 i (ltb-false i 3 h)))
      (cases_Bool (ltb i 3)) in
      (err ∙ sym fails ∙ answers, λ done. untouched ∙ none ∙ ap (λ (y : Result Unit Fault). cond (is_ok y) done m) (sym err))

-- ---- on a disk that shows a layout

marks_bit : (low past used : Bool) → (low || (past || not (not low && (not past && not used)))) ≡ (low || (past || used))
marks_bit true past used = refl
marks_bit false true used = refl
marks_bit false false true = refl
marks_bit false false false = refl

not_low : (a b : ℕ) → leb a b ≡ not (ltb b a)
not_low a b = grind (arith, nat_tests)

not_past : (a b : ℕ) → ltb a b ≡ not (leb b a)
not_past a b = grind (arith, nat_tests)

module _ (d : Layout) (m : Medium) (laid : LaidOut d m.sectors) (s : ℕ) (size : s ≡ length m.sectors) (free : ℕ → Bool)
    (unused : (n : ℕ) → free n ≡ (leb reserved n && (ltb n d.size && not (member n (numbers (chains d.places)))))) where
  marks_are : marks_by s free ≡ allocated d.size d.places
  marks_are i n =
      (ap (λ (k : ℕ). marks_by k free n) (size ∙ laid.size)
      ∙ ap (λ (b : Bool). ltb n reserved || (leb d.size n || not b)) (unused n)
      ∙ (λ t. ltb n reserved || (leb d.size n || not (not_low reserved n t && (not_past n d.size t && not (member n (numbers (chains d.places)))))))
      ∙ marks_bit (ltb n reserved) (leb d.size n) (member n (numbers (chains d.places)))) i

  shows_saved : (j : ℕ) → j < 3 → remapped m.sectors (marks_by s free) j ≡ saved_map_sector d (allocated d.size d.places) j
  unfolding remapped
  shows_saved j h =
      ap (λ (x : Sector). sector (map_sector_bytes (marks_by s free) j) x.back x.forward) (stands_map d m.sectors laid j h)
      ∙ ap (λ (marks : ℕ → Bool). saved_map_sector d marks j) marks_are

  map_saved : written_over (remapped_all m.sectors (marks_by s free)) m ≡ with_map d m
  unfolding with_map
  map_saved =
      λ i. written_over (numbered 1 (shows_saved 0 (omega arith) i) ∷ numbered 2 (shows_saved 1 (omega arith) i) ∷ numbered 3 (shows_saved 2 (omega arith) i) ∷ []) m

  map_stored : m.door ≡ false → m.tab ≡ false → stored m 3 ≡ Ok tt
  map_stored shut off =
      let least = leb-true 64 d.size (and_parts (leb 64 d.size) (leb d.size 2464) laid.proper.size).0 in
      stored_ok m 3 (omega (arith, laid.size)) shut off

  pub saved : (now : Medium) (r : Result Unit Fault) → r ≡ stored m 3 → now ≡ cond (is_ok r) (written_over (remapped_all m.sectors (marks_by s free)) m) m → m.door ≡ false → m.tab ≡ false → (r ≡ Ok tt) × (now ≡ with_map d m)
  saved now r value after shut off =
      let ok = value ∙ map_stored shut off in
      (ok, done_is (written_over (remapped_all m.sectors (marks_by s free)) m) m now r after ok ∙ map_saved)
