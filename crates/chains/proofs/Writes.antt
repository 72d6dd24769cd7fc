-- Writes one after another: all of them answer as the first, which answers as a write of sector 0.
use Rattle.std.proofs.Common.{◌≡◌, ℕ, suc, ◌+◌, ◌-◌, ◌<◌, ◌≤◌, true, false, cond, ltb, List, [], ◌∷◌, ◌++◌, map, length, is_ok, Ok, Err, Result, sym, refl, ap, ◌∙◌, ⊎_elim, arith}
use Rattle.std.specs.List.{range_with_len}
use Rattle.std.proofs.lemmas.Bool.{lt-ltb, cases_Bool, ltb-true, ltb-false}
use Rattle.device.specs.declared.sector.Sector.{Sector}
use Rattle.device.specs.declared.fault.Fault.{Fault}
use Rattle.device.specs.Device.{Medium, stored, wrote}
use Rattle.chains.specs.Layout.{Disk, NumberedSector, numbered, overwritten}
use Rattle.chains.specs.Fresh.{RowWritten, written_over}
use Rattle.chains.proofs.Over.{length_over, over_append}

pub stored_same : (xs : List NumberedSector) (m : Medium) (n : ℕ) → n < length m.sectors → stored (written_over xs m) n ≡ stored m 0
stored_same xs m n h =
    let l = length_over xs m.sectors in
    let here = lt-ltb n (length (overwritten xs m.sectors)) (omega arith) in
    let first = lt-ltb 0 (length m.sectors) (omega arith) in
    rw (here, first) refl

-- a result is not both
pub never : {X : Type 0} {r : Result Unit Fault} {e : Fault} → r ≡ Ok tt → r ≡ Err e → X
never p q = let z : ◌≡◌ {A = ℕ} 0 1 = cc in absurd (omega arith)

pub done_is : (done m now : Medium) (r : Result Unit Fault) → now ≡ cond (is_ok r) done m → r ≡ Ok tt → now ≡ done
done_is done m now r after ok = after ∙ ap (λ (x : Result Unit Fault). cond (is_ok x) done m) ok

-- of n sectors those from i on
abbrev pub from : (ℕ → NumberedSector) → ℕ → ℕ → List NumberedSector
from f n i = map f (range_with_len i (n - i))

pub from_more : (f : ℕ → NumberedSector) (n i j : ℕ) → j + 1 ≡ i → i ≤ n → f j ∷ from f n i ≡ from f n j
from_more f n i j e h =
    let more : suc (n - i) ≡ n - j = omega arith in
    ap (λ (k : ℕ). f j ∷ map f (range_with_len k (n - i))) (sym e) ∙ ap (λ (k : ℕ). map f (range_with_len j k)) more

pub from_none : (f : ℕ → NumberedSector) (n i : ℕ) → n ≤ i → from f n i ≡ []
from_none f n i h = let none : n - i ≡ 0 = omega arith in ap (λ (k : ℕ). map f (range_with_len i k)) none

pub from_all : (f : ℕ → NumberedSector) (n : ℕ) → from f n 0 ≡ map f (range_with_len 0 n)
from_all f n = let whole : n - 0 ≡ n = omega arith in ap (λ (k : ℕ). map f (range_with_len 0 k)) whole

-- of n sectors those from i on are written, the last first
pub record WrittenFrom (f : ℕ → NumberedSector) (n i : ℕ) (m now : Medium) : Type 0 where
  pub after : now ≡ written_over (from f n i) m
  pub begun : i < n → stored m 0 ≡ Ok tt

-- a write that comes next, of sector k
module _ (f : ℕ → NumberedSector) (n i : ℕ) (m now then : Medium) (k : ℕ) (s : Sector) (r : Result Unit Fault) (within : k < length m.sectors) (value : r ≡ stored now k) (after : then ≡ cond (is_ok r) (wrote now k s) now) (w : WrittenFrom f n i m now) where
  answers : r ≡ stored m 0
  answers = value ∙ ap (λ (x : Medium). stored x k) w.after ∙ stored_same (from f n i) m k within

  pub one_more : (j : ℕ) → j + 1 ≡ i → i ≤ n → k ≡ (f j).number → s ≡ (f j).content → r ≡ Ok tt → WrittenFrom f n j m then
  one_more j e h number content ok =
      record {
        after =
            done_is (wrote now k s) now then r after ok
            ∙ ap (λ (x : Medium). wrote x k s) w.after
            ∙ (λ t. written_over (numbered (number t) (content t) ∷ from f n i) m)
            ∙ ap (λ (xs : List NumberedSector). written_over xs m) (from_more f n i j e h);
        begun = λ _. sym answers ∙ ok;
      }

  -- a refusal, handed on as x, is the first write's: nothing was written
  pub refused : (e d : Fault) (x : Result Unit Fault) → r ≡ Err e → x ≡ Err d → d ≡ e → (x ≡ stored m 0) × ((done : Medium) → then ≡ cond (is_ok x) done m)
  refused e d x fails passed same =
      let err : x ≡ Err e = passed ∙ ap (λ (y : Fault). Err y) same in
      let untouched : then ≡ now = after ∙ ap (λ (y : Result Unit Fault). cond (is_ok y) (wrote now k s) now) fails in
      let none : now ≡ m =
      ⊎_elim (λ (h : ltb i n ≡ true). never (w.begun (ltb-true i n h)) (sym answers ∙ fails))
      (λ (h : ltb i n ≡ false). w.after ∙ ap (λ (xs : List NumberedSector). written_over xs m) (from_none f n i (ltb-false i n h)))
      (cases_Bool (ltb i n)) in
      (err ∙ sym fails ∙ answers, λ done. untouched ∙ none ∙ ap (λ (y : Result Unit Fault). cond (is_ok y) done m) (sym err))

-- a row of writes that was done
pub record Done (xs : List NumberedSector) (m now : Medium) : Type 0 where
  pub begun : stored m 0 ≡ Ok tt
  pub after : now ≡ written_over xs m

pub first_done : (xs : List NumberedSector) (m now : Medium) (r : Result Unit Fault) → RowWritten xs m r now → r ≡ Ok tt → Done xs m now
first_done xs m now r w ok = record { begun = sym w.value ∙ ok; after = done_is (written_over xs m) m now r w.after ok }

-- the writes after it are done too
module _ (xs : List NumberedSector) (m now : Medium) (r : Result Unit Fault) (some : 0 < length m.sectors) (first : Done xs m now) (value : r ≡ stored now 0) where
  pub also_done : r ≡ Ok tt
  also_done = value ∙ ap (λ (x : Medium). stored x 0) first.after ∙ stored_same xs m 0 some ∙ first.begun

  pub also_written : (ys : List NumberedSector) (then : Medium) → then ≡ cond (is_ok r) (written_over ys now) now → Done (ys ++ xs) m then
  also_written ys then after =
      record {
        begun = first.begun;
        after =
            done_is (written_over ys now) now then r after also_done
            ∙ ap (λ (x : Medium). written_over ys x) first.after
            ∙ ap (λ (ss : Disk). record { sectors = ss; door = m.door; tab = m.tab }) (over_append ys xs m.sectors);
      }
