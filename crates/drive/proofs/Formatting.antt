-- The promise of FORMAT, from what its code does.
use Rattle.std.proofs.Common.{◌≡◌, ℕ, Bool, true, false, cond, ◌&&◌, ltb, leb, List, [], map, length, is_some, Ok, Err, Result, sym, refl, ap, ◌∙◌}
use Rattle.std.proofs.lemmas.Bool.{false≢true}
use Rattle.device.specs.Device.{Medium}
use Rattle.device.specs.declared.fault.Fault.{Fault}
use Rattle.device.specs.declared.reading.ReadingDevice.{Ghosts as Reading}
use Rattle.freespace.specs.declared.allocator.SectorAllocator.{Ghosts as Allocating}
use Rattle.chains.specs.Layout.{Disk, formatted, reserved, overwritten, fixed_sectors}
use Rattle.chains.specs.Formatting.{formatted_disk}
use Rattle.rules.specs.Model.{Model, Check, Format, any, done, started, some_open}
use Rattle.rules.specs.Laid.{Spares}
use Rattle.rules.specs.Runs.{Call, told}
use Rattle.rules.specs.Served.{outcome}
use Rattle.drive.specs.declared.answer.Answer.{Answer}
use Rattle.drive.specs.declared.drive.Drive.{Drive}
use Rattle.drive.specs.Checks.{first_fault, format_checks}
use Rattle.drive.specs.Answers.{answer_of, done_answer, from_fault}
use Rattle.drive.specs.Known.{file_count, map_changed}
use Rattle.drive.specs.Parts.{Formats, own_checks}
use Rattle.drive.specs.Serves.{Represents, ServesAlone, view, told_by}
use Rattle.drive.specs.Units.{is_open, unit_of}
use Rattle.drive.proofs.Refusals.{by_fault, refusal_by_fault}
use Rattle.drive.proofs.Steps.{refused_by, served}

written_over : (id : List ℕ) (ss : Disk) (s : ℕ) → length ss ≡ s → formatted_disk id ss ≡ overwritten (fixed_sectors (formatted id s)) ss
unfolding formatted_disk
written_over id ss s e = ap (λ n. overwritten (fixed_sectors (formatted id n)) ss) e

and_true : (x y : Bool) → x && y ≡ x && (y && true)
and_true true true = refl
and_true true false = refl
and_true false y = refl

-- a check that was passed, and those after it
pub passed : (x : Bool) (f : Fault) (rest : Result Unit Fault) → Ok tt ≡ cond x (Err f) rest → (x ≡ false) × (Ok tt ≡ rest)
passed true f rest e = absurd cc
passed false f rest e = (refl, e)

module _ {D S : Type 0} (r : Reading D) (a : Allocating S) (d : Drive D S) (id : List ℕ) where
  abbrev m : Medium
  m = r.medium d.device

  abbrev checks : List Check
  checks = own_checks r d id

  abbrev call : List ℕ → Call
  call buf = record { request = Format id; buffer = buf }

  same_checks : (b : Model) → Represents r a b d → format_checks (some_open b) b.door b.tab b.size id ≡ checks
  same_checks b rep =
      let v = rep.tallies in
      sym (λ i. format_checks (any is_open (v.units i)) (v.door i) (v.tab i) (v.size i) id)

  outcome_is : (buf : List ℕ) (b : Model) → Represents r a b d → outcome b (view r a d) (call buf) ≡ by_fault b buf (done (started b []) buf 0) (first_fault checks)
  outcome_is buf b rep =
      refusal_by_fault b buf (format_checks (some_open b) b.door b.tab b.size id) (done (started b []) buf 0)
      ∙ ap (λ cs. by_fault b buf (done (started b []) buf 0) (first_fault cs)) (same_checks b rep)

  refused : (e : Drive D S) (f : Fault) (ans : Answer) → Formats r a id d (Err f) e → ans ≡ from_fault f → ServesAlone r a (Format id) d ans [] e
  refused e f ans does is buf b rep =
      refused_by r a b (call buf) d e rep (λ i. absurd cc) checks (done (started b []) buf 0) f ans (outcome_is buf b rep) (sym does.answer) is does.medium does.free does.span does.state

  accepted : (e : Drive D S) (ans : Answer) → Formats r a id d (Ok tt) e → ans ≡ done_answer → ServesAlone r a (Format id) d ans [] e
  accepted e ans does is buf b rep =
      let ok = sym does.answer in
      let medium = does.medium in
      let state = does.state in
      let v = rep.tallies in
      let o : outcome b (view r a d) (call buf) ≡ done (started b []) buf 0 = outcome_is buf b rep ∙ ap (by_fault b buf (done (started b []) buf 0)) ok in
      let over : (r.medium e.device).sectors ≡ overwritten (fixed_sectors (formatted id b.size)) m.sectors = ap (λ x. x.sectors) medium ∙ written_over id m.sectors b.size v.size in
      let spare : Spares (formatted id b.size) (a.member e.allocator) = λ n. does.free n ∙ (ap (λ s. leb reserved n && ltb n s) v.size ∙ and_true (leb reserved n) (ltb n b.size)) in
      served r a b (call buf) d e (told_by ans [] buf) rep (λ i. absurd cc)
      (ap told o ∙ ap (λ x. told_by x [] buf) (sym is))
      (record {
        door = ap (λ x. x.door) medium ∙ (v.door ∙ sym (ap (λ x. x.after.door) o));
        tab = ap (λ x. x.tab) medium ∙ (v.tab ∙ sym (ap (λ x. x.after.tab) o));
        units = ap (λ s. map unit_of s.units) state ∙ (v.units ∙ sym (ap (λ x. x.after.units) o));
        initialized = ap (λ s. is_some s.disk) state ∙ sym (ap (λ x. x.after.initialized) o);
        map_changed = ap (λ s. map_changed s.disk) state ∙ sym (ap (λ x. x.after.changed) o);
        untouched = λ refused. absurd (false≢true (sym (ap (λ x. x.refused) o) ∙ refused));
        still_free = λ refused _. absurd (false≢true (sym (ap (λ x. x.refused) o) ∙ refused));
        changed = λ _ l _ _. record { taken = []; count = sym (ap (λ x. x.added) o); given = record { were_free = tt; distinct = tt }; written = over; spares = λ _. spare };
      })
      (ap (λ s. file_count s.disk) state ∙ sym (ap (λ x. length x.after.files) o))
      (λ _. does.span ∙ (v.size ∙ sym (ap (λ x. x.after.size) o)))

  pub format_promise : (e : Drive D S) (x : Result Unit Fault) (ans : Answer) → Formats r a id d x e → ans ≡ answer_of x → ServesAlone r a (Format id) d ans [] e
  format_promise e (Err f) ans does is buf b rep = refused e f ans does is buf b rep
  format_promise e (Ok u) ans does is buf b rep = accepted e ans does is buf b rep
