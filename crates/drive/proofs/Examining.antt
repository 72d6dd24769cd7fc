-- What EXAMINE answers, from what its code does.
use Rattle.std.proofs.Common.{◌≡◌, ℕ, Bool, true, false, not, [], length, Ok, Err, Result, sym, refl, ap, ◌∙◌, subst}
use Rattle.std.proofs.lemmas.Bool.{not-false}
use Rattle.device.specs.Codes.{layer_number}
use Rattle.device.specs.Device.{Medium}
use Rattle.device.specs.declared.fault.Fault.{Fault}
use Rattle.chains.specs.declared.survey.Survey.{Survey}
use Rattle.chains.specs.Layout.{Layout, sized}
use Rattle.chains.specs.Reading.{Found, fault, read, reading}
use Rattle.chains.specs.Scans.{DiskRead, Shows}
use Rattle.chains.specs.Survey.{Tells}
use Rattle.rules.specs.Model.{Model, Outcome, new_model, read_in}
use Rattle.rules.specs.Runs.{as_reading, examined, told}
use Rattle.drive.specs.declared.answer.Answer.{Answer}
use Rattle.drive.specs.Answers.{answer_of}
use Rattle.drive.specs.Checks.{first_fault, initialize_checks}
use Rattle.drive.specs.Parts.{Examines, SameFault}
use Rattle.drive.specs.Serves.{told_by}
use Rattle.drive.proofs.Formatting.{passed}
use Rattle.drive.proofs.Refusals.{by_fault, refusal_by_fault, no_sector}

module _ (m : Medium) where
  abbrev b : Model
  b = new_model (length m.sectors) m.door true

  abbrev checks : Result Unit Fault
  checks = first_fault (initialize_checks false m.door (length m.sectors))

  abbrev found : Found Layout → Outcome
  found z = read_in b (as_reading z) []

  examined_is : examined m ≡ told (by_fault b [] (found (reading m.sectors)) checks)
  examined_is = ap told (refusal_by_fault b [] (initialize_checks false m.door (length m.sectors)) (found (reading m.sectors)))

  -- the same fault, or none
  shown : (z : Found Layout) (x : Result Unit Fault) → SameFault z x → told_by (answer_of x) [] [] ≡ told (found z)
  shown (fault c n) (Ok u) none = absurd none
  shown (fault c n) (Err f) same = λ i. record {
    code = same.0 i;
    len = 0;
    layer = layer_number (same.1 i);
    sector = same.2 i;
    numbers = [];
    buffer = [];
  }
  shown (read l) (Ok u) same = refl
  shown (read l) (Err f) none = absurd none

  module _ (x : Result Unit Fault) (does : Examines m x) where
    by : (y : Result Unit Fault) → checks ≡ y → told_by (answer_of x) [] [] ≡ examined m
    by (Ok u) ok = shown (reading m.sectors) x (does.found ok) ∙ (sym (ap (λ y. told (by_fault b [] (found (reading m.sectors)) y)) ok) ∙ sym examined_is)
    by (Err f) err =
        ap (λ y. told_by (answer_of y) [] []) (does.refused f err)
        ∙ (ap (λ n. told_by (record { code = f.code; length = 0; layer = f.layer; sector = n }) [] []) (no_sector (initialize_checks false m.door (length m.sectors)) f err)
        ∙ (sym (ap (λ y. told (by_fault b [] (found (reading m.sectors)) y)) err) ∙ sym examined_is))

  pub examined_by : (x : Result Unit Fault) (ans : Answer) → Examines m x → ans ≡ answer_of x → told_by ans [] [] ≡ examined m
  examined_by x ans does is = ap (λ y. told_by y [] []) is ∙ by x does checks refl

-- what was refused before the disk was read
pub examines_refused : (m : Medium) (x : Result Unit Fault) (f : Fault) → x ≡ Err f → Err f ≡ first_fault (initialize_checks false m.door (length m.sectors)) → Examines m x
examines_refused m x f is e = record {
  refused = λ g h. is ∙ (e ∙ h);
  found = λ h. absurd cc;
}

-- what else an answer holds does not matter
tells_done : (z : Found Layout) (y : Survey) → Tells Shows z (Ok y) → SameFault z (Ok tt)
tells_done (fault c n) y none = absurd none
tells_done (read l) y same = tt

tells_fault : (z : Found Layout) (f : Fault) → Tells Shows z (Err f) → SameFault z (Err f)
tells_fault (fault c n) f same = same
tells_fault (read l) f none = absurd none

-- the checks of a disk that is read
pub readable : (busy door : Bool) (size : ℕ) → Ok tt ≡ first_fault (initialize_checks busy door size) → (door ≡ false) × (sized size ≡ true)
readable busy door size e =
    let rest = passed door _ _ (passed busy _ _ e).1 in
    (rest.0, not-false (sized size) (passed (not (sized size)) _ _ rest.1).0)

module _ (m : Medium) (ok : Ok tt ≡ first_fault (initialize_checks false m.door (length m.sectors))) where
  pub examines_sound : (s : Survey) → DiskRead m (Ok s) → Examines m (Ok tt)
  examines_sound s does =
      let fit = readable false m.door (length m.sectors) ok in
      record {
        refused = λ g h. ok ∙ h;
        found = λ _. tells_done (reading m.sectors) s (does.found fit.1 fit.0);
      }

  pub examines_fault : (x : Result Unit Fault) (f : Fault) → x ≡ Err f → DiskRead m (Err f) → Examines m x
  examines_fault x f is does =
      let fit = readable false m.door (length m.sectors) ok in
      record {
        refused = λ g h. absurd cc;
        found = λ _. subst (SameFault (reading m.sectors)) (sym is) (tells_fault (reading m.sectors) f (does.found fit.1 fit.0));
      }
