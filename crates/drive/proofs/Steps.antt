-- From what one call did to the drive's parts to the call's promise.
use Rattle.std.proofs.Common.{◌≡◌, ℕ, Bool, true, false, List, [], length, Err, is_some, None, unwrap_or, sym, ap, ◌∙◌, subst}
use Rattle.std.proofs.lemmas.Bool.{false≢true}
use Rattle.device.specs.declared.fault.Fault.{Fault}
use Rattle.device.specs.declared.reading.ReadingDevice.{Ghosts as Reading}
use Rattle.freespace.specs.declared.allocator.SectorAllocator.{Ghosts as Allocating}
use Rattle.chains.specs.Layout.{Layout}
use Rattle.rules.specs.Model.{Model, Outcome, Check, Initialize}
use Rattle.rules.specs.Effects.{layout_after}
use Rattle.rules.specs.Laid.{Laid, Spares}
use Rattle.rules.specs.Runs.{View, Call, Told, DiskAfter, told, supplied_by}
use Rattle.rules.specs.Served.{Effect, ReadsOnlySound, Served, outcome}
use Rattle.rules.proofs.Refused.{refusal_keeps}
use Rattle.rules.proofs.Serving.{serving_steps}
use Rattle.drive.specs.declared.answer.Answer.{Answer}
use Rattle.drive.specs.declared.drive.Drive.{Drive}
use Rattle.drive.specs.Answers.{from_fault}
use Rattle.drive.specs.Checks.{first_fault}
use Rattle.drive.specs.Known.{file_count, map_changed}
use Rattle.drive.specs.Serves.{Represents, Serving, view, told_by}
use Rattle.drive.proofs.Refusals.{by_fault, no_sector}

pub both : (x : Bool) → x ≡ true → x ≡ false → ⊥
both x t f = false≢true (sym f ∙ t)

-- a call that is not refused and writes no sector
pub record Idle (b : Model) (v : View) (q : Call) (v' : View) : Type 0 where
  pub sectors : v'.sectors ≡ v.sectors
  pub free : (n : ℕ) → v'.free n ≡ v.free n
  pub initialized : (outcome b v q).after.initialized ≡ b.initialized
  pub added : (outcome b v q).added ≡ 0
  pub none : (l : Layout) → layout_after l b q.request q.buffer [] ≡ None

pub idle_effect : (b : Model) (v : View) (q : Call) (v' : View) → Idle b v q v' → (l : Layout) → (b.initialized ≡ true → Laid b l v.sectors × Spares l v.free) → Effect b v q v' l
idle_effect b v q v' i l laid = record {
  taken = [];
  count = sym i.added;
  given = record { were_free = tt; distinct = tt };
  written = subst (λ o. DiskAfter v.sectors o v'.sectors) (sym (i.none l)) i.sectors;
  spares = λ t. subst (λ o. Spares (unwrap_or o l) v'.free) (sym (i.none l)) (λ n. i.free n ∙ (laid (sym i.initialized ∙ t)).1 n);
}

module _ {D S : Type 0} (r : Reading D) (a : Allocating S) (b : Model) (q : Call) (d e : Drive D S) (t : Told)
    (rep : Represents r a b d) (before : q.request ≡ Initialize → ReadsOnlySound (view r a d).sectors) (answered : told (outcome b (view r a d) q) ≡ t) where
  abbrev o : Outcome
  o = outcome b (view r a d) q

  pub served : Served b (view r a d) q (view r a e) → file_count e.state.disk ≡ length o.after.files → (o.after.initialized ≡ true → a.span e.allocator ≡ o.after.size) → Serving r a b q d t e
  served s files span =
      let n = serving_steps b (view r a d) q (view r a e) before rep.tallies s in
      record { answered = answered; step = n.step; represents = record { tallies = n.tallies; files = files; span = span } }

  -- a refusal, with nothing touched
  pub turned_down : o.refused ≡ true → r.medium e.device ≡ r.medium d.device → ((n : ℕ) → a.member e.allocator n ≡ a.member d.allocator n) → a.span e.allocator ≡ a.span d.allocator → e.state ≡ d.state → Serving r a b q d t e
  turned_down refused medium free span state =
      let keeps = refusal_keeps b (supplied_by (view r a d).sectors) q.request q.buffer refused in
      let v = rep.tallies in
      served
      (record {
        door = ap (λ m. m.door) medium ∙ (v.door ∙ sym (ap (λ x. x.door) keeps));
        tab = ap (λ m. m.tab) medium ∙ (v.tab ∙ sym (ap (λ x. x.tab) keeps));
        units = ap (λ s. (view r a (record { device = d.device; allocator = d.allocator; state = s })).units) state ∙ (v.units ∙ sym (ap (λ x. x.units) keeps));
        initialized = ap (λ s. is_some s.disk) state ∙ (v.initialized ∙ sym (ap (λ x. x.initialized) keeps));
        map_changed = ap (λ s. map_changed s.disk) state ∙ (v.map_changed ∙ sym (ap (λ x. x.changed) keeps));
        untouched = λ _. ap (λ m. m.sectors) medium;
        still_free = λ _ _. free;
        changed = λ accepted. absurd (both o.refused refused accepted);
      })
      (ap (λ s. file_count s.disk) state ∙ (rep.files ∙ sym (ap (λ x. length x.files) keeps)))
      (λ i. span ∙ (rep.span (sym (ap (λ x. x.initialized) keeps) ∙ i) ∙ sym (ap (λ x. x.size) keeps)))

-- a refusal by the first check that applies, with nothing touched
pub refused_by : {D S : Type 0} (r : Reading D) (a : Allocating S) (b : Model) (q : Call) (d e : Drive D S) → Represents r a b d → (q.request ≡ Initialize → ReadsOnlySound (view r a d).sectors) →
    (cs : List Check) (accepted : Outcome) (f : Fault) (ans : Answer) → outcome b (view r a d) q ≡ by_fault b q.buffer accepted (first_fault cs) → first_fault cs ≡ Err f → ans ≡ from_fault f →
    r.medium e.device ≡ r.medium d.device → ((n : ℕ) → a.member e.allocator n ≡ a.member d.allocator n) → a.span e.allocator ≡ a.span d.allocator → e.state ≡ d.state →
    Serving r a b q d (told_by ans [] q.buffer) e
refused_by r a b q d e rep before cs accepted f ans outcome_is err is medium free span state =
    let refusal_is = outcome_is ∙ ap (by_fault b q.buffer accepted) err in
    turned_down r a b q d e (told_by ans [] q.buffer) rep before
    (ap told refusal_is
    ∙ (ap (λ n. told_by (record { code = f.code; length = 0; layer = f.layer; sector = n }) [] q.buffer) (sym (no_sector cs f err)) ∙ ap (λ x. told_by x [] q.buffer) (sym is)))
    (ap (λ x. x.refused) refusal_is) medium free span state
