-- The promises of a new drive, of DOOR, TAB and STATUS, from what the code does.
use Rattle.std.proofs.Common.{◌≡◌, ℕ, ◌-◌, Bool, true, false, cond, List, [], ◌∷◌, map, length, replicate, is_some, Some, None, Ok, Err, Option, sym, refl, ap, ◌∙◌, subst}
use Rattle.std.proofs.lemmas.Bool.{false≢true}
use Rattle.std.specs.Option.{ok_or, option_map}
use Rattle.device.specs.declared.reading.ReadingDevice.{Ghosts as Reading}
use Rattle.device.specs.Codes.{code_number, layer_number}
use Rattle.device.specs.Device.{Medium}
use Rattle.device.specs.Device as device
use Rattle.device.specs.declared.fault.Code.TheVariants as code
use Rattle.device.specs.declared.fault.Fault.{Fault}
use Rattle.device.specs.declared.fault.Layer.TheVariants as layer
use Rattle.freespace.specs.declared.allocator.SectorAllocator.{Ghosts as Allocating}
use Rattle.freespace.specs.Sets.{counted}
use Rattle.chains.specs.Layout.{Layout}
use Rattle.rules.specs.Model.{Model, Outcome, Request, Initialize, Door, Tab, Status, closed, done, free_count, with_door, with_tab}
use Rattle.rules.specs.Effects.{layout_after}
use Rattle.rules.specs.Runs.{told}
use Rattle.rules.specs.Served.{ReadsOnlySound, outcome}
use Rattle.rules.proofs.Laying.{laid_agrees, starts_laid}
use Rattle.drive.specs.declared.answer.Answer.{Answer}
use Rattle.drive.specs.declared.drive.Drive.{Drive}
use Rattle.drive.specs.declared.request.Usage.{Usage}
use Rattle.drive.specs.declared.units.KnownDisk.{KnownDisk}
use Rattle.drive.specs.Checks.{plain_fault}
use Rattle.drive.specs.Exchanges.{Fresh}
use Rattle.drive.specs.Answers.{done_answer, from_fault}
use Rattle.drive.specs.Known.{file_count, map_changed}
use Rattle.drive.specs.Parts.{Sets, own_usage}
use Rattle.drive.specs.Serves.{Represents, Serving, ServesAlone, view, told_by}
use Rattle.drive.specs.Units.{unit_of}
use Rattle.drive.proofs.Steps.{idle_effect, served, turned_down}

-- the two outcomes of STATUS
abbrev usage : Model → List ℕ → Outcome
usage b buf = record { code = code_number code.Done; len = 0; layer = layer_number layer.None; sector = 0xFFFF; numbers = free_count b ∷ (b.size - free_count b) ∷ length b.files ∷ []; buffer = buf; after = b; refused = false; added = 0 }

abbrev unknown : Model → List ℕ → Outcome
unknown b buf = record { code = code_number code.NotInitialized; len = 0; layer = layer_number layer.Request; sector = 0xFFFF; numbers = 0 ∷ 0 ∷ 0 ∷ []; buffer = buf; after = b; refused = true; added = 0 }

-- a new drive
pub fresh_drive : {D S : Type 0} (r : Reading D) (a : Allocating S) (d : Drive D S) → d.state.disk ≡ None → map unit_of d.state.units ≡ replicate 16 closed → Fresh r a d.device d.allocator d
fresh_drive r a d unknown closed_all =
    let m = r.medium d.device in
    record {
      seen = λ i. record {
        sectors = m.sectors;
        door = m.door;
        tab = m.tab;
        free = a.member d.allocator;
        units = closed_all i;
        initialized = is_some (unknown i);
        changed = map_changed (unknown i);
      };
      represents = record {
        tallies = record {
          door = refl;
          tab = refl;
          units = closed_all;
          initialized = ap is_some unknown;
          map_changed = ap map_changed unknown;
          size = refl;
          orderly = starts_laid.new _ _ _;
          laid = λ i. absurd (false≢true i);
        };
        files = ap file_count unknown;
        span = λ i. absurd (false≢true i);
      };
    }

module _ {D S : Type 0} (r : Reading D) (a : Allocating S) (d : Drive D S) where
  -- a call that sets door and tab to these, and does nothing else
  settled : (q : Request) (m : Medium) (ans : Answer) (e : Drive D S) (buf : List ℕ) (b : Model) (door tab : Bool) →
      Sets r m d ans e → Represents r a b d → (q ≡ Initialize → ReadsOnlySound (view r a d).sectors) →
      outcome b (view r a d) (record { request = q; buffer = buf }) ≡ done (with_tab (with_door b door) tab) buf 0 →
      ((l : Layout) → layout_after l b q buf [] ≡ None) →
      m.sectors ≡ (r.medium d.device).sectors → m.door ≡ door → m.tab ≡ tab →
      Serving r a b (record { request = q; buffer = buf }) d (told_by ans [] buf) e
  settled q m ans e buf b door tab does rep before o none sectors door_is tab_is =
      let v = rep.tallies in
      let same : (r.medium e.device).sectors ≡ (r.medium d.device).sectors = ap (λ y. y.sectors) does.medium ∙ sectors in
      let free : (n : ℕ) → a.member e.allocator n ≡ a.member d.allocator n = λ n. ap (λ s. a.member s n) does.allocator in
      served r a b (record { request = q; buffer = buf }) d e (told_by ans [] buf) rep before
      (ap told o ∙ ap (λ y. told_by y [] buf) (sym does.answer))
      (record {
        door = ap (λ y. y.door) does.medium ∙ (door_is ∙ sym (ap (λ y. y.after.door) o));
        tab = ap (λ y. y.tab) does.medium ∙ (tab_is ∙ sym (ap (λ y. y.after.tab) o));
        units = ap (λ s. map unit_of s.units) does.state ∙ (v.units ∙ sym (ap (λ y. y.after.units) o));
        initialized = ap (λ s. is_some s.disk) does.state ∙ (v.initialized ∙ sym (ap (λ y. y.after.initialized) o));
        map_changed = ap (λ s. map_changed s.disk) does.state ∙ (v.map_changed ∙ sym (ap (λ y. y.after.changed) o));
        untouched = λ _. same;
        still_free = λ _ _. free;
        changed = λ _ l laid _. idle_effect b (view r a d) (record { request = q; buffer = buf }) (view r a e)
            (record { sectors = same; free = free; initialized = ap (λ y. y.after.initialized) o; added = ap (λ y. y.added) o; none = none }) l laid;
      })
      (ap (λ s. file_count s.disk) does.state ∙ (rep.files ∙ sym (ap (λ y. length y.after.files) o)))
      (λ i. ap a.span does.allocator ∙ (rep.span (sym (ap (λ y. y.after.initialized) o) ∙ i) ∙ sym (ap (λ y. y.after.size) o)))

  pub door_serves : (x : Bool) (ans : Answer) (e : Drive D S) → Sets r (device.with_door (r.medium d.device) x) d ans e → ServesAlone r a (Door x) d ans [] e
  door_serves x ans e does buf b rep =
      settled (Door x) _ ans e buf b x b.tab does rep (λ i. absurd cc) refl (λ _. refl) refl refl rep.tallies.tab

  pub tab_serves : (x : Bool) (ans : Answer) (e : Drive D S) → Sets r (device.with_tab (r.medium d.device) x) d ans e → ServesAlone r a (Tab x) d ans [] e
  tab_serves x ans e does buf b rep =
      settled (Tab x) _ ans e buf b b.door x does rep (λ i. absurd cc) refl (λ _. refl) refl rep.tallies.door refl

  status_refused : (ans : Answer) → ans ≡ from_fault (plain_fault code.NotInitialized layer.Request) → is_some d.state.disk ≡ false → ServesAlone r a Status d ans (0 ∷ 0 ∷ 0 ∷ []) d
  status_refused ans e off buf b rep =
      let f : b.initialized ≡ false = sym rep.tallies.initialized ∙ off in
      let is : outcome b (view r a d) (record { request = Status; buffer = buf }) ≡ unknown b buf = ap (λ i. cond i (usage b buf) (unknown b buf)) f in
      turned_down r a b (record { request = Status; buffer = buf }) d d (told_by ans (0 ∷ 0 ∷ 0 ∷ []) buf) rep
      (λ i. absurd cc) (ap told is ∙ ap (λ y. told_by y (0 ∷ 0 ∷ 0 ∷ []) buf) (sym e))
      (ap (λ o. o.refused) is) refl (λ n. refl) refl refl

  abbrev free : ℕ
  free = counted (a.member d.allocator) (a.span d.allocator)

  abbrev own : ℕ → Usage
  own files = record { free = free; used = length (r.medium d.device).sectors - free; files = files }

  status_done : (k : KnownDisk) (ans : Answer) → ans ≡ done_answer → d.state.disk ≡ Some k → ServesAlone r a Status d ans (free ∷ (length (r.medium d.device).sectors - free) ∷ k.files ∷ []) d
  status_done k ans e known buf b rep =
      let v = rep.tallies in
      let t : b.initialized ≡ true = sym v.initialized ∙ ap is_some known in
      let is : outcome b (view r a d) (record { request = Status; buffer = buf }) ≡ usage b buf = ap (λ i. cond i (usage b buf) (unknown b buf)) t in
      let laid = v.laid t in
      let counts = (laid_agrees b laid.0 (view r a d).sectors (view r a d).free laid.1 laid.2).counts in
      let free_is : free ≡ free_count b = ap (counted (a.member d.allocator)) (rep.span t ∙ sym v.size) ∙ counts in
      let used_is : length (r.medium d.device).sectors - free ≡ b.size - free_count b = ap (λ n. n - free) v.size ∙ ap (λ n. b.size - n) free_is in
      let files_is : k.files ≡ length b.files = sym (ap file_count known) ∙ rep.files in
      served r a b (record { request = Status; buffer = buf }) d d (told_by ans (free ∷ (length (r.medium d.device).sectors - free) ∷ k.files ∷ []) buf) rep
      (λ i. absurd cc)
      (ap told is ∙ sym (λ i. told_by (e i) (free_is i ∷ used_is i ∷ files_is i ∷ []) buf))
      (record {
        door = v.door ∙ sym (ap (λ o. o.after.door) is);
        tab = v.tab ∙ sym (ap (λ o. o.after.tab) is);
        units = v.units ∙ sym (ap (λ o. o.after.units) is);
        initialized = v.initialized ∙ sym (ap (λ o. o.after.initialized) is);
        map_changed = v.map_changed ∙ sym (ap (λ o. o.after.changed) is);
        untouched = λ _. refl;
        still_free = λ _ _ n. refl;
        changed = λ _ l laid _. idle_effect b (view r a d) (record { request = Status; buffer = buf }) (view r a d)
            (record { sectors = refl; free = λ n. refl; initialized = ap (λ o. o.after.initialized) is; added = ap (λ o. o.added) is; none = λ _. refl }) l laid;
      })
      (rep.files ∙ sym (ap (λ o. length o.after.files) is)) (λ i. rep.span t ∙ sym (ap (λ o. o.after.size) is))

  -- by what the drive's own numbers are
  pub status_serves : (u : Usage) (ans : Answer) → Ok u ≡ own_usage r a d → ans ≡ done_answer → ServesAlone r a Status d ans (u.free ∷ u.used ∷ u.files ∷ []) d
  status_serves u ans is e = by d.state.disk refl is
    where
      by : (o : Option KnownDisk) → d.state.disk ≡ o → Ok u ≡ ok_or (option_map (λ k. own k.files) o) (plain_fault code.NotInitialized layer.Request) → ServesAlone r a Status d ans (u.free ∷ u.used ∷ u.files ∷ []) d
      by (Some k) known h = let same : own k.files ≡ u = cc in subst (λ (w : Usage). ServesAlone r a Status d ans (w.free ∷ w.used ∷ w.files ∷ []) d) same (status_done k ans e known)
      by None off h = absurd cc

  pub status_unknown : (f : Fault) (u : Usage) (ans : Answer) → Err f ≡ own_usage r a d → (u.free ≡ 0) × ((u.used ≡ 0) × (u.files ≡ 0)) → ans ≡ from_fault f → ServesAlone r a Status d ans (u.free ∷ u.used ∷ u.files ∷ []) d
  status_unknown f u ans is zeros e =
      let same : u.free ∷ u.used ∷ u.files ∷ [] ≡ 0 ∷ 0 ∷ 0 ∷ [] = cc in
      subst (λ ns. ServesAlone r a Status d ans ns d) (sym same) (by d.state.disk refl is)
    where
      by : (o : Option KnownDisk) → d.state.disk ≡ o → Err f ≡ ok_or (option_map (λ k. own k.files) o) (plain_fault code.NotInitialized layer.Request) → ServesAlone r a Status d ans (0 ∷ 0 ∷ 0 ∷ []) d
      by (Some k) known h = absurd cc
      by None off h = let same : f ≡ plain_fault code.NotInitialized layer.Request = cc in status_refused ans (e ∙ ap from_fault same) (ap is_some off)
