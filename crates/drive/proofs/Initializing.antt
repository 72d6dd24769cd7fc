-- The promise of INITIALIZE, from what its code does.
use Rattle.std.proofs.Common.{◌≡◌, ℕ, suc, Bool, true, false, cond, not, ◌&&◌, ltb, leb, List, [], ◌∷◌, map, length, is_some, Some, None, Ok, Err, Option, Result, sym, refl, ap, ◌∙◌, subst}
use Rattle.std.specs.List.{AllByRecursion}
use Rattle.std.proofs.lemmas.Bool.{false≢true}
use Rattle.device.specs.Codes.{layer_number}
use Rattle.device.specs.Device.{Medium, WellFormed}
use Rattle.device.specs.declared.fault.Fault.{Fault}
use Rattle.device.specs.declared.reading.ReadingDevice.{Ghosts as Reading}
use Rattle.freespace.specs.declared.allocator.SectorAllocator.{Ghosts as Allocating}
use Rattle.chains.specs.Layout.{Layout, Entry, reserved, sized, member, numbers, chains}
use Rattle.chains.specs.Reading.{Found, fault, read, reading}
use Rattle.chains.specs.Scans.{DiskRead, Shows}
use Rattle.chains.specs.Sound.{entries}
use Rattle.chains.specs.Survey.{Tells}
use Rattle.chains.specs.declared.survey.Survey.{Survey}
use Rattle.rules.specs.Model.{Model, Outcome, Initialize, any, done, started, some_open, read_in, faulty}
use Rattle.rules.specs.Laid.{Laid, Spares}
use Rattle.rules.specs.Runs.{Call, as_reading, files_in, told}
use Rattle.rules.specs.Served.{ReadsOnlySound, outcome}
use Rattle.rules.proofs.Laying.{closed_sound, takes_sound}
use Rattle.rules.proofs.OnlySound.{only}
use Rattle.rules.proofs.Rearranging.{as_long}
use Rattle.drive.specs.declared.answer.Answer.{Answer}
use Rattle.drive.specs.declared.drive.Drive.{Drive}
use Rattle.drive.specs.declared.units.KnownDisk.{KnownDisk}
use Rattle.drive.specs.declared.units.State.{State}
use Rattle.drive.specs.Answers.{answer_of, done_answer, from_fault}
use Rattle.drive.specs.Checks.{first_fault, initialize_checks}
use Rattle.drive.specs.Known.{file_count, map_changed}
use Rattle.drive.specs.Parts.{Initializes, ReadsIn, TakesOver, TurnsAway, forgotten, own_initialize_checks, started_state}
use Rattle.drive.specs.Serves.{Represents, Serving, ServesAlone, view, told_by}
use Rattle.drive.specs.Units.{any_open, is_open, unit_of}
use Rattle.drive.proofs.Examining.{readable}
use Rattle.drive.proofs.Formatting.{passed}
use Rattle.drive.proofs.Refusals.{by_fault, refusal_by_fault}
use Rattle.drive.proofs.Steps.{refused_by, served, turned_down}

read_same : {A : Type 0} {x y : A} → ◌≡◌ {A = Found A} (read x) (read y) → x ≡ y
read_same e = cc

-- as many files as entries
as_many : (es : List (Option Entry)) → length (files_in es) ≡ length (entries es)
as_many [] = refl
as_many (None ∷ es) = as_many es
as_many (Some f ∷ es) = ap suc (as_many es)

-- a drive that knew nothing of its disk forgets nothing
unknown_forgotten : (s : State) → is_some s.disk ≡ false → forgotten s ≡ s
unknown_forgotten s off = ap (λ o. record s { disk = o }) (nothing s.disk off)
  where
    nothing : (o : Option KnownDisk) → is_some o ≡ false → None ≡ o
    nothing None e = refl
    nothing (Some k) e = absurd (false≢true (sym e))

-- what was refused before the disk was read
pub initializes_refused : {D S : Type 0} (r : Reading D) (a : Allocating S) (d : Drive D S) (x : Result Unit Fault) (f : Fault) → AllByRecursion WellFormed (r.medium d.device).sectors → x ≡ Err f → Err f ≡ first_fault (own_initialize_checks r d) → Initializes r a d x d
initializes_refused r a d x f whole is e = record {
  whole = whole;
  medium = refl;
  refused = λ g h. (is ∙ (e ∙ h), refl, refl);
  found = λ h. absurd cc;
}

-- what the code's steps add up to: d before the disk is read, k after, e in the end
module _ {D S : Type 0} (r : Reading D) (a : Allocating S) (d k e : Drive D S) (same : r.medium k.device ≡ r.medium d.device) (allocator : k.allocator ≡ d.allocator) (state : k.state ≡ d.state) where
  reads_in : (z : Found Layout) (x : Result Unit Fault) → ReadsIn r a k z x e → ReadsIn r a d z x e
  reads_in (fault c n) (Ok u) none = none
  reads_in (fault c n) (Err f) away = record {
    code = away.code;
    layer = away.layer;
    sector = away.sector;
    allocator = away.allocator ∙ allocator;
    state = away.state ∙ ap forgotten state;
  }
  reads_in (read l) (Err f) none = none
  reads_in (read l) (Ok u) takes = record {
    free = λ n. takes.free n ∙ ap (λ m. leb reserved n && (ltb n (length m.sectors) && not (member n (numbers (chains l.places))))) same;
    span = takes.span ∙ ap (λ m. length m.sectors) same;
    state = takes.state ∙ ap (started_state (length (entries l.places))) state;
  }

  pub initializes_done : (x : Result Unit Fault) (s : Result Survey Fault) → AllByRecursion WellFormed (r.medium d.device).sectors → Ok tt ≡ first_fault (own_initialize_checks r d) → DiskRead (r.medium d.device) s →
      e.device ≡ k.device → ((z : Found Layout) → sized (length (r.medium k.device).sectors) ≡ true → Tells Shows z s → ReadsIn r a k z x e) → Initializes r a d x e
  initializes_done x s whole ok does device takes =
      let m = r.medium d.device in
      let fit = readable (any_open d.state.units) m.door (length m.sectors) ok in
      record {
        whole = whole;
        medium = ap r.medium device ∙ same;
        refused = λ g h. absurd cc;
        found = λ _. reads_in (reading m.sectors) x (takes (reading m.sectors) (ap (λ (m : Medium). sized (length m.sectors)) same ∙ fit.1) (does.found fit.1 fit.0));
      }

module _ {D S : Type 0} (r : Reading D) (a : Allocating S) (d e : Drive D S) (buf : List ℕ) (b : Model) (rep : Represents r a b d) where
  abbrev m : Medium
  m = r.medium d.device

  abbrev call : Call
  call = record { request = Initialize; buffer = buf }

  -- what comes once the checks are passed
  abbrev after_checks : Outcome
  after_checks = cond b.initialized (done (started b b.files) buf 0) (read_in b (as_reading (reading m.sectors)) buf)

  same_checks : initialize_checks (some_open b) b.door b.size ≡ own_initialize_checks r d
  same_checks =
      let v = rep.tallies in
      sym (λ i. initialize_checks (any is_open (v.units i)) (v.door i) (v.size i))

  outcome_is : outcome b (view r a d) call ≡ by_fault b buf after_checks (first_fault (own_initialize_checks r d))
  outcome_is =
      refusal_by_fault b buf (initialize_checks (some_open b) b.door b.size) after_checks
      ∙ ap (λ cs. by_fault b buf after_checks (first_fault cs)) same_checks

  abbrev o : Outcome
  o = outcome b (view r a d) call

  -- D6, C2 or E5: nothing is touched
  checked : (f : Fault) (ans : Answer) → ReadsOnlySound m.sectors → first_fault (own_initialize_checks r d) ≡ Err f → ans ≡ from_fault f →
      r.medium e.device ≡ m → e.allocator ≡ d.allocator → e.state ≡ d.state → Serving r a b call d (told_by ans [] buf) e
  checked f ans reads err is medium allocator state =
      refused_by r a b call d e rep (λ _. reads) (own_initialize_checks r d) after_checks f ans outcome_is err is medium (λ n. ap (λ s. a.member s n) allocator) (ap a.span allocator) state

  -- the disk was taken: its layout is l, and the model's files are as many
  taken : (ans : Answer) (l : Layout) (b' : Model) → ReadsOnlySound m.sectors → ans ≡ done_answer → r.medium e.device ≡ m → TakesOver r a d l e →
      o ≡ done b' buf 0 → b'.door ≡ b.door → b'.tab ≡ b.tab → b'.units ≡ b.units → b'.initialized ≡ true → b'.changed ≡ false → b'.size ≡ b.size →
      length (entries l.places) ≡ length b'.files →
      ((k : Layout) → (b.initialized ≡ true → Laid b k m.sectors × Spares k (a.member d.allocator)) → (b.initialized ≡ false → reading m.sectors ≡ read k) → (k ≡ l) × (k.size ≡ b.size)) →
      Serving r a b call d (told_by ans [] buf) e
  taken ans l b' reads is medium takes done_is door tab units on clean size many same =
      let v = rep.tallies in
      served r a b call d e (told_by ans [] buf) rep (λ _. reads)
      (ap told done_is ∙ ap (λ x. told_by x [] buf) (sym is))
      (record {
        door = ap (λ x. x.door) medium ∙ (v.door ∙ sym (ap (λ x. x.after.door) done_is ∙ door));
        tab = ap (λ x. x.tab) medium ∙ (v.tab ∙ sym (ap (λ x. x.after.tab) done_is ∙ tab));
        units = ap (λ s. map unit_of s.units) takes.state ∙ (v.units ∙ sym (ap (λ x. x.after.units) done_is ∙ units));
        initialized = ap (λ s. is_some s.disk) takes.state ∙ sym (ap (λ x. x.after.initialized) done_is ∙ on);
        map_changed = ap (λ s. map_changed s.disk) takes.state ∙ sym (ap (λ x. x.after.changed) done_is ∙ clean);
        untouched = λ _. ap (λ x. x.sectors) medium;
        still_free = λ refused _. absurd (false≢true (sym (ap (λ x. x.refused) done_is) ∙ refused));
        changed = λ _ k laid found.
            let k_is = same k laid (λ f. found f refl) in
            record {
              taken = [];
              count = sym (ap (λ x. x.added) done_is);
              given = record { were_free = tt; distinct = tt };
              written = ap (λ x. x.sectors) medium;
              spares = λ _ n.
                  takes.free n
                  ∙ (ap (λ s. leb reserved n && (ltb n s && not (member n (numbers (chains l.places))))) (v.size ∙ sym k_is.1)
                  ∙ ap (λ (x : Layout). leb reserved n && (ltb n k.size && not (member n (numbers (chains x.places))))) (sym k_is.0));
            };
      })
      (ap (λ s. file_count s.disk) takes.state ∙ (many ∙ sym (ap (λ x. length x.after.files) done_is)))
      (λ _. takes.span ∙ (v.size ∙ sym (ap (λ x. x.after.size) done_is ∙ size)))

  -- a fault in reading: nothing is known of the disk, and nothing was before
  turned_away : (f : Fault) (c n : ℕ) (ans : Answer) → ReadsOnlySound m.sectors → ans ≡ from_fault f → r.medium e.device ≡ m → TurnsAway d c n f e →
      b.initialized ≡ false → o ≡ read_in b (faulty c n) buf → Serving r a b call d (told_by ans [] buf) e
  turned_away f c n ans reads is medium away off fault_is =
      let v = rep.tallies in
      let same : e.state ≡ d.state = away.state ∙ unknown_forgotten d.state (v.initialized ∙ off) in
      let shown : told_by ans [] buf ≡ told (read_in b (faulty c n) buf) = ap (λ x. told_by x [] buf) is ∙ (λ i. record {
        code = away.code i;
        len = 0;
        layer = layer_number (away.layer i);
        sector = away.sector i;
        numbers = [];
        buffer = buf;
      }) in
      turned_down r a b call d e (told_by ans [] buf) rep (λ _. reads) (ap told fault_is ∙ sym shown) (ap (λ x. x.refused) fault_is) medium (λ k. ap (λ s. a.member s k) away.allocator) (ap a.span away.allocator) same

  module _ (x : Result Unit Fault) (ans : Answer) (is : ans ≡ answer_of x) (does : Initializes r a d x e) where
    reads : ReadsOnlySound m.sectors
    reads = only m.sectors does.whole

    -- the checks were passed
    module _ (ok : first_fault (own_initialize_checks r d) ≡ Ok tt) where
      outcome_then : o ≡ after_checks
      outcome_then = outcome_is ∙ ap (by_fault b buf after_checks) ok

      closed : some_open b ≡ false
      closed = sym (ap (any is_open) rep.tallies.units) ∙ (passed (any_open d.state.units) _ _ (sym ok)).0

      fits : sized (length m.sectors) ≡ true
      fits = (readable (any_open d.state.units) m.door (length m.sectors) (sym ok)).1

      -- a drive that is initialised reads its own files again
      again : (l : Layout) → b.initialized ≡ true → Laid b l m.sectors → (y : Result Unit Fault) → ans ≡ answer_of y → ReadsIn r a d (read l) y e → Serving r a b call d (told_by ans [] buf) e
      again l on laid (Err f) is none = absurd none
      again l on laid (Ok u) is takes =
          taken ans l (started b b.files) reads is does.medium takes
          (outcome_then ∙ ap (λ i. cond i (done (started b b.files) buf 0) (read_in b (as_reading (reading m.sectors)) buf)) on)
          refl refl refl refl refl refl
          (sym (as_many l.places) ∙ as_long laid.follows.matches.files)
          (λ k own _. let other = (own on).0 in (
            read_same (sym (takes_sound k m.sectors (closed_sound b k m.sectors other closed)) ∙ takes_sound l m.sectors (closed_sound b l m.sectors laid closed)),
            other.follows.matches.size,
          ))

      -- a drive that is not initialised takes what is read
      first_time : b.initialized ≡ false → (z : Found Layout) → reading m.sectors ≡ z → (y : Result Unit Fault) → ans ≡ answer_of y → ReadsIn r a d z y e → Serving r a b call d (told_by ans [] buf) e
      first_time off (fault c n) e_is (Ok u) is none = absurd none
      first_time off (fault c n) e_is (Err f) is away =
          turned_away f c n ans reads is does.medium away off (outcome_then ∙ (ap (λ i. cond i (done (started b b.files) buf 0) (read_in b (as_reading (reading m.sectors)) buf)) off ∙ ap (λ z. read_in b (as_reading z) buf) e_is))
      first_time off (read l) e_is (Err f) is none = absurd none
      first_time off (read l) e_is (Ok u) is takes =
          taken ans l (started b (files_in l.places)) reads is does.medium takes
          (outcome_then ∙ (ap (λ i. cond i (done (started b b.files) buf 0) (read_in b (as_reading (reading m.sectors)) buf)) off ∙ ap (λ z. read_in b (as_reading z) buf) e_is))
          refl refl refl refl refl refl
          (sym (as_many l.places))
          (λ k _ found. let k_read = found off in (read_same (sym k_read ∙ e_is), sym (reads k fits k_read).size ∙ rep.tallies.size))

      read_then : (i : Bool) → b.initialized ≡ i → Serving r a b call d (told_by ans [] buf) e
      read_then true on =
          let laid = rep.tallies.laid on in
          let l = laid.0 in
          again l on laid.1 x is (subst (λ z. ReadsIn r a d z x e) (takes_sound l m.sectors (closed_sound b l m.sectors laid.1 closed)) (does.found ok))
      read_then false off = first_time off (reading m.sectors) refl x is (does.found ok)

    serving : (y : Result Unit Fault) → first_fault (own_initialize_checks r d) ≡ y → Serving r a b call d (told_by ans [] buf) e
    serving (Err f) err =
        let same = does.refused f err in
        checked f ans reads err (is ∙ ap answer_of same.0) does.medium same.1 same.2
    serving (Ok u) ok = read_then ok b.initialized refl

pub initialize_promise : {D S : Type 0} (r : Reading D) (a : Allocating S) (d e : Drive D S) (x : Result Unit Fault) (ans : Answer) → Initializes r a d x e → ans ≡ answer_of x → ServesAlone r a Initialize d ans [] e
initialize_promise r a d e x ans does is buf b rep =
    serving r a d e buf b rep x ans is does (first_fault (own_initialize_checks r d)) refl
