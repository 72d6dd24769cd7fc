-- The promise of ERASE, from what its code does.
use Rattle.std.proofs.Common.{◌≡◌, ℕ, ◌-◌, ◌<◌, Bool, true, false, cond, not, ◌&&◌, ◌||◌, eqb, ltb, List, [], ◌∷◌, map, length, get_or, is_some, Some, None, Ok, Err, Option, Result, sym, refl, ap, ◌∙◌, subst, ⊎_elim, arith}
use Rattle.std.proofs.lemmas.Bool.{cases_Bool, eqb-true, false≢true, lt-ltb, not-false}
use Rattle.device.specs.Device.{Medium}
use Rattle.device.specs.declared.fault.Code.TheVariants.{AlreadyOpen, BadName, FileNotFound, NotInitialized}
use Rattle.device.specs.declared.fault.Fault.{Fault}
use Rattle.device.specs.declared.reading.ReadingDevice.{Ghosts as Reading}
use Rattle.freespace.specs.declared.allocator.SectorAllocator.{Ghosts as Allocating}
use Rattle.freespace.specs.Sets.{with_number}
use Rattle.chains.specs.declared.lookup.Located.{Located}
use Rattle.chains.specs.declared.lookup.Lookup.{Lookup}
use Rattle.chains.specs.Layout.{Disk, Layout, Entry, fixed_sectors, formatted, member, overwritten}
use Rattle.chains.specs.Changes.{LaidOut, located, lookup_of}
use Rattle.chains.specs.Names.{legal}
use Rattle.chains.specs.Saving.{with_map}
use Rattle.chains.specs.Survey.{next}
use Rattle.chains.proofs.LaidOut.{below, usable_chain}
use Rattle.rules.specs.Effects.{with_places, saved, erased}
use Rattle.rules.specs.Laid.{Laid, Spares}
use Rattle.rules.specs.Matching.{Matches}
use Rattle.rules.specs.Model.{Model, Outcome, Check, Erase, any, done, door_check, has_name, present, request_check, tab_check, updated, without}
use Rattle.rules.specs.Runs.{Call, told}
use Rattle.rules.specs.Served.{outcome}
use Rattle.rules.proofs.Edited.{distinct_differ}
use Rattle.rules.proofs.ErasedFile.{cleared_laid_out, erased_places, erased_saved}
use Rattle.rules.proofs.FreedChain.{freed_chain, one_less}
use Rattle.rules.proofs.Lookups.{listed_at, located_present}
use Rattle.rules.proofs.Rearranging.{differ, held_found}
use Rattle.drive.specs.declared.answer.Answer.{Answer}
use Rattle.drive.specs.declared.drive.Drive.{Drive}
use Rattle.drive.specs.declared.units.KnownDisk.{KnownDisk}
use Rattle.drive.specs.Checks.{first_fault}
use Rattle.drive.specs.Erasing.{Erased, Finds, GivesBack, Knows, LeavesErased, Removes, TriesErasing, Unlists, after_look_up, before_look_up, erasable, found_or_fault, less_one, own_erasable, place_emptied}
use Rattle.drive.specs.Answers.{answer_of, done_answer, from_fault}
use Rattle.drive.specs.Known.{file_count, map_changed, without_file}
use Rattle.drive.specs.Serves.{Represents, Serving, ServesAlone, view, told_by}
use Rattle.drive.specs.Units.{any_named, unit_of}
use Rattle.drive.proofs.Formatting.{passed}
use Rattle.drive.proofs.Refusals.{by_fault, refusal_by_fault}
use Rattle.drive.proofs.Steps.{refused_by, served}

pub ok_same : {A : Type 0} {x y : A} → ◌≡◌ {A = Result A Fault} (Ok x) (Ok y) → x ≡ y
ok_same e = cc

pub never : {A : Type 0} {P : Type 0} {x : A} {f : Fault} → ◌≡◌ {A = Result A Fault} (Err f) (Ok x) → P
never e = absurd cc

-- ---- the sectors given back

also_free : (same was : Bool) → (same ≡ true → was ≡ true) → was ≡ (same || was)
also_free true was h = h refl
also_free false was h = refl

made_free : (same was : Bool) → cond same true was ≡ (same || was)
made_free true was = refl
made_free false was = refl

-- a number within the span is free once it was given, whether it was free before or not
given : (span n : ℕ) (was after : ℕ → Bool) (taken : Bool) → n < span → taken ≡ (ltb n span && not (was n)) → ((k : ℕ) → after k ≡ with_number taken n was k) → (k : ℕ) → after k ≡ (eqb k n || was k)
given span n was after taken within answer gives k =
    let by : after k ≡ with_number (not (was n)) n was k = gives k ∙ ap (λ (b : Bool). with_number b n was k) (answer ∙ ap (λ (b : Bool). b && not (was n)) (lt-ltb n span within)) in
    ⊎_elim
    (λ (h : was n ≡ true). by ∙ ap (λ (b : Bool). with_number (not b) n was k) h ∙ also_free (eqb k n) (was k) (λ e. ap was (eqb-true k n e) ∙ h))
    (λ (h : was n ≡ false). by ∙ ap (λ (b : Bool). with_number (not b) n was k) h ∙ made_free (eqb k n) (was k))
    (cases_Bool (was n))

-- the descriptor's sector, after those of the records
pub all_given : (ss : Disk) (l : Layout) (f : Entry) (p n span span' : ℕ) (was freed after : ℕ → Bool) (taken : Bool) → LaidOut l ss → get_or l.places p None ≡ Some f → f.at ≡ n →
    span ≡ l.size → span' ≡ span → ((k : ℕ) → freed k ≡ (was k || member k (map (λ q. q.at) f.records))) →
    taken ≡ (ltb n span' && not (freed n)) → ((k : ℕ) → after k ≡ with_number taken n freed k) →
    (k : ℕ) → after k ≡ (eqb k n || (was k || member k (map (λ q. q.at) f.records)))
all_given ss l f p n span span' was freed after taken laid there at size same records answer gives k =
    let inside : f.at < length ss = (below l ss laid f.at (usable_chain l ss laid f p there).0).1 in
    let within : n < span' = omega (arith, laid.size) in
    given span' n freed after taken within answer gives k ∙ ap (λ (b : Bool). eqb k n || b) (records k)

-- ---- the place emptied

-- a medium like this one shows the same layout, with its door closed and its tab off
pub record Writable (l : Layout) (m : Medium) : Type 0 where
  pub laid : LaidOut l m.sectors
  pub shut : m.door ≡ false
  pub off : m.tab ≡ false

pub writable_as : (l : Layout) (m m' : Medium) → m' ≡ m → LaidOut l m.sectors → m.door ≡ false → m.tab ≡ false → Writable l m'
writable_as l m m' same laid shut off = subst (Writable l) (sym same) (record { laid = laid; shut = shut; off = off })

-- ---- the whole removal: d before, k with the sectors given back, e in the end

pub removes_done : {D S : Type 0} (r : Reading D) (a : Allocating S) (x : Located) (d k e : Drive D S) (y : Result Unit Fault) →
    r.medium k.device ≡ r.medium d.device → k.state ≡ d.state → a.span k.allocator ≡ a.span d.allocator → GivesBack r a x d (Ok tt) k →
    e.allocator ≡ k.allocator → Unlists r a x.place k y e → Removes r a x d y e
unfolding with_map
removes_done {D} {S} r a x d k e y medium state span gives allocator unlists n l knows shut off seen =
    let m = r.medium d.device in
    let p = x.place in
    let s = listed_at n l.places p x.descriptor knows.laid.proper.distinct seen in
    let gone = erased_places l m.sectors knows.laid n p x.descriptor seen in
    let low : p < 96 = omega (arith, s.within, knows.laid.proper.places) in
    let back = (gives l s.file knows.laid shut s.entry s.at knows.span).1 in
    let free : Spares (with_places l (erased n l.places)) (a.member k.allocator) =
    subst (λ es. Spares (with_places l es) (a.member k.allocator)) (sym gone)
    (freed_chain l knows.laid.proper p s.file s.entry (a.member d.allocator) (a.member k.allocator) knows.spares
    (λ j. back j ∙ ap (λ q. eqb j q || (a.member d.allocator j || member j (map (λ q. q.at) s.file.records))) (sym s.at))) in
    let without_file = with_places l (erased n l.places) in
    let shown : LaidOut without_file (place_emptied l p m).sectors = cleared_laid_out l m.sectors knows.laid n p x.descriptor seen in
    let does =
    unlists l without_file (subst (λ (z : Medium). LaidOut l z.sectors) (sym medium) knows.laid) low (ap (λ (z : Medium). z.door) medium ∙ shut) (ap (λ (z : Medium). z.tab) medium ∙ off)
    (subst (λ (z : Medium). LaidOut without_file (place_emptied l p z).sectors) (sym medium) shown) free in
    let after : r.medium e.device ≡ with_map without_file (place_emptied l p m) = does.1 ∙ ap (λ (z : Medium). with_map without_file (place_emptied l p z)) medium in (
      does.0,
      record {
        sectors = ap (λ (z : Medium). z.sectors) after ∙ erased_saved l m.sectors knows.laid n p x.descriptor seen;
        door = ap (λ (z : Medium). z.door) after;
        tab = ap (λ (z : Medium). z.tab) after;
        spares = λ j. ap (λ (z : S). a.member z j) allocator ∙ free j;
        span = ap a.span allocator ∙ span;
        state = does.2 ∙ ap less_one state;
      },
    )

-- ---- the file to erase

-- the checks before the look-up were passed
first_passed : (i door : Bool) (n : List ℕ) → Ok tt ≡ first_fault (before_look_up i door n) → (i ≡ true) × (door ≡ false)
first_passed i door n e =
    let on = passed (not i) _ _ e in
    (not-false i on.0, (passed door _ _ on.1).0)

-- a look-up on the disk of d, and the refusals after it
module _ {D S : Type 0} (r : Reading D) (n : List ℕ) (d : Drive D S) (device : D) (same : r.medium device ≡ r.medium d.device)
    (first : Ok tt ≡ first_fault (before_look_up (is_some d.state.disk) (r.medium d.device).door n)) (lookup : Result Lookup Fault)
    (looks : (l : Layout) → LaidOut l (r.medium d.device).sectors → (r.medium d.device).door ≡ false → lookup ≡ Ok (lookup_of n l.places)) where
  abbrev looked : Drive D S
  looked = record { device = device; allocator = d.allocator; state = d.state }

  abbrev last_refusal : Bool → Located → Result Located Fault
  last_refusal tab x = next (first_fault (after_look_up (any_named n d.state.units) tab)) (λ _. Ok x)

  -- what is answered once the directory has given this
  abbrev after_found : Result Lookup Fault → Result Located Fault
  after_found y = next y (λ z. next (found_or_fault z.file) (last_refusal (r.medium device).tab))

  finds_by : (x : Result Located Fault) → x ≡ after_found lookup → Finds r n d x looked
  finds_by x is =
      record {
        same = record { medium = same; allocator = refl; state = refl };
        found = λ l laid.
            let on = first_passed (is_some d.state.disk) (r.medium d.device).door n first in
            is
            ∙ (ap after_found (looks l (laid on.0) on.1)
            ∙ (ap (λ (m : Medium). next (found_or_fault (located n 0 l.places)) (last_refusal m.tab)) same
            ∙ ap (λ y. next y (λ _. next (found_or_fault (located n 0 l.places)) (last_refusal (r.medium d.device).tab))) first));
      }

  pub finds_unread : (x : Result Located Fault) (f : Fault) → x ≡ Err f → lookup ≡ Err f → Finds r n d x looked
  finds_unread x f is was = finds_by x (is ∙ ap after_found (sym was))

  -- what the directory gave is y, and what is answered then is x
  pub finds_then : (z : Lookup) (y x : Result Located Fault) → lookup ≡ Ok z → y ≡ found_or_fault z.file → x ≡ next y (last_refusal (r.medium device).tab) → Finds r n d x looked
  finds_then z y x was found is = finds_by x (is ∙ (ap (λ w. next w (last_refusal (r.medium device).tab)) found ∙ ap after_found (sym was)))

-- ---- all of it: d before, k after the file was found, e in the end

next_ok : {A B : Type 0} {x : B} (y : Result A Fault) (k : A → Result B Fault) → Ok x ≡ next y k → (z : A) × (y ≡ Ok z) × (Ok x ≡ k z)
next_ok (Ok z) k e = (z, refl, e)
next_ok (Err f) k e = absurd cc

record MayErase (on open_door : Bool) (o : Option Located) (tab_on : Bool) (x : Located) : Type 0 where
  initialized : on ≡ true
  door : open_door ≡ false
  located : o ≡ Some x
  tab : tab_on ≡ false

was_found : (o : Option Located) (z : Located) → found_or_fault o ≡ Ok z → o ≡ Some z
was_found None z e = never e
was_found (Some y) z e = ap Some (ok_same e)

may_erase : (i door : Bool) (n : List ℕ) (o : Option Located) (held tab : Bool) (x : Located) → Ok x ≡ erasable i door n o held tab → MayErase i door o tab x
may_erase i door n o held tab x e =
    let one = next_ok (first_fault (before_look_up i door n)) _ e in
    let two = next_ok (found_or_fault o) _ one.2 in
    let three = next_ok (first_fault (after_look_up held tab)) _ two.2 in
    let first = first_passed i door n (sym one.1) in
    record {
      initialized = first.0;
      door = first.1;
      located = was_found o two.0 two.1 ∙ ap Some (sym (ok_same three.2));
      tab = (passed tab _ _ (passed held _ _ (sym three.1)).1).0;
    }

module _ {D S : Type 0} (r : Reading D) (a : Allocating S) (n : List ℕ) (d k : Drive D S) where
  pub tries_refused : (y : Result Unit Fault) (f : Fault) → y ≡ Err f → Finds r n d (Err f) k → TriesErasing r a n d y k
  tries_refused y f is finds l knows = record {
    answer = is ∙ ap (λ z. next z (λ _. Ok tt)) (finds.found l (λ on. (knows on).laid));
    leaves = subst (λ z. LeavesErased r a n l d z k) (sym is) finds.same;
  }

  pub tries_done : (x : Located) (e : Drive D S) (y : Result Unit Fault) → Finds r n d (Ok x) k → Removes r a x k y e → TriesErasing r a n d y e
  tries_done x e y finds removes l knows =
      let m = r.medium d.device in
      let same = finds.same in
      let answer = finds.found l (λ on. (knows on).laid) in
      let may = may_erase (is_some d.state.disk) m.door n (located n 0 l.places) (any_named n d.state.units) m.tab x answer in
      let known = knows may.initialized in
      let does =
      removes n l
      (record {
        laid = subst (λ (z : Medium). LaidOut l z.sectors) (sym same.medium) known.laid;
        spares = subst (λ (z : S). Spares l (a.member z)) (sym same.allocator) known.spares;
        span = ap a.span same.allocator ∙ known.span;
      })
      (ap (λ (z : Medium). z.door) same.medium ∙ may.door) (ap (λ (z : Medium). z.tab) same.medium ∙ may.tab) may.located in
      let gone = does.1 in
      record {
        answer = does.0 ∙ ap (λ z. next z (λ _. Ok tt)) answer;
        leaves = subst (λ z. LeavesErased r a n l d z e) (sym does.0)
            (record {
              sectors = gone.sectors ∙ ap (λ (z : Medium). overwritten (fixed_sectors (saved (with_places l (erased n l.places)))) z.sectors) same.medium;
              door = gone.door ∙ ap (λ (z : Medium). z.door) same.medium;
              tab = gone.tab ∙ ap (λ (z : Medium). z.tab) same.medium;
              spares = gone.spares;
              span = gone.span ∙ ap a.span same.allocator;
              state = gone.state ∙ ap less_one same.state;
            });
      }

-- ---- the model's checks

abbrev erase_checks : Bool → Bool → Bool → Bool → Bool → Bool → List Check
erase_checks on door is_legal here held tab =
    request_check (not on) NotInitialized ∷ door_check door ∷ request_check (not is_legal) BadName ∷ request_check (not here) FileNotFound ∷ request_check held AlreadyOpen ∷ tab_check tab ∷ []

-- the refusals before the look-up, by it and after it are the model's list
checks_in_order : (on door is_legal : Bool) (o : Option Located) (held tab : Bool) →
    next
    (next (first_fault (request_check (not on) NotInitialized ∷ door_check door ∷ request_check (not is_legal) BadName ∷ []))
    (λ _. next (found_or_fault o) (λ x. next (first_fault (after_look_up held tab)) (λ _. Ok x))))
    (λ _. Ok tt)
    ≡ first_fault (erase_checks on door is_legal (is_some o) held tab)
checks_in_order false door is_legal o held tab = refl
checks_in_order true true is_legal o held tab = refl
checks_in_order true false false o held tab = refl
checks_in_order true false true None held tab = refl
checks_in_order true false true (Some x) true tab = refl
checks_in_order true false true (Some x) false true = refl
checks_in_order true false true (Some x) false false = refl

-- a drive that is not initialised is refused before anything else is asked
only_if_on : (on door is_legal here here' held tab : Bool) → (on ≡ true → here ≡ here') → first_fault (erase_checks on door is_legal here held tab) ≡ first_fault (erase_checks on door is_legal here' held tab)
only_if_on true door is_legal here here' held tab e = ap (λ h. first_fault (erase_checks true door is_legal h held tab)) (e refl)
only_if_on false door is_legal here here' held tab e = refl

-- ---- what the drive knows once the file is gone

record LosesOne (o : Option KnownDisk) : Type 0 where
  known : is_some (without_file o) ≡ is_some o
  saved : map_changed (without_file o) ≡ false
  fewer : file_count (without_file o) ≡ file_count o - 1

loses_one : (o : Option KnownDisk) → LosesOne o
loses_one None = record { known = refl; saved = refl; fewer = refl }
loses_one (Some k) = record { known = refl; saved = refl; fewer = refl }

-- ---- the promise

module _ {D S : Type 0} (r : Reading D) (a : Allocating S) (n : List ℕ) (d e : Drive D S) (buf : List ℕ) (b : Model) (rep : Represents r a b d) where
  abbrev call : Call
  call = record { request = Erase n; buffer = buf }

  abbrev o : Outcome
  o = outcome b (view r a d) call

  abbrev gone : Outcome
  gone = done (updated b false (without n b.files) b.units) buf 0

  abbrev model_checks : List Check
  model_checks = erase_checks b.initialized b.door (legal n) (present b n) (any (has_name n) b.units) b.tab

  -- the layout of the drive's disk, by the model
  known : (l : Layout) → (b.initialized ≡ true → Laid b l (r.medium d.device).sectors × Spares l (a.member d.allocator)) → is_some d.state.disk ≡ true → Knows r a d l
  known l laid on =
      let is_on = sym rep.tallies.initialized ∙ on in
      let own = laid is_on in
      record {
        laid = record { proper = own.0.follows.matches.proper; size = own.0.size; shows = own.0.shows };
        spares = own.1;
        span = rep.span is_on ∙ sym own.0.follows.matches.size;
      }

  same_checks : (l : Layout) → (b.initialized ≡ true → Laid b l (r.medium d.device).sectors × Spares l (a.member d.allocator)) → next (own_erasable r n d l) (λ _. Ok tt) ≡ first_fault model_checks
  same_checks l laid =
      let m = r.medium d.device in
      let v = rep.tallies in
      let found = located n 0 l.places in
      checks_in_order (is_some d.state.disk) m.door (legal n) found (any_named n d.state.units) m.tab
      ∙ ((λ i. first_fault (erase_checks (v.initialized i) (v.door i) (legal n) (is_some found) (any (has_name n) (v.units i)) (v.tab i)))
      ∙ only_if_on b.initialized b.door (legal n) (is_some found) (present b n) (any (has_name n) b.units) b.tab (λ on. located_present b l n (laid on).0.follows.matches))

  -- some layout: the disk's own, once the drive is initialised
  some_layout : (on : Bool) → b.initialized ≡ on → (l : Layout) × (b.initialized ≡ true → Laid b l (r.medium d.device).sectors × Spares l (a.member d.allocator))
  some_layout true is = let own = rep.tallies.laid is in (own.0, λ _. (own.1, own.2))
  some_layout false is = (formatted [] 0, λ on. absurd (false≢true (sym is ∙ on)))

  answered_as : (y : Result Unit Fault) → TriesErasing r a n d y e → y ≡ first_fault model_checks
  answered_as y does =
      let own = some_layout b.initialized refl in
      (does own.0 (known own.0 own.1)).answer ∙ same_checks own.0 own.1

  erase_refused : (f : Fault) (ans : Answer) → TriesErasing r a n d (Err f) e → ans ≡ from_fault f → Serving r a b call d (told_by ans [] buf) e
  erase_refused f ans does is =
      let own = some_layout b.initialized refl in
      let same = (does own.0 (known own.0 own.1)).leaves in
      refused_by r a b call d e rep (λ i. absurd cc) model_checks gone f ans (refusal_by_fault b buf model_checks gone) (sym (answered_as (Err f) does)) is
      same.medium (λ k. ap (λ s. a.member s k) same.allocator) (ap a.span same.allocator) same.state

  -- the model is initialised and has the file, where nothing refuses
  accepted_then : Ok tt ≡ first_fault model_checks → (b.initialized ≡ true) × (present b n ≡ true)
  accepted_then ok =
      let on = passed (not b.initialized) _ _ ok in
      let named = passed (not (legal n)) _ _ (passed b.door _ _ on.1).1 in
      (not-false b.initialized on.0, not-false (present b n) (passed (not (present b n)) _ _ named.1).0)

  files_left : (l : Layout) → Matches b l → present b n ≡ true → length b.files - 1 ≡ length (without n b.files)
  files_left l m here =
      let less = one_less n b.files (differ m.files (distinct_differ l.places m.proper.distinct)) (sym (held_found n b.files) ∙ here) in
      omega arith

  erase_done : (ans : Answer) → TriesErasing r a n d (Ok tt) e → ans ≡ done_answer → Serving r a b call d (told_by ans [] buf) e
  erase_done ans does is =
      let v = rep.tallies in
      let ok = answered_as (Ok tt) does in
      let lost = loses_one d.state.disk in
      let done_is : o ≡ gone = refusal_by_fault b buf model_checks gone ∙ ap (by_fault b buf gone) (sym ok) in
      let there = accepted_then ok in
      let own = v.laid there.0 in
      let after : Erased r a n own.0 d e = (does own.0 (known own.0 (λ _. (own.1, own.2)))).leaves in
      served r a b call d e (told_by ans [] buf) rep (λ i. absurd cc)
      (ap told done_is ∙ ap (λ x. told_by x [] buf) (sym is))
      (record {
        door = after.door ∙ (v.door ∙ sym (ap (λ x. x.after.door) done_is));
        tab = after.tab ∙ (v.tab ∙ sym (ap (λ x. x.after.tab) done_is));
        units = ap (λ s. map unit_of s.units) after.state ∙ (v.units ∙ sym (ap (λ x. x.after.units) done_is));
        initialized = ap (λ s. is_some s.disk) after.state ∙ (lost.known ∙ (v.initialized ∙ sym (ap (λ x. x.after.initialized) done_is)));
        map_changed = ap (λ s. map_changed s.disk) after.state ∙ (lost.saved ∙ sym (ap (λ x. x.after.changed) done_is));
        untouched = λ refused. absurd (false≢true (sym (ap (λ x. x.refused) done_is) ∙ refused));
        still_free = λ refused _. absurd (false≢true (sym (ap (λ x. x.refused) done_is) ∙ refused));
        changed = λ _ l laid _.
            let left : Erased r a n l d e = (does l (known l laid)).leaves in
            record {
              taken = [];
              count = sym (ap (λ x. x.added) done_is);
              given = record { were_free = tt; distinct = tt };
              written = left.sectors;
              spares = λ _. left.spares;
            };
      })
      (ap (λ s. file_count s.disk) after.state ∙ (lost.fewer ∙ (ap (λ k. k - 1) rep.files ∙ (files_left own.0 own.1.follows.matches there.1 ∙ sym (ap (λ x. length x.after.files) done_is)))))
      (λ _. after.span ∙ (rep.span there.0 ∙ sym (ap (λ x. x.after.size) done_is)))

pub erase_promise : {D S : Type 0} (r : Reading D) (a : Allocating S) (n : List ℕ) (d e : Drive D S) (y : Result Unit Fault) (ans : Answer) → TriesErasing r a n d y e → ans ≡ answer_of y → ServesAlone r a (Erase n) d ans [] e
erase_promise r a n d e (Ok u) ans does is buf b rep = erase_done r a n d e buf b rep ans does is
erase_promise r a n d e (Err f) ans does is buf b rep = erase_refused r a n d e buf b rep f ans does is
