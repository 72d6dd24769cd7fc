-- A call served is a step of a run, and the next one can follow.
use Rattle.std.proofs.Common.{◌≡◌, ℕ, Bool, true, false, List, [], length, Some, None, Option, unwrap_or, sym, refl, ap, ◌∙◌, subst, arith}
use Rattle.std.proofs.lemmas.Bool.{both_ways, not-false}
use Rattle.std.proofs.lemmas.Bool.Decides.{nat_tests}
use Rattle.device.specs.Codes.{code_number, layer_number}
use Rattle.device.specs.declared.fault.Code.TheVariants.{Done}
use Rattle.device.specs.declared.fault.Layer.TheVariants.{Structure}
use Rattle.chains.specs.Layout.{Disk, Layout, sized, formatted, fixed_sectors}
use Rattle.chains.specs.Sound.{Sound}
use Rattle.chains.specs.Reading.{Found, fault, read, reading, parse_layout}
use Rattle.rules.specs.Model.{Model, faulty, sound, Request, Format, Initialize, Door, Tab, Status, Open, Close, Rewind, Read, Write, WriteCurrent, Delete, ReadCurrent, ReadPrevious, SkipForward, SkipBackward, Erase, response}
use Rattle.rules.specs.Effects.{layout_after}
use Rattle.rules.specs.Laid.{Laid}
use Rattle.rules.specs.Runs.{View, Call, DiskAfter, as_reading, supplied_by, files_in}
use Rattle.rules.specs.Served.{Tallies, Effect, Served, ReadsOnlySound, ServingSteps, outcome, first_reading}
use Rattle.rules.proofs.Accepted.{leaves_initialize}
use Rattle.rules.proofs.Orders.{stays_orderly}
use Rattle.rules.proofs.Refused.{refusal_keeps, refusal_bare}
use Rattle.rules.proofs.Faulting.{Coded, reading_coded, NotDone, done_taken, sound_taken}
use Rattle.chains.proofs.Over.{length_over}
use Rattle.rules.proofs.Survey.{survey_read}
use Rattle.rules.proofs.Reopening.{taken_unused}
use Rattle.rules.proofs.Laying.{stays_laid, starts_laid, laid_agrees, closed_reopens, closed_sound, takes_sound}
use Rattle.rules.proofs.Same.{size_kept, stays_initialized, same_door, same_tab, same_status, same_open, same_close, same_rewind, same_read, same_write, same_write_current, same_delete, same_read_current, same_read_previous, same_skip_forward, same_skip_backward, same_erase}

length_relaid : (ss ss' : Disk) (r : Option Layout) → DiskAfter ss r ss' → length ss' ≡ length ss
length_relaid ss ss' None h = ap length h
length_relaid ss ss' (Some d) h = ap length h ∙ length_over (fixed_sectors d) ss

-- a call not refused, and the layout that it leaves
record Got (b : Model) (v : View) (q : Call) (v' : View) : Type 0 where
  layout : Layout
  surveyed : b.initialized ≡ true → parse_layout v.sectors ≡ read layout
  effect : Effect b v q v' layout
  laid : (outcome b v q).after.initialized ≡ true → Laid (outcome b v q).after (unwrap_or (layout_after layout b q.request q.buffer effect.taken) layout) v'.sectors

faulty_refused : (b : Model) (buf : List ℕ) (c n : ℕ) → b.initialized ≡ false → (response b (record { reading = faulty c n }) Initialize buf).refused ≡ true
faulty_refused b buf c n f = grind (arith, nat_tests)

module _ (b : Model) (v v' : View) (t : Tallies b v) where
  going_on : (q : Call) → Served b v q v' → (outcome b v q).refused ≡ false → b.initialized ≡ true → Got b v q v'
  going_on q s r i =
      let l = t.laid i in
      let d = l.0 in
      let e = s.changed r d (λ _. (l.1, l.2)) (λ f _. absurd (both_ways b.initialized f i)) in
      record {
        layout = d;
        surveyed = λ _. survey_read d v.sectors l.1.follows.matches.proper l.1.size l.1.shows;
        effect = e;
        laid = λ _. stays_laid b d v.sectors v'.sectors (supplied_by v.sectors) q.request q.buffer e.taken i l.1 r e.count (taken_unused d v.free e.taken l.2 e.given) e.written;
      }

  -- before the first FORMAT or INITIALIZE
  module _ (f : b.initialized ≡ false) where
    idle : (q : Call) → Served b v q v' → (outcome b v q).refused ≡ false → first_reading q.request ≡ false → (outcome b v q).after.initialized ≡ b.initialized → Got b v q v'
    idle q s r no_reading e =
        let d = formatted [] 0 in
        record {
          layout = d;
          surveyed = λ i. absurd (both_ways b.initialized f i);
          effect = s.changed r d (λ i. absurd (both_ways b.initialized f i)) (λ _ h. absurd (both_ways (first_reading q.request) no_reading h));
          laid = λ i. absurd (both_ways (outcome b v q).after.initialized (e ∙ f) i);
        }

    by_format : (id buf : List ℕ) → Served b v (record { request = Format id; buffer = buf }) v' → (outcome b v (record { request = Format id; buffer = buf })).refused ≡ false → Got b v (record { request = Format id; buffer = buf }) v'
    by_format id buf s r =
        let d = formatted [] 0 in
        let e = s.changed r d (λ i. absurd (both_ways b.initialized f i)) (λ _ h. absurd (both_ways false refl h)) in
        record {
          layout = d;
          surveyed = λ i. absurd (both_ways b.initialized f i);
          effect = e;
          laid = λ _. starts_laid.format b d v.sectors v'.sectors (supplied_by v.sectors) id buf e.taken t.orderly t.size r e.written;
        }

    by_reading : ReadsOnlySound v.sectors → (buf : List ℕ) → Served b v (record { request = Initialize; buffer = buf }) v' → (outcome b v (record { request = Initialize; buffer = buf })).refused ≡ false →
        (x : Found Layout) → reading v.sectors ≡ x → Got b v (record { request = Initialize; buffer = buf }) v'
    by_reading reads buf s r (fault c n) e =
        let told : supplied_by v.sectors ≡ record { reading = faulty c n } = ap (λ x. record { reading = as_reading x }) e in
        absurd (both_ways (outcome b v (record { request = Initialize; buffer = buf })).refused r (ap (λ z. (response b z Initialize buf).refused) told ∙ faulty_refused b buf c n f))
    by_reading reads buf s r (read d) e =
        let told : supplied_by v.sectors ≡ record { reading = sound (files_in d.places) } = ap (λ x. record { reading = as_reading x }) e in
        let eff = s.changed r d (λ i. absurd (both_ways b.initialized f i)) (λ _ _. e) in
        let there : v'.sectors ≡ v.sectors = eff.written in
        let big : sized (length v.sectors) ≡ true = ap sized t.size ∙ not-false (sized b.size) (leaves_initialize b buf (supplied_by v.sectors) r).checked.1.1.0 in
        record {
          layout = d;
          surveyed = λ i. absurd (both_ways b.initialized f i);
          effect = eff;
          laid = λ _.
              subst (λ z. Laid (response b z Initialize buf).after d v'.sectors) (sym told)
              (subst (Laid (response b (record { reading = sound (files_in d.places) }) Initialize buf).after d) (sym there)
              (starts_laid.initialize b d v.sectors buf t.orderly f t.size (reads d big e) (sym (ap (λ z. (response b z Initialize buf).refused) told) ∙ r)));
        }

    starting : (q : Request) → (q ≡ Initialize → ReadsOnlySound v.sectors) → (buf : List ℕ) → Served b v (record { request = q; buffer = buf }) v' → (outcome b v (record { request = q; buffer = buf })).refused ≡ false → Got b v (record { request = q; buffer = buf }) v'
    starting (Format id) reads buf s r = by_format id buf s r
    starting Initialize reads buf s r = by_reading (reads refl) buf s r (reading v.sectors) refl
    starting (Door x) reads buf s r = idle (record { request = (Door x); buffer = buf }) s r refl (same_door b buf (supplied_by v.sectors) x).initialized
    starting (Tab x) reads buf s r = idle (record { request = (Tab x); buffer = buf }) s r refl (same_tab b buf (supplied_by v.sectors) x).initialized
    starting Status reads buf s r = idle (record { request = Status; buffer = buf }) s r refl (same_status b buf (supplied_by v.sectors)).initialized
    starting (Open u n k) reads buf s r = idle (record { request = (Open u n k); buffer = buf }) s r refl (same_open b buf (supplied_by v.sectors) u n k).initialized
    starting (Close u) reads buf s r = idle (record { request = (Close u); buffer = buf }) s r refl (same_close b buf (supplied_by v.sectors) u).initialized
    starting (Rewind u) reads buf s r = idle (record { request = (Rewind u); buffer = buf }) s r refl (same_rewind b buf (supplied_by v.sectors) u).initialized
    starting (Read u n) reads buf s r = idle (record { request = (Read u n); buffer = buf }) s r refl (same_read b buf (supplied_by v.sectors) u n).initialized
    starting (Write u n) reads buf s r = idle (record { request = (Write u n); buffer = buf }) s r refl (same_write b buf (supplied_by v.sectors) u n).initialized
    starting (WriteCurrent u) reads buf s r = idle (record { request = (WriteCurrent u); buffer = buf }) s r refl (same_write_current b buf (supplied_by v.sectors) u).initialized
    starting (Delete u n) reads buf s r = idle (record { request = (Delete u n); buffer = buf }) s r refl (same_delete b buf (supplied_by v.sectors) u n).initialized
    starting (ReadCurrent u) reads buf s r = idle (record { request = (ReadCurrent u); buffer = buf }) s r refl (same_read_current b buf (supplied_by v.sectors) u).initialized
    starting (ReadPrevious u) reads buf s r = idle (record { request = (ReadPrevious u); buffer = buf }) s r refl (same_read_previous b buf (supplied_by v.sectors) u).initialized
    starting (SkipForward u n) reads buf s r = idle (record { request = (SkipForward u n); buffer = buf }) s r refl (same_skip_forward b buf (supplied_by v.sectors) u n).initialized
    starting (SkipBackward u n) reads buf s r = idle (record { request = (SkipBackward u n); buffer = buf }) s r refl (same_skip_backward b buf (supplied_by v.sectors) u n).initialized
    starting (Erase n) reads buf s r = idle (record { request = (Erase n); buffer = buf }) s r refl (same_erase b buf (supplied_by v.sectors) n).initialized

  got : (q : Call) → (q.request ≡ Initialize → ReadsOnlySound v.sectors) → Served b v q v' → (outcome b v q).refused ≡ false → Got b v q v'
  got q reads s r = by b.initialized refl
    where
      by : (i : Bool) → b.initialized ≡ i → Got b v q v'
      by true i = going_on q s r i
      by false f = starting f q.request reads q.buffer s r

  tallied : (q : Call) → (q.request ≡ Initialize → ReadsOnlySound v.sectors) → Served b v q v' → (r : Bool) → (outcome b v q).refused ≡ r → Tallies (outcome b v q).after v'
  tallied q reads s true r =
      let e = refusal_keeps b (supplied_by v.sectors) q.request q.buffer r in
      let u = s.untouched r in
      subst (λ x. Tallies x v') (sym e)
      (record {
        door = s.door ∙ ap (λ x. x.door) e;
        tab = s.tab ∙ ap (λ x. x.tab) e;
        units = s.units ∙ ap (λ x. x.units) e;
        initialized = s.initialized ∙ ap (λ x. x.initialized) e;
        map_changed = s.map_changed ∙ ap (λ x. x.changed) e;
        size = ap length u ∙ t.size;
        orderly = t.orderly;
        laid = λ i.
            let l = t.laid i in
            (l.0, subst (Laid b l.0) (sym u) l.1, λ n. s.still_free r (λ f. absurd (both_ways b.initialized f i)) n ∙ l.2 n);
      })
  tallied q reads s false r =
      let g = got q reads s r in
      let e = g.effect in
      record {
        door = s.door;
        tab = s.tab;
        units = s.units;
        initialized = s.initialized;
        map_changed = s.map_changed;
        size = length_relaid v.sectors v'.sectors (layout_after g.layout b q.request q.buffer e.taken) e.written ∙ (t.size ∙ sym (size_kept b q.buffer (supplied_by v.sectors) q.request));
        orderly = stays_orderly b (supplied_by v.sectors) q.request q.buffer t.orderly r;
        laid = λ i. (unwrap_or (layout_after g.layout b q.request q.buffer e.taken) g.layout, g.laid i, e.spares i);
      }

  -- INITIALIZE takes exactly the sound disks

  told_code : (x : Found Layout) → Coded x → NotDone (as_reading x)
  told_code (fault c n) h = h.not_done
  told_code (read d) h = tt

  sound_if_read : ReadsOnlySound v.sectors → (buf : List ℕ) → (response b (supplied_by v.sectors) Initialize buf).refused ≡ false → b.initialized ≡ false → (x : Found Layout) → reading v.sectors ≡ x → (d : Layout) × Sound d v.sectors
  sound_if_read reads buf r f (fault c n) e =
      let told : supplied_by v.sectors ≡ record { reading = faulty c n } = ap (λ x. record { reading = as_reading x }) e in
      absurd (both_ways (response b (supplied_by v.sectors) Initialize buf).refused r (ap (λ z. (response b z Initialize buf).refused) told ∙ faulty_refused b buf c n f))
  sound_if_read reads buf r f (read d) e =
      (d, reads d (ap sized t.size ∙ not-false (sized b.size) (leaves_initialize b buf (supplied_by v.sectors) r).checked.1.1.0) e)

  takes : ReadsOnlySound v.sectors → (buf : List ℕ) → (response b (supplied_by v.sectors) Initialize buf).code ≡ code_number Done → (d : Layout) × Sound d v.sectors
  takes reads buf e =
      let r : (response b (supplied_by v.sectors) Initialize buf).refused ≡ false = done_taken b buf (as_reading (reading v.sectors)) (told_code (reading v.sectors) (reading_coded v.sectors)) e in
      by r b.initialized refl
    where
      by : (response b (supplied_by v.sectors) Initialize buf).refused ≡ false → (i : Bool) → b.initialized ≡ i → (d : Layout) × Sound d v.sectors
      by r true i = let l = t.laid i in (l.0, closed_sound b l.0 v.sectors l.1 (leaves_initialize b buf (supplied_by v.sectors) r).checked.0)
      by r false f = sound_if_read reads buf r f (reading v.sectors) refl

  turns_down : (buf : List ℕ) → (response b (supplied_by v.sectors) Initialize buf).layer ≡ layer_number Structure → (d : Layout) → Sound d v.sectors → ⊥
  turns_down buf e d s =
      let told : supplied_by v.sectors ≡ record { reading = sound (files_in d.places) } = ap (λ x. record { reading = as_reading x }) (takes_sound d v.sectors s) in
      sound_taken b buf (files_in d.places) (sym (ap (λ z. (response b z Initialize buf).layer) told) ∙ e)

not_first : (q : Request) → (q ≡ Initialize → ⊥) → first_reading q ≡ false
not_first (Format id) h = refl
not_first Initialize h = absurd (h refl)
not_first (Door x) h = refl
not_first (Tab x) h = refl
not_first Status h = refl
not_first (Open u n k) h = refl
not_first (Close u) h = refl
not_first (Rewind u) h = refl
not_first (Read u n) h = refl
not_first (Write u n) h = refl
not_first (WriteCurrent u) h = refl
not_first (Delete u n) h = refl
not_first (ReadCurrent u) h = refl
not_first (ReadPrevious u) h = refl
not_first (SkipForward u n) h = refl
not_first (SkipBackward u n) h = refl
not_first (Erase n) h = refl

pub serving_steps : ServingSteps
serving_steps b v q v' before t s =
    let o = outcome b v q in
    let told = supplied_by v.sectors in
    let n = tallied b v v' t q before s o.refused refl in
    record {
      tallies = n;
      step = record {
        answer = refl;
        door = s.door;
        tab = s.tab;
        units = s.units;
        initialized = s.initialized;
        map_changed = s.map_changed;
        untouched = λ r.
            let bare = refusal_bare b told q.request q.buffer r in
            (s.untouched r, s.units ∙ (ap (λ x. x.units) (refusal_keeps b told q.request q.buffer r) ∙ sym t.units), bare.buffer, bare.len);
        still_free = λ r other. s.still_free r (λ _. not_first q.request other);
        changed = λ r. let g = got b v v' t q before s r in (g.effect.taken, g.effect.count, g.effect.given, (g.layout, g.surveyed, g.effect.written));
        takes_sound = λ e c. takes b v v' t (before e) q.buffer (subst (λ z. (response b told z q.buffer).code ≡ code_number Done) e c);
        turns_down_unsound = λ e l. turns_down b v v' t q.buffer (subst (λ z. (response b told z q.buffer).layer ≡ layer_number Structure) e l);
        stays_initialized = stays_initialized b q.buffer told q.request;
        agrees = λ i. let l = n.laid i in laid_agrees o.after l.0 v'.sectors v'.free l.1 l.2;
        reopens = λ i h. let l = n.laid i in closed_reopens o.after l.0 v'.sectors l.1 h;
      };
    }
