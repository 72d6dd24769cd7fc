-- The first FORMAT or INITIALIZE, what a sound disk reopens to, and the sectors that free space may give.
use Rattle.std.proofs.Common.{◌≡◌, ℕ, Bool, true, false, cond, not, ◌&&◌, ltb, leb, List, [], length, unwrap_or, sym, refl, ap, ◌∙◌, subst}
use Rattle.std.proofs.lemmas.Bool.{both_ways, and_parts, and_from, not-true}
use Rattle.std.proofs.ByRecursion.{All-weaker}
use Rattle.chains.specs.Layout.{Disk, Layout, sized, reserved, member, numbers, chains, fixed_sectors, Contains}
use Rattle.chains.specs.Sound.{ValidLayout, Sound}
use Rattle.chains.specs.Reading.{read}
use Rattle.chains.specs.Reading as chains_reading
use Rattle.rules.specs.Model.{Model, File, Supplied, sound, Format, Initialize, is_closed, any, find, done, started, new_model, response}
use Rattle.rules.specs.Effects.{layout_after}
use Rattle.rules.specs.Matching.{Matches, Unused, Follows, Current, Rearranged}
use Rattle.rules.specs.Runs.{Reopens, Taken, supplied_by, as_reading, files_in}
use Rattle.rules.proofs.Rearranging.{as_is, found, as_long}
use Rattle.rules.proofs.Edited.{distinct_differ}
use Rattle.rules.proofs.Accepted.{leaves_format, leaves_initialize}
use Rattle.rules.proofs.Calls.{on_format}

-- ---- from any model

pub starts_by_format : (b : Model) (d : Layout) (given : Supplied) (id buf taken : List ℕ) → length b.units ≡ 16 →
    (response b given (Format id) buf).refused ≡ false → Follows (response b given (Format id) buf).after (unwrap_or (layout_after d b (Format id) buf taken) d)
starts_by_format b d given id buf taken h a =
    let after = (leaves_format b buf given id a).after in
    record { matches = on_format b d buf taken given id a; units = ap (λ x. length x.units) after ∙ h; unsaved = λ _. ap (λ x. x.changed) after; current = λ _. refl }

otherwise : {A : Type 0} (t : Bool) (x y : A) → t ≡ false → cond t x y ≡ y
otherwise true x y e = absurd (both_ways true e refl)
otherwise false x y e = refl

-- a sound disk, read for the first time
pub starts_by_reading : (b : Model) (d : Layout) (buf : List ℕ) → length b.units ≡ 16 → b.initialized ≡ false → ValidLayout d → Current d → d.size ≡ b.size →
    (response b (record { reading = sound (files_in d.places) }) Initialize buf).refused ≡ false → Follows (response b (record { reading = sound (files_in d.places) }) Initialize buf).after d
starts_by_reading b d buf h i proper cur size a =
    let fs = files_in d.places in
    let after : (response b (record { reading = sound fs }) Initialize buf).after ≡ started b fs = (leaves_initialize b buf (record { reading = sound fs }) a).after ∙ otherwise b.initialized (started b b.files) (started b fs) i in
    record {
      matches = record { proper = proper; size = size ∙ sym (ap (λ x. x.size) after); files = subst (Rearranged fs) (sym (ap (λ x. x.files) after)) (as_is fs) };
      units = ap (λ x. length x.units) after ∙ h;
      unsaved = λ _. ap (λ x. x.changed) after;
      current = λ _. cur;
    }

-- ---- what a disk reopens to

-- with every unit closed, a disk that shows the layout is sound
pub closed_is_sound : (b : Model) (d : Layout) (ss : Disk) → Follows b d → any (λ s. not (is_closed s)) b.units ≡ false → length ss ≡ d.size → Contains (fixed_sectors d) ss → Sound d ss
closed_is_sound b d ss f h size shows = record { proper = f.matches.proper; size = size; shows = shows; map = f.current (f.unsaved h) }

pick : {A : Type 0} (t : Bool) (x y : A) → t ≡ true → cond (not t) x y ≡ y
pick true x y e = refl
pick false x y e = absurd (both_ways false refl e)

reads_new : (s : ℕ) (tab : Bool) (fs : List File) → sized s ≡ true → response (new_model s false tab) (record { reading = sound fs }) Initialize [] ≡ done (started (new_model s false tab) fs) [] 0
reads_new s tab fs h = pick (sized s) _ _ h

-- and any new drive over it has the model's files
pub reopens : (b : Model) (d : Layout) (ss : Disk) → Matches b d → length ss ≡ d.size → chains_reading.reading ss ≡ read d → Reopens ss b.files
reopens b d ss m size e =
    let fs = files_in d.places in
    let told : supplied_by ss ≡ record { reading = sound fs } = ap (λ r. record { reading = as_reading r }) e in
    let big : sized (length ss) ≡ true = ap sized size ∙ m.proper.size in
    let made : (tab : Bool) → response (new_model (length ss) false tab) (supplied_by ss) Initialize [] ≡ done (started (new_model (length ss) false tab) fs) [] 0 =
    λ tab. ap (λ r. response (new_model (length ss) false tab) r Initialize []) told ∙ reads_new (length ss) tab fs big in
    record {
      accepted = λ tab. ap (λ o. o.code) (made tab);
      same_files = λ tab n. ap (λ o. find n o.after.files) (made tab) ∙ found n m.files (distinct_differ d.places m.proper.distinct);
      as_many = λ tab. ap (λ o. length o.after.files) (made tab) ∙ as_long m.files;
    }

-- ---- free space

-- where free space holds the sectors past the reserved ones and outside every chain, what it gives is unused
pub taken_unused : (d : Layout) (free : ℕ → Bool) (ns : List ℕ) →
    ((n : ℕ) → free n ≡ (leb reserved n && (ltb n d.size && not (member n (numbers (chains d.places)))))) → Taken free ns → Unused d ns
taken_unused d free ns law t = record {
  distinct = t.distinct;
  usable = All-weaker _ _ (λ n h.
      let one = and_parts (leb reserved n) (ltb n d.size && not (member n (numbers (chains d.places)))) (sym (law n) ∙ h) in
      let two = and_parts (ltb n d.size) (not (member n (numbers (chains d.places)))) one.1 in
      and_from (leb reserved n) (ltb n d.size) one.0 two.0) ns t.were_free;
  outside = All-weaker _ _ (λ n h.
      let one = and_parts (leb reserved n) (ltb n d.size && not (member n (numbers (chains d.places)))) (sym (law n) ∙ h) in
      not-true (member n (numbers (chains d.places))) (and_parts (ltb n d.size) (not (member n (numbers (chains d.places)))) one.1).1) ns t.were_free;
}
