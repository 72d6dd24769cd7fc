-- Every call that is not refused keeps the disk laid out as the model says.
use Rattle.std.proofs.Common.{◌≡◌, ℕ, Bool, true, false, cond, not, ◌&&◌, eqb, ltb, leb, List, ◌++◌, length, is_some, Some, None, Option, unwrap_or, sym, refl, ap, ◌∙◌, subst}
use Rattle.chains.specs.Layout.{Disk, Layout, fixed_sectors, Contains, label_and_map, directory, chains, reserved, member, numbers}
use Rattle.rules.specs.Model.{Model, Request, Format, Initialize, Door, Tab, Status, Open, Close, Rewind, Read, Write, WriteCurrent, Delete, ReadCurrent, ReadPrevious, SkipForward, SkipBackward, Erase, sound, find, new_model, response}
use Rattle.rules.specs.Effects.{layout_after}
use Rattle.rules.specs.Matching.{Follows, Orderly}
use Rattle.rules.specs.Runs.{DiskAfter, files_in}
use Rattle.rules.specs.Laid.{Laid, StaysLaid, ClosedIsSound, LaidAgrees, ClosedReopens, StartsLaid, TakesSound}
use Rattle.rules.proofs.Following.{stays_following}
use Rattle.rules.proofs.Orders.{stays_orderly, all_closed}
use Rattle.chains.proofs.Over.{length_over}
use Rattle.rules.proofs.Over.{shown}
use Rattle.rules.proofs.Reopening.{closed_is_sound, reopens, starts_by_format, starts_by_reading}
use Rattle.rules.proofs.Walks.{all_left, all_right, chains_walked}
use Rattle.rules.proofs.Agreeing.{agrees}
use Rattle.rules.proofs.Taking.{reading_takes}
use Rattle.rules.proofs.Directory.{places_fit, directory_shown}

either_size : (t : Bool) (p q : Option Layout) (d : Layout) → (unwrap_or p d).size ≡ d.size → (unwrap_or q d).size ≡ d.size → (unwrap_or (cond t p q) d).size ≡ d.size
either_size true p q d h k = h
either_size false p q d h k = k

pub size_relaid : (d : Layout) (b : Model) (q : Request) (buf taken : List ℕ) → d.size ≡ b.size → (unwrap_or (layout_after d b q buf taken) d).size ≡ d.size
size_relaid d b (Format id) buf taken e = sym e
size_relaid d b Initialize buf taken e = refl
size_relaid d b (Door x) buf taken e = refl
size_relaid d b (Tab x) buf taken e = refl
size_relaid d b Status buf taken e = refl
size_relaid d b (Open u n k) buf taken e = either_size (is_some (find n b.files)) _ _ d (either_size (eqb k 2) _ None d refl refl) refl
size_relaid d b (Close u) buf taken e = either_size b.changed _ None d refl refl
size_relaid d b (Rewind u) buf taken e = refl
size_relaid d b (Read u n) buf taken e = refl
size_relaid d b (Write u n) buf taken e = refl
size_relaid d b (WriteCurrent u) buf taken e = refl
size_relaid d b (Delete u n) buf taken e = either_size (eqb n 0) None _ d refl refl
size_relaid d b (ReadCurrent u) buf taken e = refl
size_relaid d b (ReadPrevious u) buf taken e = refl
size_relaid d b (SkipForward u n) buf taken e = refl
size_relaid d b (SkipBackward u n) buf taken e = refl
size_relaid d b (Erase n) buf taken e = refl

laid_by : (b : Model) (d : Layout) (ss ss' : Disk) (r : Option Layout) → Follows b (unwrap_or r d) → Orderly b → (unwrap_or r d).size ≡ d.size → length ss ≡ d.size → Contains (fixed_sectors d) ss → DiskAfter ss r ss' → Laid b (unwrap_or r d) ss'
laid_by b d ss ss' None f o e l s h = record { follows = f; orderly = o; size = ap length h ∙ l; shows = subst (Contains (fixed_sectors d)) (sym h) s }
laid_by b d ss ss' (Some d') f o e l s h = record {
  follows = f;
  orderly = o;
  size = ap length h ∙ (length_over (fixed_sectors d') ss ∙ (l ∙ sym e));
  shows = subst (Contains (fixed_sectors d')) (sym h) (shown d' f.matches.proper ss (l ∙ sym e));
}

pub stays_laid : StaysLaid
stays_laid b d ss ss' given q buf taken i laid r long unused h =
    laid_by (response b given q buf).after d ss ss' (layout_after d b q buf taken)
    (stays_following b d given q buf taken i laid.follows r long unused) (stays_orderly b given q buf laid.orderly r)
    (size_relaid d b q buf taken laid.follows.matches.size) laid.size laid.shows h

pub closed_sound : ClosedIsSound
closed_sound b d ss laid h = closed_is_sound b d ss laid.follows h laid.size laid.shows

pub laid_agrees : LaidAgrees
laid_agrees b d ss free laid law =
    let m = laid.follows.matches in
    let p = m.proper in
    let rest : Contains (directory d.places ++ chains d.places) ss = all_right _ (label_and_map d) (directory d.places ++ chains d.places) laid.shows in
    let dir : Contains (directory d.places) ss = all_left _ (directory d.places) (chains d.places) rest in
    let chs : Contains (chains d.places) ss = all_right _ (directory d.places) (chains d.places) rest in
    agrees b d ss free m laid.size (directory_shown d.places ss (places_fit d.places p.names) p.places dir) (chains_walked d ss p laid.size chs)
    (λ n. law n ∙ ap (λ s. leb reserved n && (ltb n s && not (member n (numbers (chains d.places))))) (sym laid.size))

pub closed_reopens : ClosedReopens
closed_reopens b d ss laid h = reopens b d ss laid.follows.matches laid.size (reading_takes d ss (closed_sound b d ss laid h))

pub takes_sound : TakesSound
takes_sound d ss s = reading_takes d ss s

pub starts_laid : StartsLaid
starts_laid = record {
  new = λ s door tab. all_closed (new_model s door tab) refl refl;
  format = λ b d ss ss' given id buf taken o l r h.
      let f = starts_by_format b d given id buf taken o.units r in
      record {
        follows = f;
        orderly = stays_orderly b given (Format id) buf o r;
        size = ap length h ∙ (length_over (fixed_sectors (unwrap_or (layout_after d b (Format id) buf taken) d)) ss ∙ l);
        shows = subst (Contains (fixed_sectors (unwrap_or (layout_after d b (Format id) buf taken) d))) (sym h) (shown (unwrap_or (layout_after d b (Format id) buf taken) d) f.matches.proper ss l);
      };
  initialize = λ b d ss buf o i l s r. record {
    follows = starts_by_reading b d buf o.units i s.proper s.map (sym s.size ∙ l) r;
    orderly = stays_orderly b (record { reading = sound (files_in d.places) }) Initialize buf o r;
    size = s.size;
    shows = s.shows;
  };
}
