-- A disk that shows the layout which follows a model, and that every call that is not refused keeps one so.
use Rattle.std.specs.Prelude.{◌≡◌, ℕ, Bool, true, false, not, ◌&&◌, List, length, nat_le, nat_lt}
use Rattle.std.specs.Option.{unwrap_or}
use Rattle.chains.specs.Layout.{Disk, Layout, fixed_sectors, Contains, reserved, member, numbers, chains}
use Rattle.chains.specs.Reading.{read, reading}
use Rattle.chains.specs.Sound.{Sound}
use Rattle.rules.specs.Model.{Model, Supplied, sound, Request, Format, Initialize, response, new_model, some_open}
use Rattle.rules.specs.Effects.{layout_after}
use Rattle.rules.specs.Matching.{Follows, Orderly, Unused}
use Rattle.rules.specs.Runs.{DiskAfter, Agrees, Reopens, files_in}

pub record Laid (b : Model) (d : Layout) (ss : Disk) : Type 0 where
  pub follows : Follows b d
  pub orderly : Orderly b
  pub size : length ss ≡ d.size
  pub shows : Contains (fixed_sectors d) ss

abbrev pub StaysLaid : Type 0
StaysLaid =
    (b : Model) (d : Layout) (ss ss' : Disk) (given : Supplied) (q : Request) (buf taken : List ℕ) →
    b.initialized ≡ true → Laid b d ss →
    (response b given q buf).refused ≡ false →
    length taken ≡ (response b given q buf).added → Unused d taken →
    DiskAfter ss (layout_after d b q buf taken) ss' →
    Laid (response b given q buf).after (unwrap_or (layout_after d b q buf taken) d) ss'

-- with every unit closed such a disk is sound
abbrev pub ClosedIsSound : Type 0
ClosedIsSound = (b : Model) (d : Layout) (ss : Disk) → Laid b d ss → some_open b ≡ false → Sound d ss

-- the free sectors: past the reserved ones, on the disk, and outside every chain
abbrev pub Spares : Layout → (ℕ → Bool) → Type 0
Spares d free = (n : ℕ) → free n ≡ (nat_le reserved n && (nat_lt n d.size && not (member n (numbers (chains d.places)))))

abbrev pub LaidAgrees : Type 0
LaidAgrees = (b : Model) (d : Layout) (ss : Disk) (free : ℕ → Bool) → Laid b d ss → Spares d free → Agrees b ss free

-- with every unit closed, a new drive over the disk has the model's files
abbrev pub ClosedReopens : Type 0
ClosedReopens = (b : Model) (d : Layout) (ss : Disk) → Laid b d ss → some_open b ≡ false → Reopens ss b.files

-- reading takes every sound disk, and gives its layout
abbrev pub TakesSound : Type 0
TakesSound = (d : Layout) (ss : Disk) → Sound d ss → reading ss ≡ read d

-- the first FORMAT, or the first INITIALIZE over a sound disk, lays it out so
pub record StartsLaid : Type 0 where
  pub new : (s : ℕ) (door tab : Bool) → Orderly (new_model s door tab)
  pub format : (b : Model) (d : Layout) (ss ss' : Disk) (given : Supplied) (id buf taken : List ℕ) →
      Orderly b → length ss ≡ b.size → (response b given (Format id) buf).refused ≡ false →
      DiskAfter ss (layout_after d b (Format id) buf taken) ss' → Laid (response b given (Format id) buf).after (unwrap_or (layout_after d b (Format id) buf taken) d) ss'
  pub initialize : (b : Model) (d : Layout) (ss : Disk) (buf : List ℕ) →
      Orderly b → b.initialized ≡ false → length ss ≡ b.size → Sound d ss →
      (response b (record { reading = sound (files_in d.places) }) Initialize buf).refused ≡ false → Laid (response b (record { reading = sound (files_in d.places) }) Initialize buf).after d ss
