-- What a drive has to show of one call, so that the call is a step of a run and the next one can follow.
use Rattle.std.specs.Prelude.{◌≡◌, ℕ, Bool, true, false, List, length}
use Rattle.std.specs.Option.{unwrap_or}
use Rattle.chains.specs.Layout.{Disk, Layout, sized}
use Rattle.chains.specs.Sound.{Sound}
use Rattle.chains.specs.Reading.{read, reading}
use Rattle.rules.specs.Model.{Model, Request, Format, Initialize, Door, Tab, Status, Open, Close, Rewind, Read, Write, WriteCurrent, Delete, ReadCurrent, ReadPrevious, SkipForward, SkipBackward, Erase, Outcome, response}
use Rattle.rules.specs.Effects.{layout_after}
use Rattle.rules.specs.Matching.{Orderly}
use Rattle.rules.specs.Laid.{Laid, Spares}
use Rattle.rules.specs.Runs.{View, Call, Taken, DiskAfter, Step, supplied_by}

-- a drive and its model, between calls
pub record Tallies (b : Model) (v : View) : Type 0 where
  pub door : v.door ≡ b.door
  pub tab : v.tab ≡ b.tab
  pub units : v.units ≡ b.units
  pub initialized : v.initialized ≡ b.initialized
  pub map_changed : v.changed ≡ b.changed
  pub size : length v.sectors ≡ b.size
  pub orderly : Orderly b
  pub laid : b.initialized ≡ true → (d : Layout) × Laid b d v.sectors × Spares d v.free

abbrev pub outcome : Model → View → Call → Outcome
outcome b v q = response b (supplied_by v.sectors) q.request q.buffer

-- what a call that is not refused did to a disk laid out as d
pub record Effect (b : Model) (v : View) (q : Call) (v' : View) (d : Layout) : Type 0 where
  pub taken : List ℕ
  pub count : length taken ≡ (outcome b v q).added
  pub given : Taken v.free taken
  pub written : DiskAfter v.sectors (layout_after d b q.request q.buffer taken) v'.sectors
  pub spares : (outcome b v q).after.initialized ≡ true → Spares (unwrap_or (layout_after d b q.request q.buffer taken) d) v'.free

abbrev pub first_reading : Request → Bool
first_reading (Format id) = false
first_reading Initialize = true
first_reading (Door x) = false
first_reading (Tab x) = false
first_reading Status = false
first_reading (Open u n k) = false
first_reading (Close u) = false
first_reading (Rewind u) = false
first_reading (Read u n) = false
first_reading (Write u n) = false
first_reading (WriteCurrent u) = false
first_reading (Delete u n) = false
first_reading (ReadCurrent u) = false
first_reading (ReadPrevious u) = false
first_reading (SkipForward u n) = false
first_reading (SkipBackward u n) = false
first_reading (Erase n) = false

pub record Served (b : Model) (v : View) (q : Call) (v' : View) : Type 0 where
  pub door : v'.door ≡ (outcome b v q).after.door
  pub tab : v'.tab ≡ (outcome b v q).after.tab
  pub units : v'.units ≡ (outcome b v q).after.units
  pub initialized : v'.initialized ≡ (outcome b v q).after.initialized
  pub map_changed : v'.changed ≡ (outcome b v q).after.changed
  pub untouched : (outcome b v q).refused ≡ true → v'.sectors ≡ v.sectors
  -- only a disk read for the first time may cost free space though it is refused
  pub still_free : (outcome b v q).refused ≡ true → (b.initialized ≡ false → first_reading q.request ≡ false) → (n : ℕ) → v'.free n ≡ v.free n
  pub changed : (outcome b v q).refused ≡ false → (d : Layout) →
      (b.initialized ≡ true → Laid b d v.sectors × Spares d v.free) →
      (b.initialized ≡ false → first_reading q.request ≡ true → reading v.sectors ≡ read d) → Effect b v q v' d

-- what is read off this disk is sound: the half of reading's promise that asks for well-formed sectors, wanted by INITIALIZE alone
abbrev pub ReadsOnlySound : Disk → Type 0
ReadsOnlySound ss = (d : Layout) → sized (length ss) ≡ true → reading ss ≡ read d → Sound d ss

pub record Next (b : Model) (v : View) (q : Call) (v' : View) : Type 0 where
  pub step : Step b v q (outcome b v q) v'
  pub tallies : Tallies (outcome b v q).after v'

-- one call after another
abbrev pub ServingSteps : Type 0
ServingSteps = (b : Model) (v : View) (q : Call) (v' : View) → (q.request ≡ Initialize → ReadsOnlySound v.sectors) → Tallies b v → Served b v q v' → Next b v q v'
