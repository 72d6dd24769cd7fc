-- What a drive shows, which models represent it, and what serving one call promises.
use Rattle.std.specs.Prelude.{◌≡◌, ℕ, true, List, map, length, is_some}
use Rattle.device.specs.declared.reading.ReadingDevice.{Ghosts as Reading}
use Rattle.device.specs.Codes.{code_number, layer_number}
use Rattle.device.specs.Device.{Medium}
use Rattle.freespace.specs.declared.allocator.SectorAllocator.{Ghosts as Allocating}
use Rattle.rules.specs.Model.{Model, Request, new_model}
use Rattle.rules.specs.Runs.{View, Call, Step, Told, told}
use Rattle.rules.specs.Served.{Tallies, outcome}
use Rattle.drive.specs.declared.answer.Answer.{Answer}
use Rattle.drive.specs.declared.drive.Drive.{Drive}
use Rattle.drive.specs.Known.{file_count, map_changed}
use Rattle.drive.specs.Units.{unit_of}

-- what can be seen of a drive, by what its device and its allocator mean
abbrev pub view : {D S : Type 0} → Reading D → Allocating S → Drive D S → View
view r a d = record {
  sectors = (r.medium d.device).sectors;
  door = (r.medium d.device).door;
  tab = (r.medium d.device).tab;
  free = a.member d.allocator;
  units = map unit_of d.state.units;
  initialized = is_some d.state.disk;
  changed = map_changed d.state.disk;
}

-- the model of a new drive over this medium
abbrev pub model_of : Medium → Model
model_of m = new_model (length m.sectors) m.door m.tab

-- the drive is in the state that the model says
pub record Represents {D S : Type 0} (r : Reading D) (a : Allocating S) (b : Model) (d : Drive D S) : Type 0 where
  -- door, tab, units and marks are the model's, and the disk is laid out with the model's files
  pub tallies : Tallies b (view r a d)
  -- what the drive keeps beside: how many files there are, and that its allocator is for a disk of this size
  pub files : file_count d.state.disk ≡ length b.files
  pub span : b.initialized ≡ true → a.span d.allocator ≡ b.size

-- what a caller is told: the answer's numbers, what STATUS tells, and the buffer left
abbrev pub told_by : Answer → List ℕ → List ℕ → Told
told_by x ns buf = record {
  code = code_number x.code;
  len = x.length;
  layer = layer_number x.layer;
  sector = x.sector;
  numbers = ns;
  buffer = buf;
}

-- one call on a drive that the model b represents
pub record Serving {D S : Type 0} (r : Reading D) (a : Allocating S) (b : Model) (q : Call) (d : Drive D S) (t : Told) (e : Drive D S) : Type 0 where
  -- the caller is told what the model answers
  pub answered : told (outcome b (view r a d) q) ≡ t
  -- the call is a step of a run, from what it found to what it left
  pub step : Step b (view r a d) q (outcome b (view r a d) q) (view r a e)
  -- and the model after it represents the drive after it
  pub represents : Represents r a (outcome b (view r a d) q).after e

-- a call from d to e that finds the buffer buf, answers x, tells the numbers ns and leaves the buffer left
abbrev pub Serves : {D S : Type 0} → Reading D → Allocating S → Request → Drive D S → List ℕ → Answer → List ℕ → List ℕ → Drive D S → Type 0
Serves r a q d buf x ns left e = (b : Model) → Represents r a b d → Serving r a b (record { request = q; buffer = buf }) d (told_by x ns left) e

-- a call that takes no buffer: whatever buffer stands beside it stays
abbrev pub ServesAlone : {D S : Type 0} → Reading D → Allocating S → Request → Drive D S → Answer → List ℕ → Drive D S → Type 0
ServesAlone r a q d x ns e = (buf : List ℕ) → Serves r a q d buf x ns buf e
