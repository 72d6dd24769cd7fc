-- The calls of the exam, and what it is to have taken it.
use Rattle.std.specs.Prelude.{◌≡◌, true, false, List, [], ◌∷◌, map, codes}
use Rattle.device.specs.declared.reading.ReadingDevice.{Ghosts as Reading}
use Rattle.freespace.specs.declared.allocator.SectorAllocator.{Ghosts as Allocating}
use Rattle.rules.specs.Model.{Request}
use Rattle.rules.specs.Model as model
use Rattle.rules.specs.Runs.{Call}
use Rattle.drive.specs.Exchanges.{RunsThrough, call_of}
use Rattle.drive.specs.declared.drive.Drive.{Drive}
use Rattle.drive.specs.declared.request.Exchange.{Exchange}

-- a request with an empty buffer
abbrev pub asked : Request → Call
asked q = record { request = q; buffer = [] }

abbrev pub exam_calls : List Call
exam_calls = map asked (
    model.Status ∷ model.Tab true ∷ model.Format (codes "EXAM 1") ∷ model.Tab false ∷ model.Door true ∷ model.Format (codes "EXAM 1")
    ∷ model.Door false ∷ model.Format (codes "EXAM;1") ∷ model.Format (codes "EXAM 1") ∷ model.Status ∷ [])

-- a new drive over the device was asked these calls, ys is what it answered, and the device is handed back
abbrev pub ExamTaken : {D S : Type 0} → Reading D → Allocating S → D → S → D → List Exchange → Type 0
ExamTaken {D} {S} r a device allocator back ys =
    (xs : List Exchange) × (e : Drive D S) × (map call_of xs ≡ exam_calls) × RunsThrough r a device allocator xs ys e × (back ≡ e.device)
