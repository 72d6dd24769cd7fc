-- Exchanges as the rules have them, and what serving one, a list, and a list from a new drive promises.
use Rattle.std.specs.Prelude.{◌≡◌, ℕ, List, [], ◌∷◌, map, length, take, drop, vec_items, Some, None, Option}
use Rattle.device.specs.Codes.{code_number}
use Rattle.device.specs.declared.fault.Code.TheVariants.{Done}
use Rattle.device.specs.declared.reading.ReadingDevice.{Ghosts as Reading}
use Rattle.freespace.specs.declared.allocator.SectorAllocator.{Ghosts as Allocating}
use Rattle.rules.specs.Model.{Model, Outcome}
use Rattle.rules.specs.Model as model
use Rattle.rules.specs.Runs.{Call, Told, Run, Ran, LeftClosed, SameFiles, new_view, told}
use Rattle.drive.specs.declared.answer.Answer.{Answer}
use Rattle.drive.specs.declared.drive.Drive.{Drive}
use Rattle.drive.specs.declared.request.Exchange.{Exchange}
use Rattle.drive.specs.declared.request.Request.{Request}
use Rattle.drive.specs.declared.request.Request.TheVariants as request
use Rattle.drive.specs.declared.request.Usage.{Usage}
use Rattle.drive.specs.Serves.{Represents, Serving, model_of, told_by, view}

abbrev pub request_of : Request → model.Request
request_of (request.Format id) = model.Format (vec_items id)
request_of (request.Door x) = model.Door x
request_of (request.Tab x) = model.Tab x
request_of request.Status = model.Status

-- what an exchange asks, and the buffer that it brings
abbrev pub call_of : Exchange → Call
call_of x = record { request = request_of x.request; buffer = vec_items x.buffer }

abbrev pub numbers_of : Option Usage → List ℕ
numbers_of None = []
numbers_of (Some u) = u.free ∷ u.used ∷ u.files ∷ []

-- what an exchange was told, with the buffer that is left
abbrev pub told_of : Exchange → Told
told_of x = told_by x.answer (numbers_of x.reported) (vec_items x.buffer)

-- one exchange, x before and y after
abbrev pub ServesExchange : {D S : Type 0} → Reading D → Allocating S → Drive D S → Exchange → Exchange → Drive D S → Type 0
ServesExchange r a d x y e = (b : Model) → Represents r a b d → Serving r a b (call_of x) d (told_of y) e

-- the exchange with this answer and this report
abbrev pub answered : Exchange → Answer → Option Usage → Exchange
answered x ans rep = record { request = x.request; buffer = x.buffer; answer = ans; reported = rep }

-- the call that a request asks for, whatever exchange asks for it
abbrev pub Replies : {D S : Type 0} → Reading D → Allocating S → Request → Drive D S → Answer → Option Usage → Drive D S → Type 0
Replies r a q d ans rep e = (x : Exchange) → x.request ≡ q → ServesExchange r a d x (answered x ans rep) e

-- a list of calls on a drive that the model b represents: a run, to a model that represents the drive after it
pub record ServingAll {D S : Type 0} (r : Reading D) (a : Allocating S) (b : Model) (qs : List Call) (d : Drive D S) (ts : List Told) (e : Drive D S) : Type 0 where
  pub outcomes : List Outcome
  pub answered : map told outcomes ≡ ts
  pub last : Model
  pub run : Run b (view r a d) qs outcomes last (view r a e)
  pub represents : Represents r a last e

abbrev pub ServesAll : {D S : Type 0} → Reading D → Allocating S → Drive D S → List Exchange → List Exchange → Drive D S → Type 0
ServesAll r a d xs ys e = (b : Model) → Represents r a b d → ServingAll r a b (map call_of xs) d (map told_of ys) e

-- the requests are left as they came
abbrev pub SameRequests : List Exchange → List Exchange → Type 0
SameRequests xs ys = map (λ x. x.request) ys ≡ map (λ x. x.request) xs

-- of the exchanges xs, which are ys by now, i are served: the others are as they were
pub record ServedTo {D S : Type 0} (r : Reading D) (a : Allocating S) (i : ℕ) (xs : List Exchange) (d : Drive D S) (ys : List Exchange) (e : Drive D S) : Type 0 where
  pub left : drop i ys ≡ drop i xs
  pub long : length ys ≡ length xs
  pub served : ServesAll r a d (take i xs) (take i ys) e
  pub requests : SameRequests (take i xs) (take i ys)

-- a new drive over this device and this allocator
pub record Fresh {D S : Type 0} (r : Reading D) (a : Allocating S) (device : D) (allocator : S) (d : Drive D S) : Type 0 where
  pub seen : view r a d ≡ new_view (r.medium device) (a.member allocator)
  pub represents : Represents r a (model_of (r.medium device)) d

-- a list of exchanges from a new drive over this device and this allocator: a run from the new model, whole
abbrev pub RunsThrough : {D S : Type 0} → Reading D → Allocating S → D → S → List Exchange → List Exchange → Drive D S → Type 0
RunsThrough r a device allocator xs ys e =
    (b : Model) × Ran (r.medium device) (a.member allocator) (map call_of xs) (map told_of ys) b (view r a e) × Represents r a b e

abbrev pub RunsIfFresh : {D S : Type 0} → Reading D → Allocating S → Drive D S → List Exchange → List Exchange → Drive D S → Type 0
RunsIfFresh {D} {S} r a d xs ys e = (device : D) (allocator : S) → Fresh r a device allocator d → RunsThrough r a device allocator xs ys e

-- a drive that was put over this device and initialised, and answered so
pub record Reopened {D S : Type 0} (r : Reading D) (a : Allocating S) (device : D) (allocator : S) (x : Answer) (e : Drive D S) : Type 0 where
  -- a run of one call
  pub ran : (b : Model) × Ran (r.medium device) (a.member allocator) (record { request = model.Initialize; buffer = [] } ∷ []) (told_by x [] [] ∷ []) b (view r a e) × Represents r a b e
  -- over what a run left with every unit closed it is accepted, and has the files of that run
  pub same_files : (b : Model) → LeftClosed (r.medium device) b → (code_number x.code ≡ code_number Done) × ((c : Model) × Represents r a c e × SameFiles c.files b.files)
