-- What the code of the calls does to the parts of a drive.
use Rattle.std.specs.Prelude.{◌≡◌, ℕ, ◌-◌, false, cond, not, ◌&&◌, List, length, is_ok, Some, None, Ok, Err, Result, nat_le, nat_lt}
use Rattle.std.specs.List.{AllByRecursion}
use Rattle.std.specs.Option.{ok_or, option_map}
use Rattle.device.specs.Codes.{code_number}
use Rattle.device.specs.Device.{Medium, WellFormed}
use Rattle.device.specs.declared.fault.Code.TheVariants.{NotInitialized}
use Rattle.device.specs.declared.fault.Layer.TheVariants.{Request, Structure}
use Rattle.device.specs.declared.fault.Fault.{Fault}
use Rattle.device.specs.declared.reading.ReadingDevice.{Ghosts as Reading}
use Rattle.freespace.specs.declared.allocator.SectorAllocator.{Ghosts as Allocating}
use Rattle.freespace.specs.Sets.{counted}
use Rattle.chains.specs.Formatting.{formatted_medium}
use Rattle.chains.specs.Layout.{Layout, reserved, member, numbers, chains}
use Rattle.chains.specs.Reading.{Found, fault, read, reading}
use Rattle.chains.specs.Sound.{entries}
use Rattle.chains.specs.Survey.{Tells}
use Rattle.rules.specs.Model.{Check}
use Rattle.drive.specs.Answers.{done_answer}
use Rattle.drive.specs.Checks.{plain_fault, first_fault, format_checks, initialize_checks}
use Rattle.drive.specs.Units.{any_open}
use Rattle.drive.specs.declared.answer.Answer.{Answer}
use Rattle.drive.specs.declared.drive.Drive.{Drive}
use Rattle.drive.specs.declared.request.Usage.{Usage}
use Rattle.drive.specs.declared.units.State.{State}

-- FORMAT's checks, by the drive's own parts
abbrev pub own_checks : {D S : Type 0} → Reading D → Drive D S → List ℕ → List Check
own_checks r d id =
    let m = r.medium d.device in
    format_checks (any_open d.state.units) m.door m.tab (length m.sectors) id

-- initialised, with so many files and a map that is up to date
abbrev pub started_state : ℕ → State → State
started_state n s = record s { disk = Some (record { changed = false; files = n }) }

-- initialised, with no file and a map that is up to date
abbrev pub formatted_state : State → State
formatted_state = started_state 0

-- nothing is known of the disk
abbrev pub forgotten : State → State
forgotten s = record s { disk = None }

-- FORMAT from d to e, refused as x says, with nothing touched then
pub record Formats {D S : Type 0} (r : Reading D) (a : Allocating S) (id : List ℕ) (d : Drive D S) (x : Result Unit Fault) (e : Drive D S) : Type 0 where
  pub answer : x ≡ first_fault (own_checks r d id)
  pub medium : r.medium e.device ≡ cond (is_ok x) (formatted_medium (r.medium d.device) id) (r.medium d.device)
  pub free : (n : ℕ) → a.member e.allocator n ≡ cond (is_ok x) (nat_le reserved n && nat_lt n (length (r.medium d.device).sectors)) (a.member d.allocator n)
  pub span : a.span e.allocator ≡ cond (is_ok x) (length (r.medium d.device).sectors) (a.span d.allocator)
  pub state : e.state ≡ cond (is_ok x) (formatted_state d.state) d.state

-- INITIALIZE's checks, by the drive's own parts
abbrev pub own_initialize_checks : {D S : Type 0} → Reading D → Drive D S → List Check
own_initialize_checks r d =
    let m = r.medium d.device in
    initialize_checks (any_open d.state.units) m.door (length m.sectors)

-- a disk laid out so is the drive's own: its unused sectors are free, and its files are counted
pub record TakesOver {D S : Type 0} (r : Reading D) (a : Allocating S) (d : Drive D S) (l : Layout) (e : Drive D S) : Type 0 where
  pub free : (n : ℕ) → a.member e.allocator n ≡ (nat_le reserved n && (nat_lt n (length (r.medium d.device).sectors) && not (member n (numbers (chains l.places)))))
  pub span : a.span e.allocator ≡ length (r.medium d.device).sectors
  pub state : e.state ≡ started_state (length (entries l.places)) d.state

-- the disk has this fault, and nothing is known of it any more
pub record TurnsAway {D S : Type 0} (d : Drive D S) (c n : ℕ) (f : Fault) (e : Drive D S) : Type 0 where
  pub code : code_number f.code ≡ c
  pub layer : f.layer ≡ Structure
  pub sector : f.sector ≡ n
  pub allocator : e.allocator ≡ d.allocator
  pub state : e.state ≡ forgotten d.state

-- by what reading the disk gives
abbrev pub ReadsIn : {D S : Type 0} → Reading D → Allocating S → Drive D S → Found Layout → Result Unit Fault → Drive D S → Type 0
ReadsIn r a d (fault c n) (Ok u) e = ⊥
ReadsIn r a d (fault c n) (Err f) e = TurnsAway d c n f e
ReadsIn r a d (read l) (Ok u) e = TakesOver r a d l e
ReadsIn r a d (read l) (Err f) e = ⊥

-- INITIALIZE from d to e, answered by x
pub record Initializes {D S : Type 0} (r : Reading D) (a : Allocating S) (d : Drive D S) (x : Result Unit Fault) (e : Drive D S) : Type 0 where
  pub whole : AllByRecursion WellFormed (r.medium d.device).sectors
  pub medium : r.medium e.device ≡ r.medium d.device
  pub refused : (f : Fault) → first_fault (own_initialize_checks r d) ≡ Err f → (x ≡ Err f) × (e.allocator ≡ d.allocator) × (e.state ≡ d.state)
  pub found : first_fault (own_initialize_checks r d) ≡ Ok tt → ReadsIn r a d (reading (r.medium d.device).sectors) x e

-- the fault that was found, or none
abbrev pub SameFault : Found Layout → Result Unit Fault → Type 0
SameFault = Tells (λ l u. Unit {0})

-- EXAMINE of this medium, answered by x: the same, from the door on
pub record Examines (m : Medium) (x : Result Unit Fault) : Type 0 where
  pub refused : (f : Fault) → first_fault (initialize_checks false m.door (length m.sectors)) ≡ Err f → x ≡ Err f
  pub found : first_fault (initialize_checks false m.door (length m.sectors)) ≡ Ok tt → SameFault (reading m.sectors) x

-- DOOR and TAB from d to e: the device has this medium, and nothing else changed
pub record Sets {D S : Type 0} (r : Reading D) (m : Medium) (d : Drive D S) (x : Answer) (e : Drive D S) : Type 0 where
  pub answer : x ≡ done_answer
  pub medium : r.medium e.device ≡ m
  pub allocator : e.allocator ≡ d.allocator
  pub state : e.state ≡ d.state

-- what STATUS tells, or its refusal
abbrev pub own_usage : {D S : Type 0} → Reading D → Allocating S → Drive D S → Result Usage Fault
own_usage r a d =
    let free = counted (a.member d.allocator) (a.span d.allocator) in
    ok_or
    (option_map (λ k. record { free = free; used = length (r.medium d.device).sectors - free; files = k.files }) d.state.disk)
    (plain_fault NotInitialized Request)
