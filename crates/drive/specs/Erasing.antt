-- What the code of ERASE does to the parts of a drive.
use Rattle.std.specs.Prelude.{◌≡◌, ℕ, ◌+◌, ◌/◌, ◌<◌, Bool, true, false, not, ◌||◌, List, [], ◌∷◌, map, is_some, Some, None, Ok, Err, Option, Result, ◌==◌, slice_index_or, slice_set}
use Rattle.std.specs.Option.{ok_or}
use Rattle.device.specs.Device.{Medium, wrote}
use Rattle.device.specs.declared.fault.Code.TheVariants.{AlreadyOpen, BadName, FileNotFound, NotInitialized}
use Rattle.device.specs.declared.fault.Fault.{Fault}
use Rattle.device.specs.declared.fault.Layer.TheVariants.{Request}
use Rattle.device.specs.declared.reading.ReadingDevice.{Ghosts as Reading}
use Rattle.freespace.specs.declared.allocator.SectorAllocator.{Ghosts as Allocating}
use Rattle.chains.specs.declared.lookup.Located.{Located}
use Rattle.chains.specs.Names.{legal}
use Rattle.chains.specs.Layout.{Layout, Entry, member, fixed_sectors, overwritten}
use Rattle.chains.specs.Changes.{LaidOut, located, directory_sector}
use Rattle.chains.specs.Saving.{with_map}
use Rattle.chains.specs.Survey.{next}
use Rattle.rules.specs.Model.{Check, request_check, door_check, tab_check}
use Rattle.rules.specs.Effects.{with_places, saved, erased}
use Rattle.rules.specs.Laid.{Spares}
use Rattle.drive.specs.Checks.{plain_fault, first_fault}
use Rattle.drive.specs.Known.{without_file}
use Rattle.drive.specs.Units.{any_named}
use Rattle.drive.specs.declared.drive.Drive.{Drive}
use Rattle.drive.specs.declared.units.State.{State}

-- the checks before the directory is read: whether the drive is initialised, the door and the name
abbrev pub before_look_up : Bool → Bool → List ℕ → List Check
before_look_up initialized door n =
    request_check (not initialized) NotInitialized ∷ door_check door ∷ request_check (not (legal n)) BadName ∷ []

-- and after it: whether a unit holds the file, and the tab
abbrev pub after_look_up : Bool → Bool → List Check
after_look_up held tab = request_check held AlreadyOpen ∷ tab_check tab ∷ []

abbrev pub found_or_fault : Option Located → Result Located Fault
found_or_fault o = ok_or o (plain_fault FileNotFound Request)

-- the file to erase, or the first refusal, where the directory gives this for the name
abbrev pub erasable : Bool → Bool → List ℕ → Option Located → Bool → Bool → Result Located Fault
erasable initialized door n o held tab =
    next (first_fault (before_look_up initialized door n))
    (λ _. next (found_or_fault o) (λ x. next (first_fault (after_look_up held tab)) (λ _. Ok x)))

-- the same, by the drive's own parts
abbrev pub own_erasable : {D S : Type 0} → Reading D → List ℕ → Drive D S → Layout → Result Located Fault
own_erasable r n d l =
    let m = r.medium d.device in
    erasable (is_some d.state.disk) m.door n (located n 0 l.places) (any_named n d.state.units) m.tab

-- nothing is changed
pub record Untouched {D S : Type 0} (r : Reading D) (d e : Drive D S) : Type 0 where
  pub medium : r.medium e.device ≡ r.medium d.device
  pub allocator : e.allocator ≡ d.allocator
  pub state : e.state ≡ d.state

-- looking for the file to erase answers x, whatever layout the disk shows
pub record Finds {D S : Type 0} (r : Reading D) (n : List ℕ) (d : Drive D S) (x : Result Located Fault) (e : Drive D S) : Type 0 where
  pub same : Untouched r d e
  pub found : (l : Layout) → (is_some d.state.disk ≡ true → LaidOut l (r.medium d.device).sectors) → x ≡ own_erasable r n d l

-- one file less, and the map is up to date
abbrev pub less_one : State → State
less_one s = record s { disk = without_file s.disk }

-- the disk shows this layout, and the allocator has the sectors that it leaves free
pub record Knows {D S : Type 0} (r : Reading D) (a : Allocating S) (d : Drive D S) (l : Layout) : Type 0 where
  pub laid : LaidOut l (r.medium d.device).sectors
  pub spares : Spares l (a.member d.allocator)
  pub span : a.span d.allocator ≡ l.size

-- the sectors of the file at place p are given back
abbrev pub GivesBack : {D S : Type 0} → Reading D → Allocating S → Located → Drive D S → Result Unit Fault → Drive D S → Type 0
GivesBack r a x d y e =
    (l : Layout) (f : Entry) → LaidOut l (r.medium d.device).sectors → (r.medium d.device).door ≡ false →
    slice_index_or l.places x.place None ≡ Some f → f.at ≡ x.descriptor → a.span d.allocator ≡ l.size →
    (y ≡ Ok tt) × ((n : ℕ) → a.member e.allocator n ≡ (n == x.descriptor || (a.member d.allocator n || member n (map (λ q. q.at) f.records))))

-- the medium with place p empty
abbrev pub place_emptied : Layout → ℕ → Medium → Medium
place_emptied l p m = wrote m (4 + p / 3) (directory_sector (slice_set l.places p None) (p / 3))

-- the place p is emptied, and then the map is saved
abbrev pub Unlists : {D S : Type 0} → Reading D → Allocating S → ℕ → Drive D S → Result Unit Fault → Drive D S → Type 0
Unlists r a p d y e =
    (l k : Layout) → LaidOut l (r.medium d.device).sectors → p < 96 → (r.medium d.device).door ≡ false → (r.medium d.device).tab ≡ false →
    LaidOut k (place_emptied l p (r.medium d.device)).sectors → Spares k (a.member d.allocator) →
    (y ≡ Ok tt) × (r.medium e.device ≡ with_map k (place_emptied l p (r.medium d.device))) × (e.state ≡ less_one d.state)

-- the file is gone from a disk that showed the layout l
pub record Erased {D S : Type 0} (r : Reading D) (a : Allocating S) (n : List ℕ) (l : Layout) (d e : Drive D S) : Type 0 where
  pub sectors : (r.medium e.device).sectors ≡ overwritten (fixed_sectors (saved (with_places l (erased n l.places)))) (r.medium d.device).sectors
  pub door : (r.medium e.device).door ≡ (r.medium d.device).door
  pub tab : (r.medium e.device).tab ≡ (r.medium d.device).tab
  pub spares : Spares (with_places l (erased n l.places)) (a.member e.allocator)
  pub span : a.span e.allocator ≡ a.span d.allocator
  pub state : e.state ≡ less_one d.state

-- the file located there is removed
abbrev pub Removes : {D S : Type 0} → Reading D → Allocating S → Located → Drive D S → Result Unit Fault → Drive D S → Type 0
Removes r a x d y e =
    (n : List ℕ) (l : Layout) → Knows r a d l → (r.medium d.device).door ≡ false → (r.medium d.device).tab ≡ false →
    located n 0 l.places ≡ Some x → (y ≡ Ok tt) × Erased r a n l d e

-- by the answer: refused with nothing touched, or done
abbrev pub LeavesErased : {D S : Type 0} → Reading D → Allocating S → List ℕ → Layout → Drive D S → Result Unit Fault → Drive D S → Type 0
LeavesErased r a n l d (Ok u) e = Erased r a n l d e
LeavesErased r a n l d (Err f) e = Untouched r d e

-- ERASE from d to e, answered by y, whatever layout the disk shows
pub record Erases {D S : Type 0} (r : Reading D) (a : Allocating S) (n : List ℕ) (l : Layout) (d : Drive D S) (y : Result Unit Fault) (e : Drive D S) : Type 0 where
  pub answer : y ≡ next (own_erasable r n d l) (λ _. Ok tt)
  pub leaves : LeavesErased r a n l d y e

abbrev pub TriesErasing : {D S : Type 0} → Reading D → Allocating S → List ℕ → Drive D S → Result Unit Fault → Drive D S → Type 0
TriesErasing r a n d y e = (l : Layout) → (is_some d.state.disk ≡ true → Knows r a d l) → Erases r a n l d y e
