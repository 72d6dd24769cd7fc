-- What holds over any list of calls: the answers are the model's, and the disk agrees with the model after each.
use Rattle.std.specs.Prelude.{◌≡◌, ℕ, zero, suc, ◌+◌, Bool, true, false, cond, not, ◌&&◌, ◌||◌, List, [], ◌∷◌, ◌++◌, map, reverse, length, take, drop, replicate, is_some, Some, None, Option, ◌==◌, ◌≢◌, nat_le, nat_lt, slice_index}
use Rattle.std.specs.List.{AllByRecursion}
use Rattle.freespace.specs.Sets.{counted}
use Rattle.device.specs.Codes.{code_number, layer_number}
use Rattle.device.specs.Device.{Medium}
use Rattle.device.specs.declared.fault.Layer.TheVariants.{Structure}
use Rattle.device.specs.declared.fault.Code.TheVariants.{Done}
use Rattle.chains.specs.Names.{same}
use Rattle.chains.specs.Layout.{Disk, Layout, Entry, null, fixed_sectors, overwritten, reserved, member}
use Rattle.chains.specs.Sound.{DistinctNumbers, Sound}
use Rattle.chains.specs.Reading.{Found, fault, read, parse_layout, reading, sector_at, place, number, zeros}
use Rattle.rules.specs.Model.{Model, File, Reading, Supplied, faulty, sound, Request, Outcome, response, new_model, some_open, closed, UnitState, find, free_count, Initialize}
use Rattle.rules.specs.Effects.{layout_after}

-- ---- what stands on a disk, read off its sectors alone

pub record DirectoryEntry : Type 0 where
  pub name : List ℕ
  pub at : ℕ

abbrev pub listed_from : Disk → ℕ → ℕ → List DirectoryEntry
listed_from ss zero p = []
listed_from ss (suc k) p =
    let bs = place ss p in
    cond (zeros bs) (listed_from ss k (p + 1))
    (record { name = take (slice_index bs 0) (drop 1 bs); at = number bs 33 } ∷ listed_from ss k (p + 1))

-- the directory's entries, in the order of its places
abbrev pub directory_of : Disk → List DirectoryEntry
directory_of ss = listed_from ss 96 0

-- the sectors met from n by forward links until null
abbrev pub onward : Disk → ℕ → ℕ → List ℕ
onward ss zero n = []
onward ss (suc k) n = cond (n == null) [] (n ∷ onward ss k (sector_at ss n).forward)

-- the sectors met from n by back links until null or the descriptor
abbrev pub backward : Disk → ℕ → ℕ → ℕ → List ℕ
backward ss top zero n = []
backward ss top (suc k) n = cond (n == null || n == top) [] (n ∷ backward ss top k (sector_at ss n).back)

abbrev pub chain_forward : Disk → ℕ → List ℕ
chain_forward ss a = onward ss (length ss) (number (sector_at ss a).bytes 0)

abbrev pub chain_backward : Disk → ℕ → List ℕ
chain_backward ss a = backward ss a (length ss) (number (sector_at ss a).bytes 2)

abbrev pub contents : Disk → List ℕ → List (List ℕ)
contents ss = map (λ n. (sector_at ss n).bytes)

abbrev pub chain_sectors : Disk → List DirectoryEntry → List ℕ
chain_sectors ss [] = []
chain_sectors ss (e ∷ es) = (e.at ∷ chain_forward ss e.at) ++ chain_sectors ss es

abbrev pub lists : List ℕ → List DirectoryEntry → Bool
lists n [] = false
lists n (e ∷ es) = same n e.name || lists n es

abbrev pub EachOnce : List DirectoryEntry → Type 0
EachOnce [] = Unit {0}
EachOnce (e ∷ es) = (lists e.name es ≡ false) × EachOnce es

-- the disk and the free sectors agree with the model
pub record Agrees (b : Model) (ss : Disk) (free : ℕ → Bool) : Type 0 where
  -- the directory names exactly the model's files, each once
  pub exactly : (n : List ℕ) → lists n (directory_of ss) ≡ is_some (find n b.files)
  pub each_once : EachOnce (directory_of ss)
  pub as_many : length (directory_of ss) ≡ length b.files
  -- each chain read forward gives its file's records, and read backward their reverse
  pub forward : AllByRecursion (λ e. find e.name b.files ≡ Some (contents ss (chain_forward ss e.at))) (directory_of ss)
  pub backward : AllByRecursion (λ e. contents ss (chain_backward ss e.at) ≡ reverse (contents ss (chain_forward ss e.at))) (directory_of ss)
  -- no sector lies in two chains, and the free sectors are those past the reserved ones and outside every chain
  pub apart : DistinctNumbers (chain_sectors ss (directory_of ss))
  pub unused : (n : ℕ) → free n ≡ (nat_le reserved n && (nat_lt n (length ss) && not (member n (chain_sectors ss (directory_of ss)))))
  -- and there are as many as the model says
  pub size : b.size ≡ length ss
  pub counts : counted free (length ss) ≡ free_count b

-- ---- a call

-- what a call finds and leaves: the device's meaning, the allocator's set, the units and both marks
pub record View : Type 0 where
  pub sectors : Disk
  pub door : Bool
  pub tab : Bool
  pub free : ℕ → Bool
  pub units : List UnitState
  pub initialized : Bool
  pub changed : Bool

abbrev pub file_of : Entry → File
file_of f = record { name = f.name; records = map (λ p. p.bytes) f.records }

abbrev pub files_in : List (Option Entry) → List File
files_in [] = []
files_in (None ∷ es) = files_in es
files_in (Some f ∷ es) = file_of f ∷ files_in es

-- what reading the disk tells the model
abbrev pub as_reading : Found Layout → Reading
as_reading (fault c n) = faulty c n
as_reading (read d) = sound (files_in d.places)

abbrev pub supplied_by : Disk → Supplied
supplied_by ss = record { reading = as_reading (reading ss) }

-- sectors taken from free space, each once
pub record Taken (free : ℕ → Bool) (ns : List ℕ) : Type 0 where
  pub were_free : AllByRecursion (λ n. free n ≡ true) ns
  pub distinct : DistinctNumbers ns

-- a call and the buffer that it finds
pub record Call : Type 0 where
  pub request : Request
  pub buffer : List ℕ

-- the disk after a call: as it was, or with every sector written over that the new layout fixes
abbrev pub DiskAfter : Disk → Option Layout → Disk → Type 0
DiskAfter ss None ss' = ss' ≡ ss
DiskAfter ss (Some d) ss' = ss' ≡ overwritten (fixed_sectors d) ss

-- how a call that is not refused changes the disk, which shows the layout d if the model is initialised
abbrev pub Changes : Model → Disk → Call → List ℕ → Disk → Type 0
Changes b ss q taken ss' =
    (d : Layout) × (b.initialized ≡ true → parse_layout ss ≡ read d) × DiskAfter ss (layout_after d b q.request q.buffer taken) ss'

-- over these sectors, with its door closed, any new drive initialises to these files
pub record Reopens (ss : Disk) (files : List File) : Type 0 where
  pub accepted : (tab : Bool) → (response (new_model (length ss) false tab) (supplied_by ss) Initialize []).code ≡ code_number Done
  pub same_files : (tab : Bool) (n : List ℕ) → find n (response (new_model (length ss) false tab) (supplied_by ss) Initialize []).after.files ≡ find n files
  pub as_many : (tab : Bool) → length (response (new_model (length ss) false tab) (supplied_by ss) Initialize []).after.files ≡ length files

pub record Step (b : Model) (v : View) (q : Call) (o : Outcome) (v' : View) : Type 0 where
  -- the answer, the numbers told and the buffer left are the model's
  pub answer : o ≡ response b (supplied_by v.sectors) q.request q.buffer
  -- and so are door, tab, units and marks
  pub door : v'.door ≡ o.after.door
  pub tab : v'.tab ≡ o.after.tab
  pub units : v'.units ≡ o.after.units
  pub initialized : v'.initialized ≡ o.after.initialized
  pub map_changed : v'.changed ≡ o.after.changed
  -- a refusal leaves sectors, units and buffer as they were, with length 0, and free space too unless the disk was being read
  pub untouched : (o.refused ≡ true → (v'.sectors ≡ v.sectors) × (v'.units ≡ v.units) × (o.buffer ≡ q.buffer) × (o.len ≡ 0))
  pub still_free : (o.refused ≡ true → (q.request ≢ Initialize) → (n : ℕ) → v'.free n ≡ v.free n)
  -- any other call changes the disk as its effect says, and no further
  pub changed : (o.refused ≡ false → (taken : List ℕ) × (length taken ≡ o.added) × Taken v.free taken × Changes b v.sectors q taken v'.sectors)
  -- INITIALIZE takes exactly the sound disks
  pub takes_sound : (q.request ≡ Initialize → o.code ≡ code_number Done → (d : Layout) × Sound d v.sectors)
  pub turns_down_unsound : (q.request ≡ Initialize → o.layer ≡ layer_number Structure → (d : Layout) → Sound d v.sectors → ⊥)
  -- from the first FORMAT or INITIALIZE that is accepted on
  pub stays_initialized : (b.initialized ≡ true → o.after.initialized ≡ true)
  pub agrees : (o.after.initialized ≡ true → Agrees o.after v'.sectors v'.free)
  pub reopens : (o.after.initialized ≡ true → some_open o.after ≡ false → Reopens v'.sectors o.after.files)

-- a list of calls, each from where the last one left off
pub data Run : Model → View → List Call → List Outcome → Model → View → Type 0 where
  none : {b : Model} {v : View} → Run b v [] [] b v
  more : {b : Model} {v v' v'' : View} {q : Call} {o : Outcome} {qs : List Call} {os : List Outcome} {b'' : Model} →
      Step b v q o v' → Run o.after v' qs os b'' v'' → Run b v (q ∷ qs) (o ∷ os) b'' v''

-- ---- what a list of calls gives, from a new drive

-- what a caller sees of an outcome
pub record Told : Type 0 where
  pub code : ℕ
  pub len : ℕ
  pub layer : ℕ
  pub sector : ℕ
  pub numbers : List ℕ
  pub buffer : List ℕ

abbrev pub told : Outcome → Told
told o = record { code = o.code; len = o.len; layer = o.layer; sector = o.sector; numbers = o.numbers; buffer = o.buffer }

abbrev pub new_view : Medium → (ℕ → Bool) → View
new_view m free = record { sectors = m.sectors; door = m.door; tab = m.tab; free = free; units = replicate 16 closed; initialized = false; changed = false }

-- from a new drive over this device and allocator, these calls are told these answers and leave it so
abbrev pub Ran : Medium → (ℕ → Bool) → List Call → List Told → Model → View → Type 0
Ran m free qs ts b v =
    (os : List Outcome) × (map told os ≡ ts) × Run (new_model (length m.sectors) m.door m.tab) (new_view m free) qs os b v

-- once initialised and with every unit closed, the sectors that such calls leave serve a new drive, with the same files
abbrev pub LeavesReopenable : Type 0
LeavesReopenable =
    (m : Medium) (free : ℕ → Bool) (qs : List Call) (ts : List Told) (b : Model) (v : View) →
    Ran m free qs ts b v → b.initialized ≡ true → some_open b ≡ false → Reopens v.sectors b.files

-- a medium with the sectors that some run left with every unit closed: its door is closed too, and its tab is as it may
pub record LeftClosed (m : Medium) (b : Model) : Type 0 where
  pub began : Medium
  pub free : ℕ → Bool
  pub calls : List Call
  pub answers : List Told
  pub view : View
  pub ran : Ran began free calls answers b view
  pub initialized : b.initialized ≡ true
  pub closed : some_open b ≡ false
  pub sectors : m.sectors ≡ view.sectors
  pub door : m.door ≡ false

-- the same files, by look-up and number
pub record SameFiles (fs gs : List File) : Type 0 where
  pub looked_up : (n : List ℕ) → find n fs ≡ find n gs
  pub as_many : length fs ≡ length gs

-- what examining a device answers: the reading of a new drive, from the door on
abbrev pub examined : Medium → Told
examined m = told (response (new_model (length m.sectors) m.door true) (supplied_by m.sectors) Initialize [])
