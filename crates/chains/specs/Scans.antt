-- What the code keeps while it reads a disk, in the words of the survey, and what reading a disk promises.
use Rattle.std.specs.Prelude.{◌≡◌, ℕ, true, false, List, map, length, Ok, Err, Result}
use Rattle.arrayvec.specs.ArrayVec.{ArrayVec, array_vec_len}
use Rattle.device.specs.declared.fault.Code.TheVariants.{BadLabel, NotReady}
use Rattle.device.specs.declared.fault.Fault.{Fault}
use Rattle.device.specs.declared.reading.ReadingDevice.{Ghosts}
use Rattle.device.specs.Device.{Medium, device_fault}
use Rattle.freespace.specs.Bits.{bit_of}
use Rattle.chains.specs.declared.name.Name.{Name}
use Rattle.chains.specs.declared.scan.ReadableDisk.{ReadableDisk}
use Rattle.chains.specs.declared.scan.Scan.{Scan}
use Rattle.chains.specs.declared.survey.Survey.{Survey}
use Rattle.chains.specs.Layout.{Disk, Layout, sized, member, numbers, chains}
use Rattle.chains.specs.NameBytes.{name_bytes}
use Rattle.chains.specs.Reading.{among, reading}
use Rattle.chains.specs.Sound.{entries}
use Rattle.chains.specs.Survey.{Seen, Tells, next, structure_fault}

abbrev pub listed_names : ArrayVec Name → List (List ℕ)
listed_names t = map name_bytes t.items

module _ {D : Type 0} {G : Ghosts D} where
  -- the sectors that are read
  abbrev pub disk_of : ReadableDisk D G → Disk
  disk_of d = (G.medium d.device.now).sectors

  -- the same device is lent, with the same medium and the same size
  pub record Keeps (d e : ReadableDisk D G) : Type 0 where
    pub device : e.device.ghost_name ≡ d.device.ghost_name
    pub medium : G.medium e.device.now ≡ G.medium d.device.now
    pub size : e.size ≡ d.size

  abbrev pub seen_of : Scan D G → Seen
  seen_of s = record { met = bit_of s.met.bits; names = λ n. among n (listed_names s.names); files = array_vec_len s.names }

  -- a part of the survey that was done by code: the same fault, or the scan as the survey says
  abbrev pub Scans : Result Seen Fault → Result Unit Fault → Scan D G → Type 0
  Scans x r s = x ≡ next r (λ _. Ok (seen_of s))

-- the survey of a disk that is laid out so
pub record Shows (d : Layout) (s : Survey) : Type 0 where
  pub files : s.files ≡ length (entries d.places)
  pub used : (n : ℕ) → bit_of s.used.bits n ≡ member n (numbers (chains d.places))

-- what reading this medium answers: a size that no label can hold, an open door, or as the disk is read
pub record DiskRead (m : Medium) (r : Result Survey Fault) : Type 0 where
  pub unfit : sized (length m.sectors) ≡ false → r ≡ Err (structure_fault BadLabel 0)
  pub open_door : sized (length m.sectors) ≡ true → m.door ≡ true → r ≡ Err (device_fault NotReady)
  pub found : sized (length m.sectors) ≡ true → m.door ≡ false → Tells Shows (reading m.sectors) r
