-- One place of the directory: what a look at it adds to what was found, and its sector with other bytes there.
use Rattle.std.specs.Prelude.{◌≡◌, ℕ, ◌+◌, ◌*◌, ◌/◌, ◌%◌, ◌<◌, Bool, false, cond, ◌&&◌, List, ◌++◌, take, drop, Some, Ok, Option, Result, nat_le, slice_index, slice_set}
use Rattle.std.specs.Option.{option_or}
use Rattle.device.specs.declared.fault.Code.TheVariants.{InvalidOperation}
use Rattle.device.specs.declared.fault.Fault.{Fault}
use Rattle.device.specs.declared.sector.Sector.{Sector}
use Rattle.device.specs.Device.{Medium, wrote}
use Rattle.chains.specs.declared.lookup.Lookup.{Lookup}
use Rattle.chains.specs.Names.{same}
use Rattle.chains.specs.Layout.{Layout, Entry, Placed, null, sector}
use Rattle.chains.specs.Reading.{sector_at, zeros}
use Rattle.chains.specs.Survey.{address_in, name_in, structure_fault}
use Rattle.chains.specs.Changes.{LaidOut, directory_sector}

-- whether the bytes of a place list this name
abbrev pub lists : List ℕ → List ℕ → Bool
lists n bs = nat_le (slice_index bs 0) 32 && same n (name_in bs)

-- what was found, with these bytes of place p looked at too: the first file of this name and the first empty place stay
unfoldable pub place_seen : List ℕ → Lookup → ℕ → List ℕ → Lookup
place_seen n l p bs =
    cond (zeros bs) (record { file = l.file; empty = option_or l.empty (Some p) })
    (cond (lists n bs) (record { file = option_or l.file (Some (record { place = p; descriptor = address_in bs })); empty = l.empty }) l)

-- the same for the three places of a sector, of which p is the first
abbrev pub sector_seen : List ℕ → Lookup → ℕ → List ℕ → Lookup
sector_seen n l p bs = place_seen n (place_seen n (place_seen n l p (take 40 bs)) (p + 1) (take 40 (drop 40 bs))) (p + 2) (take 40 (drop 80 bs))

-- the sector of place p with these 40 bytes there
abbrev pub with_place : Sector → ℕ → List ℕ → Sector
with_place s p bs = sector (take (40 * (p % 3)) s.bytes ++ (bs ++ drop (40 * (p % 3) + 40) s.bytes)) s.back s.forward

-- the medium with these bytes at place p, and nothing else changed
abbrev pub place_written : Medium → ℕ → List ℕ → Medium
place_written m p bs = wrote m (4 + p / 3) (with_place (sector_at m.sectors (4 + p / 3)) p bs)

-- what is no place, or has no room for the name
abbrev pub no_such_place : Fault
no_such_place = structure_fault InvalidOperation null

abbrev pub entry_of : List ℕ → ℕ → List Placed → Entry
entry_of n a ps = record { name = n; at = a; records = ps }

-- on a disk that shows a layout, nothing refuses, and the directory has this at place p and is else as it was
abbrev pub PlaceChanged : Medium → ℕ → Option Entry → Result Unit Fault → Medium → Type 0
PlaceChanged m p e r after =
    (d : Layout) → LaidOut d m.sectors → p < 96 → m.door ≡ false → m.tab ≡ false →
    (r ≡ Ok tt) × (after ≡ wrote m (4 + p / 3) (directory_sector (slice_set d.places p e) (p / 3)))
