-- The map brought up to date: the bytes new, the links as they are.
use Rattle.std.specs.Prelude.{ℕ, ◌+◌, Bool, not, ◌||◌, List, map, nat_le, nat_lt, slice_set}
use Rattle.std.specs.List.{range_with_len}
use Rattle.device.specs.declared.sector.Sector.{Sector}
use Rattle.device.specs.Device.{Medium}
use Rattle.chains.specs.Layout.{Disk, Layout, NumberedSector, numbered, sector, reserved, allocated}
use Rattle.chains.specs.Fresh.{map_sector_bytes}
use Rattle.chains.specs.Reading.{sector_at}
use Rattle.chains.specs.Changes.{saved_map_sector}

-- what the map marks while these sectors are free: the reserved sectors, all numbers past the end, and the others that are not free
abbrev pub marks_by : ℕ → (ℕ → Bool) → ℕ → Bool
marks_by size free n = nat_lt n reserved || (nat_le size n || not (free n))

-- map sector 1 + j with these marks
unfoldable pub remapped : Disk → (ℕ → Bool) → ℕ → Sector
remapped ss marks j = sector (map_sector_bytes marks j) (sector_at ss (1 + j)).back (sector_at ss (1 + j)).forward

abbrev pub remapped_at : Disk → (ℕ → Bool) → ℕ → NumberedSector
remapped_at ss marks j = numbered (1 + j) (remapped ss marks j)

-- the map with these marks
abbrev pub remapped_all : Disk → (ℕ → Bool) → List NumberedSector
remapped_all ss marks = map (remapped_at ss marks) (range_with_len 0 3)

-- the medium of a disk with this layout, with its map up to date
unfoldable pub with_map : Layout → Medium → Medium
with_map d m =
    let marks = allocated d.size d.places in
    record {
      sectors = slice_set (slice_set (slice_set m.sectors 3 (saved_map_sector d marks 2)) 2 (saved_map_sector d marks 1)) 1 (saved_map_sector d marks 0);
      door = m.door;
      tab = m.tab;
    }
