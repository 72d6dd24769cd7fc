-- The sectors of a new disk, under names that stay shut: goals do not unfold them.
use Rattle.std.specs.Prelude.{◌≡◌, ℕ, cond, is_ok, Result, ◌+◌, ◌*◌, Bool, ◌||◌, List, map, replicate, None, nat_le, nat_lt}
use Rattle.std.specs.List.{range_with_len}
use Rattle.device.specs.declared.sector.Sector.{Sector}
use Rattle.device.specs.declared.fault.Fault.{Fault}
use Rattle.device.specs.Device.{Medium, stored}
use Rattle.chains.specs.Layout.{NumberedSector, numbered, sector, null, reserved, overwritten, label_bytes, map_byte, directory_bytes, directory_back, directory_forward}

-- n sectors from `start` on
unfoldable pub row : ℕ → ℕ → (ℕ → Sector) → List NumberedSector
row start n made = map (λ i. numbered (start + i) (made i)) (range_with_len 0 n)

unfoldable pub label_sector : List ℕ → ℕ → Sector
label_sector id s = sector (label_bytes id s) null null

-- what the map of a disk with no file marks: the reserved sectors, and all numbers past the end
abbrev pub fresh_marks : ℕ → ℕ → Bool
fresh_marks s n = nat_lt n reserved || nat_le s n

abbrev pub map_sector_bytes : (ℕ → Bool) → ℕ → List ℕ
map_sector_bytes m j = map (λ k. map_byte m (1024 * j + 8 * k)) (range_with_len 0 128)

unfoldable pub map_sector : (ℕ → Bool) → ℕ → Sector
map_sector m j = sector (map_sector_bytes m j) null null

abbrev pub map_sectors : (ℕ → Bool) → List NumberedSector
map_sectors m = row 1 3 (map_sector m)

unfoldable pub empty_directory_sector : ℕ → Sector
empty_directory_sector i = sector (directory_bytes (replicate 96 None) i) (directory_back i) (directory_forward i)

abbrev pub empty_directory : List NumberedSector
empty_directory = row 4 32 empty_directory_sector

-- the medium with these sectors written over
abbrev pub written_over : List NumberedSector → Medium → Medium
written_over xs m = record { sectors = overwritten xs m.sectors; door = m.door; tab = m.tab }

-- what writing these sectors answers, and what it leaves
pub record RowWritten (xs : List NumberedSector) (m : Medium) (r : Result Unit Fault) (now : Medium) : Type 0 where
  pub value : r ≡ stored m 0
  pub after : now ≡ cond (is_ok r) (written_over xs m) m
