-- What a drive knows of its disk, if it knows it.
use Rattle.std.specs.Prelude.{ℕ, ◌-◌, Bool, false, Option}
use Rattle.std.specs.Option.{option_map, option_map_or}
use Rattle.drive.specs.declared.units.KnownDisk.{KnownDisk}

abbrev pub map_changed : Option KnownDisk → Bool
map_changed o = option_map_or (λ k. k.changed) o false

abbrev pub file_count : Option KnownDisk → ℕ
file_count o = option_map_or (λ k. k.files) o 0

-- one file less, and the map is up to date
abbrev pub without_file : Option KnownDisk → Option KnownDisk
without_file = option_map (λ k. record { changed = false; files = k.files - 1 })
