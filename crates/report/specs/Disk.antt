-- What lies on a disk, as text; of sectors that cannot be read nothing is shown.
use Rattle.std.specs.Prelude.{ℕ, ◌+◌, ◌/◌, List, [], ◌∷◌, ◌++◌, Result, Ok, Err, length, take, codes}
use Rattle.std.specs.List.{concat, flat_map, range_with_len}
use Rattle.device.specs.Device.{Medium, fetched}
use Rattle.device.specs.declared.fault.Fault.{Fault}
use Rattle.device.specs.declared.sector.Sector.{Sector}
use Rattle.report.specs.Text.{hex_text, link_text, map_text, newline}

abbrev pub data_of : Result Sector Fault → List ℕ
data_of (Ok s) = s.bytes
data_of (Err f) = []

-- the data bytes of n sectors, from sector a on
abbrev pub sector_data : Medium → ℕ → ℕ → List ℕ
sector_data m a n = flat_map (λ k. data_of (fetched m k)) (range_with_len a n)

abbrev pub link_of : ℕ → Result Sector Fault → List ℕ
link_of n (Ok s) = link_text n s ++ newline
link_of n (Err f) = []

-- the links of n sectors, from sector a on, a line each
abbrev pub links_text : Medium → ℕ → ℕ → List ℕ
links_text m a n = flat_map (λ k. link_of k (fetched m k)) (range_with_len a n)

-- the map's bytes that have a bit for a sector of the disk
abbrev pub map_in_use : Medium → List ℕ
map_in_use m = take ((length m.sectors + 7) / 8) (sector_data m 1 3)

abbrev pub disk_text : Medium → List ℕ
disk_text m = concat (
    newline ∷ codes "Label, sector 0:" ∷ newline ∷ hex_text (sector_data m 0 1)
    ∷ newline ∷ codes "Map, sectors 1 to 3:" ∷ newline ∷ hex_text (sector_data m 1 3)
    ∷ newline ∷ codes "Sectors allocated (#) and free (.), by the map:" ∷ newline ∷ map_text (map_in_use m)
    ∷ newline ∷ codes "Links of the directory:" ∷ newline ∷ links_text m 4 32 ∷ [])
