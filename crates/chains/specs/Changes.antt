-- How the parts of a disk that shows a layout are found, and what they are after a change.
use Rattle.std.specs.Prelude.{◌≡◌, ℕ, ◌+◌, Bool, cond, List, [], ◌∷◌, length, Some, None, Option}
use Rattle.device.specs.declared.sector.Sector.{Sector}
use Rattle.chains.specs.declared.lookup.Located.{Located}
use Rattle.chains.specs.declared.lookup.Lookup.{Lookup}
use Rattle.chains.specs.Names.{same}
use Rattle.chains.specs.Layout.{Disk, Layout, Entry, Contains, sector, null, first_of, fixed_sectors, descriptor_bytes, directory_bytes, directory_back, directory_forward, reserved_link}
use Rattle.chains.specs.Fresh.{map_sector_bytes}
use Rattle.chains.specs.Sound.{ValidLayout}

-- the disk shows this layout, whatever its map says
pub record LaidOut (d : Layout) (ss : Disk) : Type 0 where
  pub proper : ValidLayout d
  pub size : length ss ≡ d.size
  pub shows : Contains (fixed_sectors d) ss

-- where the places from p on list this name
abbrev pub located : List ℕ → ℕ → List (Option Entry) → Option Located
located n p [] = None
located n p (None ∷ es) = located n (p + 1) es
located n p (Some f ∷ es) = cond (same n f.name) (Some (record { place = p; descriptor = f.at })) (located n (p + 1) es)

-- the lowest empty one of the places from p on
abbrev pub first_empty : ℕ → List (Option Entry) → Option ℕ
first_empty p [] = None
first_empty p (None ∷ es) = Some p
first_empty p (Some f ∷ es) = first_empty (p + 1) es

abbrev pub lookup_of : List ℕ → List (Option Entry) → Lookup
lookup_of n es = record { file = located n 0 es; empty = first_empty 0 es }

-- the directory's sector i with these places
abbrev pub directory_sector : List (Option Entry) → ℕ → Sector
directory_sector es i = sector (directory_bytes es i) (directory_back i) (directory_forward i)

-- the descriptor of a file
abbrev pub descriptor_sector : Entry → Sector
descriptor_sector f = sector (descriptor_bytes f) null (first_of f.records)

-- map sector 1 + j with these marks, and the links that the layout keeps for it
abbrev pub saved_map_sector : Layout → (ℕ → Bool) → ℕ → Sector
saved_map_sector d marks j = sector (map_sector_bytes marks j) (reserved_link d (1 + j)).back (reserved_link d (1 + j)).forward
