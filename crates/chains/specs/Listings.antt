-- What the directory lists at one of its places: a file's name and how many records it has.
use Rattle.std.specs.Prelude.{◌≡◌, ℕ, ◌+◌, ◌/◌, Bool, true, false, cond, ◌&&◌, List, Some, None, Ok, Err, Option, Result, MatchOption, nat_lt}
use Rattle.device.specs.declared.fault.Fault.{Fault}
use Rattle.device.specs.Device.{Medium, fetched}
use Rattle.chains.specs.declared.listing.FileEntry.{FileEntry}
use Rattle.chains.specs.declared.place.Place.{Place}
use Rattle.chains.specs.Names.{legal}
use Rattle.chains.specs.NameBytes.{name_bytes}
use Rattle.chains.specs.Reading.{number, place, sector_at}
use Rattle.chains.specs.Survey.{address_in, name_in, next, well_formed_place}

-- a file as it is listed
pub record Listed : Type 0 where
  pub name : List ℕ
  pub records : ℕ

-- whether the bytes of a place name a file
abbrev pub names_file : List ℕ → Bool
names_file bs = well_formed_place bs && legal (name_in bs)

-- the count of the descriptor in sector n, if the device gives that sector
abbrev pub record_count : Medium → ℕ → Result ℕ Fault
record_count m n = next (fetched m n) (λ d. Ok (number d.bytes 4))

-- the file that these bytes of a place name
abbrev pub file_in : Medium → List ℕ → Result (Option Listed) Fault
file_in m bs = next (record_count m (address_in bs)) (λ k. Ok (Some (record { name = name_in bs; records = k })))

-- the file that place p of the directory names, if it names one; none past the last place
unfoldable pub listing : Medium → ℕ → Result (Option Listed) Fault
listing m p = cond (nat_lt p 96) (next (fetched m (4 + p / 3)) (λ _. cond (names_file (place m.sectors p)) (file_in m (place m.sectors p)) (Ok None))) (Ok None)

-- an answer of the code in these words
abbrev pub shown : Result (Option FileEntry) Fault → Result (Option Listed) Fault
shown (Err f) = Err f
shown (Ok None) = Ok None
shown (Ok (Some e)) = Ok (Some (record { name = name_bytes e.name; records = e.records }))

-- what the bytes of a place were taken for
abbrev pub Parsed : List ℕ → Option Place → Type 0
Parsed bs o =
    MatchOption o (names_file bs ≡ false)
    (λ q. (names_file bs ≡ true) × (name_bytes q.name ≡ name_in bs) × (q.at ≡ address_in bs))

-- what a read of place p answered: the device's refusal, or the place, if it names a file
abbrev pub PlaceRead : Medium → ℕ → Result (Option Place) Fault → Type 0
PlaceRead m p (Err f) = fetched m (4 + p / 3) ≡ Err f
PlaceRead m p (Ok o) =
    (fetched m (4 + p / 3) ≡ Ok (sector_at m.sectors (4 + p / 3))) × Parsed (place m.sectors p) o
