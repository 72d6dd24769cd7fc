-- What the code promises of one file, in the words of the survey.
use Rattle.std.specs.Prelude.{◌≡◌, ℕ, ◌+◌, ◌<◌, ◌||◌, List, length, Ok, Err, Result, ◌==◌}
use Rattle.device.specs.declared.fault.Code.TheVariants.{PointerError, NotInDirectory}
use Rattle.device.specs.declared.fault.Fault.{Fault}
use Rattle.chains.specs.declared.place.Place.{Place}
use Rattle.chains.specs.Layout.{Disk}
use Rattle.chains.specs.Names.{same}
use Rattle.chains.specs.NameBytes.{name_bytes}
use Rattle.chains.specs.Reading.{number, sector_at}
use Rattle.chains.specs.Survey.{Seen, also, need, next, last_field, walk_on, named_as, descriptor_shaped, file_on}

-- the records of the file `name`, whose descriptor at `at` is met already, and then its last field
abbrev pub records_from : Disk → ℕ → List ℕ → Seen → Result Seen Fault
records_from ss at name s =
    next (walk_on ss s.met at (number (sector_at ss at).bytes 4)) (λ w.
    need (number (sector_at ss at).bytes 2 == last_field (number (sector_at ss at).bytes 4) w.at) PointerError at
    (Ok (record { met = w.met; names = λ n. same n name || s.names n; files = s.files + 1 })))

-- the file that a place names, whose descriptor at `at` is met already
abbrev pub descriptor_from : Disk → ℕ → List ℕ → List ℕ → Seen → Result Seen Fault
descriptor_from ss at name bs s =
    need (named_as (sector_at ss at) bs) NotInDirectory at
    (need (descriptor_shaped (sector_at ss at)) PointerError at
    (records_from ss at name s))

-- the sector n is met too
abbrev pub with_met : ℕ → Seen → Seen
with_met n s = record { met = also n s.met; names = s.names; files = s.files }

-- the way from the bytes of a place to the file's descriptor: the survey's fault, or what is left to survey
abbrev pub Enters : Disk → Seen → ℕ → List ℕ → Result Place Fault → Seen → Type 0
Enters ss s from bs (Err f) t = file_on ss s from bs ≡ Err f
Enters ss s from bs (Ok p) t = (p.at < length ss) × (file_on ss s from bs ≡ descriptor_from ss p.at (name_bytes p.name) bs t)
