-- Descriptors by their fields, and what reading or writing one answers.
use Rattle.std.specs.Prelude.{ℕ, cond, List, ◌∷◌, ◌++◌, length, replicate, Ok, Err, Result, nat_le}
use Rattle.device.specs.declared.sector.Sector.{Sector}
use Rattle.device.specs.declared.fault.Code.TheVariants.{BadEntry}
use Rattle.device.specs.declared.fault.Fault.{Fault}
use Rattle.device.specs.Device.{Medium, fetched, stored}
use Rattle.chains.specs.declared.descriptor.Descriptor.{Descriptor}
use Rattle.chains.specs.Layout.{Placed, null, sector, word, padded, first_of, last_of}
use Rattle.chains.specs.Reading.{number}
use Rattle.chains.specs.Survey.{next, structure_fault}

-- the fields for these records
abbrev pub fields_of : List Placed → Descriptor
fields_of ps = record { first = first_of ps; last = last_of ps; count = length ps }

-- the descriptor of a file of this name
unfoldable pub described : List ℕ → Descriptor → Sector
described name fields =
    sector
    (word fields.first ++ (word fields.last ++ (word fields.count ++
    (0 ∷ length name ∷ (padded 32 name ++ replicate 88 0)))))
    null fields.first

-- the fields in the bytes of a descriptor
abbrev pub fields_in : List ℕ → Descriptor
fields_in bs = record { first = number bs 0; last = number bs 2; count = number bs 4 }

-- reading the descriptor in sector n, if the device gives that sector
abbrev pub descriptor_read : Medium → ℕ → Result Descriptor Fault
descriptor_read m n = next (fetched m n) (λ s. Ok (fields_in s.bytes))

-- writing a descriptor with this name to sector n: a name that no descriptor can hold, then as the device answers
abbrev pub descriptor_stored : Medium → ℕ → List ℕ → Result Unit Fault
descriptor_stored m n name = cond (nat_le (length name) 32) (stored m n) (Err (structure_fault BadEntry n))
