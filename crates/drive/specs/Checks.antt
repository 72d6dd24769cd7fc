-- The checks that a call makes before it does anything, as faults.
use Rattle.std.specs.Prelude.{ℕ, Bool, cond, not, List, [], ◌∷◌, Ok, Err, Result}
use Rattle.device.specs.declared.fault.Code.{Code}
use Rattle.device.specs.declared.fault.Code.TheVariants as code
use Rattle.device.specs.declared.fault.Fault.{Fault}
use Rattle.device.specs.declared.fault.Layer.{Layer}
use Rattle.chains.specs.Layout.{sized}
use Rattle.chains.specs.Names.{legal_id}
use Rattle.rules.specs.Model.{Check, request_check, door_check, tab_check}

-- a fault that names no sector
abbrev pub plain_fault : Code → Layer → Fault
plain_fault c l = record { code = c; layer = l; sector = 0xFFFF }

-- the first check that applies
abbrev pub first_fault : List Check → Result Unit Fault
first_fault [] = Ok tt
first_fault (c ∷ cs) = cond c.applies (Err (plain_fault c.code c.layer)) (first_fault cs)

-- INITIALIZE: whether a unit is open, the door and the disk's size
abbrev pub initialize_checks : Bool → Bool → ℕ → List Check
initialize_checks busy door size =
    request_check busy code.AlreadyOpen ∷ door_check door ∷ request_check (not (sized size)) code.BadSize ∷ []

-- FORMAT: whether a unit is open, the door, the tab, the disk's size and the ID
abbrev pub format_checks : Bool → Bool → Bool → ℕ → List ℕ → List Check
format_checks busy door tab size id =
    request_check busy code.AlreadyOpen ∷ door_check door ∷ tab_check tab ∷ request_check (not (sized size)) code.BadSize ∷
    request_check (not (legal_id id)) code.BadLabel ∷ []
