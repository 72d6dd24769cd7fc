-- The units as the drive holds them, and as the model has them.
use Rattle.std.specs.Prelude.{ℕ, Bool, cond, not, List, map, Some, None, Ok, Err, Option, Result, ◌==◌}
use Rattle.device.specs.declared.fault.Code.TheVariants.{FileNotOpen, UnitInUse}
use Rattle.device.specs.declared.fault.Fault.{Fault}
use Rattle.device.specs.declared.fault.Layer.TheVariants.{Request}
use Rattle.chains.specs.NameBytes.{name_bytes}
use Rattle.rules.specs.Model.{UnitState, closed, holds, has_name, is_closed, any}
use Rattle.drive.specs.declared.units.Kind.{Kind}
use Rattle.drive.specs.declared.units.Kind.TheVariants.{Input, New, Output, Append}
use Rattle.drive.specs.declared.units.UnitState.{UnitState as SlotState}
use Rattle.drive.specs.declared.units.UnitState.TheVariants as unit
use Rattle.drive.specs.declared.units.UnitRequest.{UnitRequest}
use Rattle.drive.specs.declared.units.UnitRequest.TheVariants as asked
use Rattle.drive.specs.declared.units.Unit.{Unit as Slot}
use Rattle.drive.specs.Checks.{plain_fault}

abbrev pub kind_number : Kind → ℕ
kind_number Input = 0
kind_number New = 1
kind_number Output = 2
kind_number Append = 3

abbrev pub state_of : SlotState → List ℕ → UnitState
state_of unit.Closed n = closed
state_of (unit.Open f) n = holds n (kind_number f.kind) f.cursor

abbrev pub unit_of : Slot → UnitState
unit_of u = state_of u.state (name_bytes u.name)

abbrev pub is_open : UnitState → Bool
is_open s = not (is_closed s)

-- whether some unit of the table is open
abbrev pub any_open : List Slot → Bool
any_open us = any is_open (map unit_of us)

-- whether some unit of the table holds the file of this name
abbrev pub any_named : List ℕ → List Slot → Bool
any_named n us = any (has_name n) (map unit_of us)

-- the kind of this number
abbrev pub kind_from : ℕ → Option Kind
kind_from n = cond (n == 0) (Some Input) (cond (n == 1) (Some New) (cond (n == 2) (Some Output) (cond (n == 3) (Some Append) None)))

-- the state that a request leads to, or its refusal
abbrev pub stepped : SlotState → UnitRequest → Result SlotState Fault
stepped unit.Closed (asked.Open f) = Ok (unit.Open f)
stepped unit.Closed asked.Close = Err (plain_fault FileNotOpen Request)
stepped unit.Closed asked.Rewind = Err (plain_fault FileNotOpen Request)
stepped (unit.Open f) (asked.Open g) = Err (plain_fault UnitInUse Request)
stepped (unit.Open f) asked.Close = Ok unit.Closed
stepped (unit.Open f) asked.Rewind = Ok (unit.Open (record f { cursor = 0; current = f.descriptor }))
