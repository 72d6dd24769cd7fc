-- What making a new disk answers, and what it leaves.
use Rattle.std.specs.Prelude.{ℕ, cond, ◌&&◌, List, length, Err, Result}
use Rattle.device.specs.declared.fault.Fault.{Fault}
use Rattle.device.specs.declared.fault.Code.TheVariants.{BadLabel}
use Rattle.device.specs.declared.fault.Layer.TheVariants.{Structure}
use Rattle.device.specs.Device.{Medium, stored}
use Rattle.chains.specs.Names.{legal_id}
use Rattle.chains.specs.Layout.{Disk, sized, fixed_sectors, formatted, overwritten}

-- a size or an ID that no label can hold, then the device's own refusals
abbrev pub format_answer : Medium → List ℕ → Result Unit Fault
format_answer m id =
    cond (sized (length m.sectors) && legal_id id) (stored m 0)
    (Err (record { code = BadLabel; layer = Structure; sector = 0 }))

-- the disk with label, map and directory written over, and no file
unfoldable pub formatted_disk : List ℕ → Disk → Disk
formatted_disk id ss = overwritten (fixed_sectors (formatted id (length ss))) ss

abbrev pub formatted_medium : Medium → List ℕ → Medium
formatted_medium m id = record { sectors = formatted_disk id m.sectors; door = m.door; tab = m.tab }
