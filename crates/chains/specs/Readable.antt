-- What the code asks of a disk that it reads through.
use Rattle.std.specs.Prelude.{◌≡◌, ◌≤◌, false, length}
use Rattle.std.specs.List.{AllByRecursion}
use Rattle.device.specs.Device.{Medium, WellFormed}

-- a disk that can be read: the door is closed, the sectors are whole, and the size is one that a disk can have
pub record Readable (m : Medium) : Type 0 where
  pub closed : m.door ≡ false
  pub whole : AllByRecursion WellFormed m.sectors
  pub long : 64 ≤ length m.sectors
  pub short : length m.sectors ≤ 2464
