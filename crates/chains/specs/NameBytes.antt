-- The bytes of a file name as the code holds it.
use Rattle.std.specs.Prelude.{ℕ, List, take}
use Rattle.chains.specs.declared.name.Name.{Name}

abbrev pub name_bytes : Name → List ℕ
name_bytes n = take n.size n.bytes
