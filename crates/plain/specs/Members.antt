-- A set of numbers kept as a list of its members.
use Rattle.std.specs.Prelude.{ℕ, Bool, List, ◌==◌}
use Rattle.std.specs.List.{list_any}

abbrev pub listed : List ℕ → ℕ → Bool
listed ms n = list_any (λ m. m == n) ms
