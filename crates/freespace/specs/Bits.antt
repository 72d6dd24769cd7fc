-- A set of numbers kept as bits: number n is bit n mod 8 of byte n div 8.
use Rattle.std.specs.Prelude.{ℕ, ◌/◌, ◌%◌, ◌^◌, Bool, List, ◌==◌, slice_index}

abbrev pub bit_at : ℕ → ℕ → Bool
bit_at b k = b / 2 ^ k % 2 == 1

abbrev pub bit_of : List ℕ → ℕ → Bool
bit_of bits n = bit_at (slice_index bits (n / 8)) (n % 8)
