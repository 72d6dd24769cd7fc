-- A text of ASCII characters has one byte for each.
use Rattle.std.proofs.Common.{◌≡◌, ℕ, ◌<◌, List, [], ◌∷◌, map}
use Rattle.std.proofs.Math.Utf8.{encodes}
use Rattle.std.specs.Str.{IsAscii}
use Rattle.std.proofs.lemmas.Str.Ascii.{IsAscii-nil, IsAscii-cons, encodes-IsAscii}

ascii_map : (f : ℕ → ℕ) → ((x : ℕ) → f x < 128) → (xs : List ℕ) → IsAscii (map f xs)
ascii_map f low [] = IsAscii-nil
ascii_map f low (x ∷ xs) = IsAscii-cons (f x) (map f xs) (low x) (ascii_map f low xs)

pub encodes_map : (f : ℕ → ℕ) → ((x : ℕ) → f x < 128) → (xs : List ℕ) → encodes (map f xs) ≡ map f xs
encodes_map f low xs = encodes-IsAscii (map f xs) (ascii_map f low xs)
