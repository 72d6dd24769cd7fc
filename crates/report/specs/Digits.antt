-- Numbers as text: capital hexadecimal digits, and base ten.
use Rattle.std.specs.Prelude.{ℕ, zero, suc, ◌+◌, ◌/◌, ◌%◌, cond, List, [], ◌∷◌, ◌++◌, nat_lt}

abbrev pub hex_digit : ℕ → ℕ
hex_digit n = cond (nat_lt n 10) (48 + n) (55 + n)

-- two digits
abbrev pub hex_byte : ℕ → List ℕ
hex_byte n = hex_digit (n / 16) ∷ hex_digit (n % 16) ∷ []

-- four digits
abbrev pub hex_word : ℕ → List ℕ
hex_word n = hex_byte (n / 256) ++ hex_byte (n % 256)

-- at most k digits, the last one last, and no zero in front
abbrev pub base_ten_within : ℕ → ℕ → List ℕ
base_ten_within zero n = []
base_ten_within (suc k) n = cond (nat_lt n 10) ((48 + n) ∷ []) (base_ten_within k (n / 10) ++ (48 + n % 10) ∷ [])

-- a number of 16 bits: five digits are enough
abbrev pub base_ten : ℕ → List ℕ
base_ten n = base_ten_within 5 n
