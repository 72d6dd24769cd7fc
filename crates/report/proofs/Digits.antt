-- std's digits of a byte and of a word are those of the statements.
use Rattle.std.proofs.Common.{◌≡◌, ℕ, suc, ◌-◌, ◌/◌, ◌%◌, ◌^◌, ◌<◌, ◌≤◌, Bool, true, false, cond, List, [], ◌∷◌, decimal, nat_eq, sym, ap, ◌∙◌, eq-eqb, arith, rules}
use borrow.Author.Tests.{ne_eqb}
use Rattle.std.proofs.Math.Logic.{⊎_elim}
use Rattle.std.specs.Fmt.{char_count, digits, digits_onto, format_spec, padded_integral}
use Rattle.std.proofs.lemmas.Bool.{cases_lt}
use Rattle.std.proofs.lemmas.Fmt.{AppendsLastDigit, decimal_from_appends, hex_byte, hex_one_digit, hex_two_digits, length-decimal-le}
use Rattle.report.specs.Digits as ours

spells : AppendsLastDigit ours.base_ten_within
spells = search rules

pub decimal_base_ten : (n : ℕ) → n < 2 ^ 16 → decimal n ≡ ours.base_ten n
decimal_base_ten n h =
    sym (decimal_from_appends ours.base_ten_within spells 5 n (omega arith) (length-decimal-le 5 n (omega arith) (omega arith) (omega arith)))

pub padded_hex_byte : (n : ℕ) → n < 2 ^ 8 → padded_integral (format_spec 32 0 4 2 (2 ^ 64 - 1)) false [] (digits 16 true n) ≡ ours.hex_byte n
padded_hex_byte n h = hex_byte true n (omega arith)

onto_when : (k n : ℕ) (acc : List ℕ) (t : Bool) → nat_eq (n / 16) 0 ≡ t → digits_onto (suc k) 16 true n acc ≡ cond t (ours.hex_digit (n % 16) ∷ acc) (digits_onto k 16 true (n / 16) (ours.hex_digit (n % 16) ∷ acc))
onto_when k n acc t is = ap (λ (b : Bool). cond b (ours.hex_digit (n % 16) ∷ acc) (digits_onto k 16 true (n / 16) (ours.hex_digit (n % 16) ∷ acc))) is

onto_more : (k n : ℕ) (acc : List ℕ) → 16 ≤ n → digits_onto (suc k) 16 true n acc ≡ digits_onto k 16 true (n / 16) (ours.hex_digit (n % 16) ∷ acc)
onto_more k n acc h = onto_when k n acc false (ne_eqb (n / 16) 0 (omega arith))

onto_last : (k n : ℕ) (acc : List ℕ) → n < 16 → digits_onto (suc k) 16 true n acc ≡ ours.hex_digit n ∷ acc
onto_last k n acc h =
    let is : n % 16 ≡ n = omega arith in
    onto_when k n acc true (eq-eqb (n / 16) 0 (omega arith)) ∙ ap (λ d. ours.hex_digit d ∷ acc) is

three : (n : ℕ) → 256 ≤ n → n < 4096 → digits 16 true n ≡ ours.hex_digit (n / 16 / 16) ∷ ours.hex_digit (n / 16 % 16) ∷ ours.hex_digit (n % 16) ∷ []
unfolding digits
three n large small =
    onto_more 63 n [] (omega arith) ∙ onto_more 62 (n / 16) _ (omega arith) ∙ onto_last 61 (n / 16 / 16) _ (omega arith)

four : (n : ℕ) → 4096 ≤ n → n < 65536 → digits 16 true n ≡ ours.hex_digit (n / 16 / 16 / 16) ∷ ours.hex_digit (n / 16 / 16 % 16) ∷ ours.hex_digit (n / 16 % 16) ∷ ours.hex_digit (n % 16) ∷ []
unfolding digits
four n large small =
    onto_more 63 n [] (omega arith) ∙ onto_more 62 (n / 16) _ (omega arith) ∙ onto_more 61 (n / 16 / 16) _ (omega arith) ∙ onto_last 60 (n / 16 / 16 / 16) _ (omega arith)

-- a word's four digits, in any form
is_word : (n a b c d : ℕ) → n / 256 / 16 ≡ a → n / 256 % 16 ≡ b → n % 256 / 16 ≡ c → n % 256 % 16 ≡ d → ours.hex_digit a ∷ ours.hex_digit b ∷ ours.hex_digit c ∷ ours.hex_digit d ∷ [] ≡ ours.hex_word n
is_word n a b c d is_a is_b is_c is_d = rw (is_a, is_b, is_c, is_d)

pub padded_hex_word : (n : ℕ) → n < 2 ^ 16 → padded_integral (format_spec 32 0 4 4 (2 ^ 64 - 1)) false [] (digits 16 true n) ≡ ours.hex_word n
unfolding padded_integral char_count
padded_hex_word n small = ⊎_elim
    (λ one. rw (hex_one_digit true n one) (is_word n 0 0 0 n (omega arith) (omega arith) (omega arith) (omega arith)))
    (λ more. ⊎_elim
    (λ two. rw (hex_two_digits true n more two) (is_word n 0 0 (n / 16) (n % 16) (omega arith) (omega arith) (omega arith) (omega arith)))
    (λ many. ⊎_elim
    (λ few. rw (three n many few) (is_word n 0 (n / 16 / 16) (n / 16 % 16) (n % 16) (omega arith) (omega arith) (omega arith) (omega arith)))
    (λ all. rw (four n all (omega arith)) (is_word n (n / 16 / 16 / 16) (n / 16 / 16 % 16) (n / 16 % 16) (n % 16) (omega arith) (omega arith) (omega arith) (omega arith)))
    (cases_lt n 4096))
    (cases_lt n 256))
    (cases_lt n 16)
