-- The text of a label: parts put one after another before zeros, and the first line read back.
use Rattle.std.proofs.Common.{◌≡◌, ℕ, suc, ◌+◌, ◌-◌, ◌/◌, ◌%◌, ◌^◌, ◌<◌, ◌≤◌, Bool, true, false, cond, not, ◌&&◌, eqb, ltb, List, [], ◌∷◌, ◌++◌, map, length, take, drop, replicate, Some, None, Option, sym, refl, ap, ◌∙◌, ⊎_elim, arith}
use Rattle.std.specs.List.{before_first, position, position_or_len}
use Rattle.std.specs.Option.{unwrap_or}
use Rattle.std.specs.Fmt.{decimal as printed}
use Rattle.std.specs.Int.Digits.{digits_of}
use Rattle.std.proofs.lemmas.Fmt.{decimal_digit, decimal-digits_of}
use Rattle.std.proofs.lemmas.Int.Digits.{digits_of_step}
use borrow.Rule.Slice.PartMut.{put_mid}
use Rattle.std.proofs.lemmas.List.{append_assoc, length-append, map_push, take_all, take_at, drop_at, drop-replicate}
use Rattle.std.proofs.lemmas.Bool.{cases_Bool, ltb-true, ltb-false}
use Rattle.std.proofs.lemmas.Bool.Decides.{nat_tests}
use Rattle.chains.specs.Names.{same, legal_id}
use Rattle.chains.specs.Layout.{padded, decimal, label_bytes}
use Rattle.chains.specs.Reading.{line}
use Rattle.chains.specs.Survey.{exact_label}

-- a part written behind a text that zeros follow
pub put_text : (n : ℕ) (before part bytes : List ℕ) (at k : ℕ) → at ≡ length before → k ≡ length part → at + k ≤ n → bytes ≡ padded n before → put_mid at k bytes part ≡ padded n (before ++ part)
put_text n before part bytes at k a e w b =
    let front = take_at before (replicate {A = ℕ} (n - length before) 0) at (sym a) in
    let rest = drop_at before (replicate {A = ℕ} (n - length before) 0) at (sym a) in
    let zeros = drop-replicate {X = ℕ} k (n - length before) 0 in
    let left : n - length before - k ≡ n - length (before ++ part) = omega (arith, length-append before part) in
    rw (b, front, rest, zeros, left) (sym (append_assoc before part (replicate (n - length (before ++ part)) 0)))

pub decimal_short : (n : ℕ) → length (decimal n) ≤ 4
decimal_short n = grind (arith, nat_tests)

-- ---- the size as it is printed

one_more : (n : ℕ) → 10 ≤ n → n < 2 ^ 64 → printed n ≡ printed (n / 10) ++ (48 + n % 10) ∷ []
one_more n ten small =
    decimal-digits_of n (omega arith) small
    ∙ ap (map (λ d. 48 + d)) (digits_of_step 10 n (omega arith) (omega arith))
    ∙ map_push (λ d. 48 + d) (digits_of 10 (n / 10)) (n % 10)
    ∙ ap (λ xs. xs ++ (48 + n % 10) ∷ []) (sym (decimal-digits_of (n / 10) (omega arith) (omega arith)))

two : (n : ℕ) → 10 ≤ n → n < 100 → printed n ≡ (48 + n / 10) ∷ (48 + n % 10) ∷ []
two n ten small = one_more n ten (omega arith) ∙ ap (λ xs. xs ++ (48 + n % 10) ∷ []) (decimal_digit (n / 10) (omega arith))

three : (n : ℕ) → 100 ≤ n → n < 1000 → printed n ≡ (48 + n / 100) ∷ (48 + n / 10 % 10) ∷ (48 + n % 10) ∷ []
three n most small =
    let hundreds : n / 10 / 10 ≡ n / 100 = omega arith in
    one_more n (omega arith) (omega arith)
    ∙ ap (λ xs. xs ++ (48 + n % 10) ∷ []) (two (n / 10) (omega arith) (omega arith))
    ∙ λ i. (48 + hundreds i) ∷ (48 + n / 10 % 10) ∷ (48 + n % 10) ∷ []

four : (n : ℕ) → 1000 ≤ n → n < 10000 → printed n ≡ (48 + n / 1000) ∷ (48 + n / 100 % 10) ∷ (48 + n / 10 % 10) ∷ (48 + n % 10) ∷ []
four n most small =
    let thousands : n / 10 / 100 ≡ n / 1000 = omega arith in
    let hundreds : n / 10 / 10 ≡ n / 100 = omega arith in
    one_more n (omega arith) (omega arith)
    ∙ ap (λ xs. xs ++ (48 + n % 10) ∷ []) (three (n / 10) (omega arith) (omega arith))
    ∙ λ i. (48 + thousands i) ∷ (48 + hundreds i % 10) ∷ (48 + n / 10 % 10) ∷ (48 + n % 10) ∷ []

pub printed_is : (n : ℕ) → n < 10000 → printed n ≡ decimal n
printed_is n small =
    let one_digit = (48 + n) ∷ [] in
    let two_digits = (48 + n / 10) ∷ (48 + n % 10) ∷ [] in
    let three_digits = (48 + n / 100) ∷ (48 + n / 10 % 10) ∷ (48 + n % 10) ∷ [] in
    let four_digits = (48 + n / 1000) ∷ (48 + n / 100 % 10) ∷ (48 + n / 10 % 10) ∷ (48 + n % 10) ∷ [] in
    ⊎_elim (λ h. decimal_digit n (ltb-true n 10 h) ∙ ap (λ b. cond b one_digit (cond (ltb n 100) two_digits (cond (ltb n 1000) three_digits four_digits))) (sym h))
    (λ g.
    ⊎_elim (λ h. two n (ltb-false n 10 g) (ltb-true n 100 h) ∙ λ i. cond (sym g i) one_digit (cond (sym h i) two_digits (cond (ltb n 1000) three_digits four_digits)))
    (λ h.
    ⊎_elim (λ k. three n (ltb-false n 100 h) (ltb-true n 1000 k) ∙ λ i. cond (sym g i) one_digit (cond (sym h i) two_digits (cond (sym k i) three_digits four_digits)))
    (λ k. four n (ltb-false n 1000 k) small ∙ λ i. cond (sym g i) one_digit (cond (sym h i) two_digits (cond (sym k i) three_digits four_digits)))
    (cases_Bool (ltb n 1000)))
    (cases_Bool (ltb n 100)))
    (cases_Bool (ltb n 10))

pub joined_right : (a b c d e : List ℕ) → (((a ++ b) ++ c) ++ d) ++ e ≡ a ++ (b ++ (c ++ (d ++ e)))
joined_right a b c d e = simp append_assoc

-- the bytes before the first newline, by its place
line_is : (xs : List ℕ) → before_first (λ b. eqb b 10) xs ≡ line xs
line_is [] = refl
line_is (x ∷ xs) =
    let n = position_or_len (λ b. eqb b 10) xs in
    elim (eqb x 10) as (λ t. take (cond (not t) (1 + n) 0) (x ∷ xs) ≡ cond t [] (x ∷ line xs)) [
      | true ↦ refl
      | false ↦ let more : 1 + n ≡ suc n = omega arith in ap (λ k. take k (x ∷ xs)) more ∙ ap (λ ys. x ∷ ys) (line_is xs)
    ]

pub line_ends : (xs : List ℕ) (p : Option ℕ) → p ≡ position (λ b. eqb b 10) xs → take (unwrap_or p (length xs)) xs ≡ line xs
line_ends xs p e =
    let n = position_or_len (λ b. eqb b 10) xs in
    let within : (r : Bool) → ltb n (length xs) ≡ r → take (unwrap_or (cond r (Some n) None) (length xs)) xs ≡ take n xs =
    λ r. elim r as (λ r. ltb n (length xs) ≡ r → take (unwrap_or (cond r (Some n) None) (length xs)) xs ≡ take n xs) [
      | true ↦ λ _. refl
      | false ↦ λ h. let most : length xs ≤ n = ltb-false n (length xs) h in take_all (length xs) xs (omega arith) ∙ sym (take_all n xs most)
    ] in
    ap (λ o. take (unwrap_or o (length xs)) xs) e ∙ within (ltb n (length xs)) refl ∙ line_is xs

-- the test of a label by its parts
pub exact_from : (bs id : List ℕ) (size : ℕ) (a b : Bool) → id ≡ line (drop 3 bs) → a ≡ legal_id id → b ≡ same bs (label_bytes id size) → (a && b) ≡ exact_label bs size
exact_from bs id size a b e p q = (λ i. p i && q i) ∙ ap (λ (x : List ℕ). legal_id x && same bs (label_bytes x size)) e
