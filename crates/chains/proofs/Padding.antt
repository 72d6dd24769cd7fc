-- Zeros behind a row of bytes.
use Rattle.std.proofs.Common.{◌≡◌, ℕ, ◌+◌, ◌-◌, ◌≤◌, List, ◌++◌, length, replicate, ap, ◌∙◌, arith}
use Rattle.std.proofs.lemmas.List.{append_assoc, length-append, length-replicate, replicate-append-replicate}
use Rattle.chains.specs.Layout.{padded}

-- some of the zeros may stand there before
pub padded_more : (n k : ℕ) (xs : List ℕ) → length xs + k ≤ n → padded n (xs ++ replicate k 0) ≡ padded n xs
padded_more n k xs h =
    let zeros : List ℕ = replicate k 0 in
    let left : k + (n - length (xs ++ zeros)) ≡ n - length xs = omega (arith, length-append xs zeros, length-replicate {A = ℕ} k 0) in
    append_assoc xs zeros (replicate (n - length (xs ++ zeros)) 0) ∙
    ap (λ (ys : List ℕ). xs ++ ys) (replicate-append-replicate {A = ℕ} k (n - length (xs ++ zeros)) 0 ∙ ap (λ (m : ℕ). replicate m 0) left)

pub length_padded : (n : ℕ) (xs : List ℕ) → length xs ≤ n → length (padded n xs) ≡ n
length_padded n xs h = omega (arith, length-append xs (replicate (n - length xs) 0), length-replicate {A = ℕ} (n - length xs) 0)

-- behind two rows, with their number known
pub padded_two : (n k : ℕ) (xs ys : List ℕ) → length xs + (length ys + k) ≡ n → padded n (xs ++ ys) ≡ xs ++ (ys ++ replicate k 0)
padded_two n k xs ys h =
    let left : n - length (xs ++ ys) ≡ k = omega (arith, length-append xs ys) in
    ap (λ (m : ℕ). (xs ++ ys) ++ replicate m 0) left ∙ append_assoc xs ys (replicate k 0)
