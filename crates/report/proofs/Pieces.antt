-- A text of pieces grows by one piece.
use Rattle.std.proofs.Common.{◌≡◌, ℕ, ◌+◌, ◌<◌, List, [], ◌∷◌, ◌++◌, map, length, get_or, take, sym, ap, ◌∙◌, append_assoc, append-nil}
use Rattle.std.specs.List.{concat}
use Rattle.std.proofs.lemmas.List.{map_more}

joined_push : (xs : List (List ℕ)) (x : List ℕ) → concat (xs ++ x ∷ []) ≡ concat xs ++ x
joined_push [] x = append-nil x
joined_push (y ∷ ys) x = ap (λ (l : List ℕ). y ++ l) (joined_push ys x) ∙ sym (append_assoc y (concat ys) x)

pub joined_map_more : (f : ℕ → List ℕ) (xs : List ℕ) (i : ℕ) → i < length xs → concat (map f (take (i + 1) xs)) ≡ concat (map f (take i xs)) ++ f (get_or xs i 0)
joined_map_more f xs i h = ap concat (map_more f xs i 0 h) ∙ joined_push (map f (take i xs)) (f (get_or xs i 0))
