-- Two lists of exchanges, compared pair by pair.
use Rattle.std.proofs.Common.{◌≡◌, suc, Bool, true, false, ◌&&◌, List, [], ◌∷◌, length, sym, refl, ap, arith}
use Rattle.std.specs.List.{list_all, zip}
use Rattle.drive.specs.declared.request.Exchange.{Exchange}
use Rattle.report.specs.Alike.{same_answers, same_exchange}

abbrev pub alike : Exchange × Exchange → Bool
alike p = same_exchange p.0 p.1

and_false : (x y : Bool) → y ≡ false → (x && y) ≡ false
and_false true y h = h
and_false false y h = refl

pub unlike : (xs ys : List Exchange) → (length xs ≡ length ys → ⊥) → false ≡ same_answers xs ys
unlike [] [] h = absurd (h refl)
unlike [] (y ∷ ys) h = refl
unlike (x ∷ xs) [] h = refl
unlike (x ∷ xs) (y ∷ ys) h = sym (and_false (same_exchange x y) (same_answers xs ys) (sym (unlike xs ys (λ e. h (ap suc e)))))

pub all_alike : (xs ys : List Exchange) → length xs ≡ length ys → list_all alike (zip xs ys) ≡ same_answers xs ys
all_alike [] [] e = refl
all_alike [] (y ∷ ys) e = absurd (omega arith)
all_alike (x ∷ xs) [] e = absurd (omega arith)
all_alike (x ∷ xs) (y ∷ ys) e = ap (λ b. same_exchange x y && b) (all_alike xs ys (omega arith))
