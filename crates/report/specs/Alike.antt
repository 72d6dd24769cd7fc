-- When exchanges were answered alike.
use Rattle.std.specs.Prelude.{Bool, true, false, ◌&&◌, List, [], ◌∷◌, Some, None, Option, ◌==◌}
use Rattle.device.specs.Codes.{code_number, layer_number}
use Rattle.drive.specs.declared.answer.Answer.{Answer}
use Rattle.drive.specs.declared.request.Exchange.{Exchange}
use Rattle.drive.specs.declared.request.Usage.{Usage}

abbrev pub same_answer : Answer → Answer → Bool
same_answer a b =
    (code_number a.code == code_number b.code)
    && (a.length == b.length && (layer_number a.layer == layer_number b.layer && a.sector == b.sector))

abbrev pub same_reported : Option Usage → Option Usage → Bool
same_reported None None = true
same_reported None (Some y) = false
same_reported (Some x) None = false
same_reported (Some x) (Some y) = x.free == y.free && (x.used == y.used && x.files == y.files)

abbrev pub same_exchange : Exchange → Exchange → Bool
same_exchange x y = same_answer x.answer y.answer && same_reported x.reported y.reported

abbrev pub same_answers : List Exchange → List Exchange → Bool
same_answers [] [] = true
same_answers [] (y ∷ ys) = false
same_answers (x ∷ xs) [] = false
same_answers (x ∷ xs) (y ∷ ys) = same_exchange x y && same_answers xs ys
