-- What the code tests, turned to the way that a rule says it.
use Rattle.std.proofs.Common.{◌≡◌, Bool, true, false, not, refl, ap, ◌∙◌}

not-not : (b : Bool) → not (not b) ≡ b
not-not true = refl
not-not false = refl

pub unlike : (a b : Bool) → a ≡ not b → not a ≡ b
unlike a b e = ap not e ∙ not-not b
