-- A name among others, and one more of them.
use Rattle.std.proofs.Common.{◌≡◌, ℕ, true, false, Bool, ◌||◌, List, [], ◌∷◌, ◌++◌, map, sym, refl, ap, ◌∙◌}
use Rattle.std.proofs.lemmas.Slice.Eq.{bytes_eq-Decides}
use Rattle.std.specs.Bool.{Decides}
use Rattle.std.specs.List.{list_any}
use Rattle.std.proofs.lemmas.List.{map_push}
use Rattle.chains.specs.declared.name.Name.{Name}
use Rattle.chains.specs.Names.{same}
use Rattle.chains.specs.NameBytes.{name_bytes}
use Rattle.chains.specs.Reading.{among}

agree : {A B : Type 0} (b c : Bool) → Decides b A → Decides c B → (A → B) → (B → A) → b ≡ c
agree true true x y f g = refl
agree true false x y f g = sym (y.1 (f (x.0 refl)))
agree false true x y f g = x.1 (g (y.0 refl))
agree false false x y f g = refl

same_turned : (m n : List ℕ) → same m n ≡ same n m
same_turned m n = agree (same m n) (same n m) (bytes_eq-Decides m n) (bytes_eq-Decides n m) sym sym

-- what `contains` answers
pub among_is : (n : List ℕ) (ns : List Name) → list_any (λ m. same (name_bytes m) n) ns ≡ among n (map name_bytes ns)
among_is n [] = refl
among_is n (m ∷ ns) = λ i. same_turned (name_bytes m) n i || among_is n ns i

or_swap : (a b c : Bool) → (a || (b || c)) ≡ (b || (a || c))
or_swap true true c = refl
or_swap true false c = refl
or_swap false true c = refl
or_swap false false c = refl

among_push : (n : List ℕ) (xs : List (List ℕ)) (y : List ℕ) → among n (xs ++ y ∷ []) ≡ (same n y || among n xs)
among_push n [] y = refl
among_push n (x ∷ xs) y = ap (λ (b : Bool). same n x || b) (among_push n xs y) ∙ or_swap (same n x) (same n y) (among n xs)

pub among_more : (n : List ℕ) (ns : List Name) (m : Name) → among n (map name_bytes (ns ++ m ∷ [])) ≡ (same n (name_bytes m) || among n (map name_bytes ns))
among_more n ns m = ap (among n) (map_push name_bytes ns m) ∙ among_push n (map name_bytes ns) (name_bytes m)
