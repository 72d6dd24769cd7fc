-- The unit table, searched.
use Rattle.std.proofs.Common.{◌≡◌, ℕ, ◌+◌, ◌<◌, Bool, ◌||◌, List, [], ◌∷◌, map, length, get_or, drop, sym, refl, ap, ◌∙◌}
use Rattle.std.proofs.lemmas.List.{at_drop_more}
use Rattle.std.specs.List.{list_any}
use Rattle.rules.specs.Model.{UnitState, any}
use Rattle.drive.specs.declared.units.Unit.{Unit as Slot}
use Rattle.drive.specs.Units.{unit_of, is_open, any_open}

-- the model's search is the library's
pub some_shows : (p : UnitState → Bool) (us : List Slot) → list_any (λ u. p (unit_of u)) us ≡ any p (map unit_of us)
some_shows p [] = refl
some_shows p (u ∷ us) = ap (λ w. p (unit_of u) || w) (some_shows p us)

-- what is left from unit i on, by what that unit shows
module _ (p : UnitState → Bool) where
  abbrev any_from : List Slot → Bool
  any_from us = any p (map unit_of us)

  pub shown_from : (us : List Slot) (i : ℕ) (d : Slot) (v : Bool) → i < length us → v ≡ p (unit_of (get_or us i d)) → v || any_from (drop (i + 1) us) ≡ any_from (drop i us)
  shown_from us i d v l e = ap (λ w. w || any_from (drop (i + 1) us)) e ∙ sym (at_drop_more any_from us i d l)

-- by whether that unit is open
pub open_from : (us : List Slot) (i : ℕ) (d : Slot) (v : Bool) → i < length us → v ≡ is_open (unit_of (get_or us i d)) → v || any_open (drop (i + 1) us) ≡ any_open (drop i us)
open_from = shown_from is_open
