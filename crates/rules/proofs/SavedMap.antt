-- The map saved: its three sectors written, the last first, are the layout with the map up to date.
use Rattle.std.proofs.Common.{◌≡◌, ℕ, ◌+◌, ◌<◌, ◌≤◌, Bool, true, false, List, [], ◌∷◌, ◌++◌, length, get_or, set, sym, refl, ◌∙◌, subst, arith}
use Rattle.std.specs.List.{AllByRecursion}
use Rattle.std.proofs.lemmas.List.{get_or-set_same, get_or-set_other, length-set}
use Rattle.device.specs.declared.sector.Sector.{Sector}
use Rattle.device.specs.Device.{blank}
use Rattle.chains.specs.Layout.{Disk, Layout, NumberedSector, sector, reserved_link, member, numbers, chains, directory, label_and_map, fixed_sectors, overwritten, Contains, allocated, map_bytes}
use Rattle.chains.specs.Fresh.{map_sector_bytes}
use Rattle.chains.specs.Changes.{LaidOut, saved_map_sector}
use Rattle.rules.specs.Effects.{saved}
use Rattle.rules.proofs.Over.{numbers_fixed}
use Rattle.rules.proofs.Changes.{proper_saved}
use Rattle.rules.proofs.Relaid.{over_forgets, over_over, set_over, beside, all_among, among_left, before_directory, from_parts, label_part, directory_shows, chains_part, none_reserved, large, laid_over}

abbrev with_map : Layout → List (List ℕ) → Layout
with_map d ms = record { id = d.id; size = d.size; reserved_links = d.reserved_links; map = ms; places = d.places }

-- for any bytes of the three sectors
module _ (d : Layout) (ss : Disk) (laid : LaidOut d ss) (b0 b1 b2 : List ℕ) where
  abbrev map_part : List ℕ → ℕ → Sector
  map_part bs j = sector bs (reserved_link d (1 + j)).back (reserved_link d (1 + j)).forward

  abbrev one_written : Disk
  one_written = set ss 3 (map_part b2 2)

  abbrev two_written : Disk
  two_written = set one_written 2 (map_part b1 1)

  abbrev three_written : Disk
  three_written = set two_written 1 (map_part b0 0)

  abbrev remapped : Layout
  remapped = with_map d (b0 ∷ (b1 ∷ (b2 ∷ [])))

  long : 64 ≤ length ss
  long = omega (arith, large d laid.proper, laid.size)

  beside_all : (xs : List NumberedSector) → member 3 (numbers xs) ≡ false → member 2 (numbers xs) ≡ false → member 1 (numbers xs) ≡ false → Contains xs ss → Contains xs three_written
  beside_all xs o3 o2 o1 h = beside xs two_written 1 (map_part b0 0) o1 (beside xs one_written 2 (map_part b1 1) o2 (beside xs ss 3 (map_part b2 2) o3 h))

  label_stands : get_or three_written 0 blank ≡ get_or ss 0 blank
  label_stands =
      get_or-set_other two_written 1 0 (map_part b0 0) blank (λ e. omega arith) ∙
      (get_or-set_other one_written 2 0 (map_part b1 1) blank (λ e. omega arith) ∙ get_or-set_other ss 3 0 (map_part b2 2) blank (λ e. omega arith))

  first_stands : get_or three_written 1 blank ≡ map_part b0 0
  first_stands = get_or-set_same two_written 1 (map_part b0 0) blank (simp length-set (omega (arith, long)))

  second_stands : get_or three_written 2 blank ≡ map_part b1 1
  second_stands = get_or-set_other two_written 1 2 (map_part b0 0) blank (λ e. omega arith) ∙ get_or-set_same one_written 2 (map_part b1 1) blank (simp length-set (omega (arith, long)))

  third_stands : get_or three_written 3 blank ≡ map_part b2 2
  third_stands =
      get_or-set_other two_written 1 3 (map_part b0 0) blank (λ e. omega arith) ∙
      (get_or-set_other one_written 2 3 (map_part b1 1) blank (λ e. omega arith) ∙ get_or-set_same ss 3 (map_part b2 2) blank (omega (arith, long)))

  label_and_map_stand : Contains (label_and_map remapped) three_written
  label_and_map_stand = (label_stands ∙ (label_part d ss laid.shows).0, (first_stands, (second_stands, (third_stands, tt))))

  directory_stands : Contains (directory d.places) three_written
  directory_stands =
      beside_all (directory d.places) (before_directory d.places 3 (omega arith)) (before_directory d.places 2 (omega arith)) (before_directory d.places 1 (omega arith)) (directory_shows d ss laid.shows)

  chains_stand : Contains (chains d.places) three_written
  chains_stand =
      let none : (n : ℕ) → n < 36 → member n (numbers (chains d.places)) ≡ false = λ n l. none_reserved n d.size (numbers (chains d.places)) l laid.proper.usable in
      beside_all (chains d.places) (none 3 (omega arith)) (none 2 (omega arith)) (none 1 (omega arith)) (chains_part d ss laid.shows)

  in_map : (n : ℕ) → member n (numbers (label_and_map remapped)) ≡ true → member n (numbers (fixed_sectors remapped)) ≡ true
  in_map n h = among_left n (label_and_map remapped) (directory d.places ++ chains d.places) h

  map_written : three_written ≡ overwritten (fixed_sectors remapped) ss
  map_written =
      set_over (fixed_sectors remapped) two_written 1 (map_part b0 0) (in_map 1 refl) (from_parts remapped three_written label_and_map_stand directory_stands chains_stand) ∙
      (over_forgets (fixed_sectors remapped) one_written 2 (map_part b1 1) (in_map 2 refl) ∙ over_forgets (fixed_sectors remapped) ss 3 (map_part b2 2) (in_map 3 refl))

three_sectors : (marks : ℕ → Bool) → map_sector_bytes marks 0 ∷ (map_sector_bytes marks 1 ∷ (map_sector_bytes marks 2 ∷ [])) ≡ map_bytes marks
three_sectors marks = refl

abbrev pub with_map_saved : Layout → Disk → Disk
with_map_saved d ss =
    let marks = allocated d.size d.places in
    set (set (set ss 3 (saved_map_sector d marks 2)) 2 (saved_map_sector d marks 1)) 1 (saved_map_sector d marks 0)

pub saved_map : (d : Layout) (ss : Disk) → LaidOut d ss → with_map_saved d ss ≡ overwritten (fixed_sectors (saved d)) ss
saved_map d ss laid =
    let marks : ℕ → Bool = allocated d.size d.places in
    subst (λ ms. with_map_saved d ss ≡ overwritten (fixed_sectors (with_map d ms)) ss) (three_sectors marks)
    (map_written d ss laid (map_sector_bytes marks 0) (map_sector_bytes marks 1) (map_sector_bytes marks 2))

pub saved_laid_out : (d : Layout) (ss : Disk) → LaidOut d ss → LaidOut (saved d) (with_map_saved d ss)
saved_laid_out d ss laid = laid_over (saved d) ss (with_map_saved d ss) (proper_saved d laid.proper) laid.size (saved_map d ss laid)

-- a layout written over and then the same with its map saved: the second is all that is left
pub saved_over : (d : Layout) (ss : Disk) → overwritten (fixed_sectors (saved d)) (overwritten (fixed_sectors d) ss) ≡ overwritten (fixed_sectors (saved d)) ss
saved_over d ss =
    over_over (fixed_sectors (saved d)) (fixed_sectors d) ss
    (subst (λ ns. AllByRecursion (λ n. member n ns ≡ true) (numbers (fixed_sectors d))) (numbers_fixed d ∙ sym (numbers_fixed (saved d))) (all_among (numbers (fixed_sectors d))))
