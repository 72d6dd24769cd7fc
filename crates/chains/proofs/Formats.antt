-- What FORMAT answers and leaves on a disk of a size and with an ID that a label can hold.
use Rattle.std.proofs.Common.{◌≡◌, ℕ, ◌≤◌, true, leb, List, ◌∷◌, ◌++◌, length, sym, refl, ap, ◌∙◌, arith}
use Rattle.std.proofs.lemmas.Bool.{and_parts, leb-true}
use Rattle.device.specs.declared.sector.Sector.{Sector}
use Rattle.device.specs.Device.{Medium, stored}
use Rattle.chains.specs.Names.{legal_id}
use Rattle.chains.specs.Layout.{NumberedSector, numbered, sized}
use Rattle.chains.specs.Fresh.{label_sector, fresh_marks, map_sectors, empty_directory, written_over}
use Rattle.chains.specs.Formatting.{format_answer, formatted_disk, formatted_medium}
use Rattle.chains.proofs.Over.{length_over}
use Rattle.chains.proofs.Fresh.{fresh_sectors}

module _ (m : Medium) (s : ℕ) (size : s ≡ length m.sectors) (fits : true ≡ sized s) where
  pub long : 64 ≤ length m.sectors
  long = let l = leb-true 64 s (and_parts (leb 64 s) (leb s 2464) (sym fits)).0 in omega arith

  pub still_long : (xs : List NumberedSector) (now : Medium) → now ≡ written_over xs m → 36 ≤ length now.sectors
  still_long xs now e = let l = long in let o = length_over xs m.sectors in let n = ap (λ (x : Medium). length x.sectors) e in omega arith

  pub answers_stored : (id : List ℕ) → true ≡ legal_id id → format_answer m id ≡ stored m 0
  answers_stored id legal = let l = sym size in let f = sym fits in let i = sym legal in rw (l, f, i) refl

  pub leaves_formatted : (id : List ℕ) (label : Sector) → label ≡ label_sector id s → written_over (numbered 0 label ∷ (map_sectors (fresh_marks s) ++ empty_directory)) m ≡ formatted_medium m id
  unfolding formatted_disk
  leaves_formatted id label e =
      ap (λ (x : Sector). written_over (numbered 0 x ∷ (map_sectors (fresh_marks s) ++ empty_directory)) m) e
      ∙ ap (λ (k : ℕ). written_over (numbered 0 (label_sector id k) ∷ (map_sectors (fresh_marks k) ++ empty_directory)) m) size
      ∙ ap (λ (xs : List NumberedSector). written_over xs m) (fresh_sectors id (length m.sectors))
