-- Sectors written over a disk.
use Rattle.std.proofs.Common.{◌≡◌, List, [], ◌∷◌, ◌++◌, length, set, refl, ap, ◌∙◌}
use Rattle.std.proofs.lemmas.List.{length-set}
use Rattle.chains.specs.Layout.{Disk, NumberedSector, overwritten}

pub length_over : (xs : List NumberedSector) (ss : Disk) → length (overwritten xs ss) ≡ length ss
length_over [] ss = refl
length_over (a ∷ xs) ss = length-set (overwritten xs ss) a.number a.content ∙ length_over xs ss

-- the sectors xs over a disk with ys written over
pub over_append : (xs ys : List NumberedSector) (ss : Disk) → overwritten xs (overwritten ys ss) ≡ overwritten (xs ++ ys) ss
over_append [] ys ss = refl
over_append (a ∷ xs) ys ss = ap (λ (ts : Disk). set ts a.number a.content) (over_append xs ys ss)
