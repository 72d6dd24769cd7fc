-- A disk with no file, for any count of places: nothing but zeros in its directory, nothing but its bounds in its map.
use Rattle.std.proofs.Common.{◌≡◌, ℕ, zero, suc, ◌+◌, ◌*◌, Bool, true, false, ◌||◌, ltb, leb, List, [], ◌∷◌, ◌++◌, get_or, replicate, None, Option, sym, refl, ap, ◌∙◌}
use Rattle.std.proofs.lemmas.List.{append-nil}
use Rattle.chains.specs.Layout.{Entry, NumberedSector, numbered, numbers, member, chains, reserved, allocated, directory_bytes, directory, label_and_map, fixed_sectors, formatted}
use Rattle.chains.specs.Fresh.{row, label_sector, fresh_marks, map_sector, map_sectors, empty_directory, empty_directory_sector}

no_place : (k n : ℕ) → get_or (replicate {A = Option Entry} k None) n None ≡ None
no_place zero n = refl
no_place (suc k) zero = refl
no_place (suc k) (suc n) = no_place k n

pub empty_bytes : (k i : ℕ) → replicate 128 0 ≡ directory_bytes (replicate k None) i
empty_bytes k i = rw (no_place k (3 * i), no_place k (3 * i + 1), no_place k (3 * i + 2)) refl

no_chains : (k : ℕ) → chains (replicate k None) ≡ []
no_chains zero = refl
no_chains (suc k) = no_chains k

or_false : (b : Bool) → (b || false) ≡ b
or_false true = refl
or_false false = refl

allocated_none : (k s n : ℕ) → fresh_marks s n ≡ allocated s (replicate k None) n
allocated_none k s n =
    ap (λ (b : Bool). ltb n reserved || b) (sym (or_false (leb s n))) ∙ ap (λ (xs : List NumberedSector). ltb n reserved || (leb s n || member n (numbers xs))) (sym (no_chains k))

-- the sectors that FORMAT writes are those that its layout fixes
pub fresh_sectors : (id : List ℕ) (s : ℕ) → numbered 0 (label_sector id s) ∷ (map_sectors (fresh_marks s) ++ empty_directory) ≡ fixed_sectors (formatted id s)
unfolding label_sector row map_sector empty_directory_sector
fresh_sectors id s =
    let marks : fresh_marks s ≡ allocated s (replicate 96 None) = λ i n. allocated_none 96 s n i in
    ap (λ (m : ℕ → Bool). numbered 0 (label_sector id s) ∷ (map_sectors m ++ empty_directory)) marks
    ∙ ap (λ (xs : List NumberedSector). label_and_map (formatted id s) ++ xs) (sym (append-nil (directory (replicate 96 None))))
