-- Reading a disk as the code does it: the sectors met and the names seen are tests, files are only counted, and no layout is built.
use Rattle.std.specs.Prelude.{◌≡◌, ℕ, zero, suc, ◌+◌, ◌/◌, Bool, true, false, cond, not, ◌&&◌, ◌||◌, List, ◌∷◌, ◌++◌, length, take, drop, replicate, Ok, Err, Result, ◌==◌, nat_le, nat_lt, slice_index}
use Rattle.device.specs.declared.sector.Sector.{Sector}
use Rattle.device.specs.Codes.{code_number}
use Rattle.device.specs.declared.fault.Code.{Code}
use Rattle.device.specs.declared.fault.Code.TheVariants.{PointerError, NotInDirectory, BadEntry, BadLabel, MapWrong}
use Rattle.device.specs.declared.fault.Fault.{Fault}
use Rattle.device.specs.declared.fault.Layer.TheVariants.{Structure}
use Rattle.chains.specs.Names.{legal, legal_id, same}
use Rattle.chains.specs.Layout.{Disk, Layout, null, reserved, word, padded, label_bytes, directory_back, directory_forward, member, numbers, chains}
use Rattle.chains.specs.Fresh.{map_sector_bytes}
use Rattle.chains.specs.Reading.{Found, fault, read, number, zeros, line, sector_at, usable, place}
use Rattle.chains.specs.Sound.{entries}

abbrev pub structure_fault : Code → ℕ → Fault
structure_fault c n = record { code = c; layer = Structure; sector = n }

-- what must hold, or this code at this sector
abbrev pub need : {A : Type 0} → Bool → Code → ℕ → Result A Fault → Result A Fault
need b c n k = cond b k (Err (structure_fault c n))

abbrev pub next : {A B : Type 0} → Result A Fault → (A → Result B Fault) → Result B Fault
next (Err f) k = Err f
next (Ok x) k = k x

-- an answer that tells what was found: the same fault, or something that stands for what was read
abbrev pub Tells : {A B : Type 0} → (A → B → Type 0) → Found A → Result B Fault → Type 0
Tells P (fault c n) (Err f) = (code_number f.code ≡ c) × (f.layer ≡ Structure) × (f.sector ≡ n)
Tells P (fault c n) (Ok y) = ⊥
Tells P (read x) (Err f) = ⊥
Tells P (read x) (Ok y) = P x y

-- the set with n too
abbrev pub also : ℕ → (ℕ → Bool) → ℕ → Bool
also n f m = cond (m == n) true (f m)

-- the sectors met, the names seen, and how many files these were
pub record Seen : Type 0 where
  pub met : ℕ → Bool
  pub names : List ℕ → Bool
  pub files : ℕ

-- the sector where a walk ended, and the sectors met by then
pub record WalkEnd : Type 0 where
  pub at : ℕ
  pub met : ℕ → Bool

-- the parts of a place of the directory
abbrev pub name_in : List ℕ → List ℕ
name_in bs = take (slice_index bs 0) (drop 1 bs)

abbrev pub address_in : List ℕ → ℕ
address_in bs = number bs 33

abbrev pub well_formed_place : List ℕ → Bool
well_formed_place bs = same bs (slice_index bs 0 ∷ (padded 32 (name_in bs) ++ (word (address_in bs) ++ replicate 5 0)))

-- whether a sector is a descriptor of the place's file by its name, and by its zeros, back link and first field
abbrev pub named_as : Sector → List ℕ → Bool
named_as d bs = same (take 33 (drop 7 d.bytes)) (take 33 bs)

abbrev pub descriptor_shaped : Sector → Bool
descriptor_shaped d = slice_index d.bytes 6 == 0 && (zeros (drop 40 d.bytes) && (d.back == null && number d.bytes 0 == d.forward))

-- the last field of a file of so many records whose walk ended there
abbrev pub last_field : ℕ → ℕ → ℕ
last_field count end = cond (count == 0) null end

-- whether a sector can be directory sector i, whatever its places hold
abbrev pub directory_framed : ℕ → Sector → Bool
directory_framed i s = s.back == directory_back i && (s.forward == directory_forward i && zeros (drop 120 s.bytes))

-- whether these are the bytes of a label for so many sectors
abbrev pub exact_label : List ℕ → ℕ → Bool
exact_label bs size = legal_id (line (drop 3 bs)) && same bs (label_bytes (line (drop 3 bs)) size)

-- what the map has to mark: the reserved sectors, those met, and the bits past the disk's end
abbrev pub to_be_marked : ℕ → (ℕ → Bool) → ℕ → Bool
to_be_marked size met n = nat_lt n reserved || (nat_le size n || met n)

abbrev pub nothing_seen : Seen
nothing_seen = record { met = λ n. false; names = λ n. false; files = 0 }

module _ (ss : Disk) where
  -- as many records as the count says, by forward links from `here`
  unfoldable pub walk_on : (ℕ → Bool) → ℕ → ℕ → Result WalkEnd Fault
  walk_on met here zero = need ((sector_at ss here).forward == null) PointerError here (Ok (record { at = here; met = met }))
  walk_on met here (suc k) =
      need (usable ss (sector_at ss here).forward && not (met (sector_at ss here).forward)) PointerError here
      (need ((sector_at ss (sector_at ss here).forward).back == here) PointerError (sector_at ss here).forward
      (walk_on (also (sector_at ss here).forward met) (sector_at ss here).forward k))

  -- after the descriptor: the records, and then the last field
  unfoldable pub records_on : Seen → List ℕ → Result Seen Fault
  records_on s bs =
      let d = sector_at ss (address_in bs) in
      next (walk_on (also (address_in bs) s.met) (address_in bs) (number d.bytes 4)) (λ w.
      need (number d.bytes 2 == last_field (number d.bytes 4) w.at) PointerError (address_in bs)
      (Ok (record { met = w.met; names = λ n. same n (name_in bs) || s.names n; files = s.files + 1 })))

  -- the file that the bytes of a place name, in the directory sector `from`
  unfoldable pub file_on : Seen → ℕ → List ℕ → Result Seen Fault
  file_on s from bs =
      need (well_formed_place bs && (legal (name_in bs) && (not (s.names (name_in bs)) && usable ss (address_in bs)))) BadEntry from
      (need (not (s.met (address_in bs))) PointerError from
      (need (named_as (sector_at ss (address_in bs)) bs) NotInDirectory (address_in bs)
      (need (descriptor_shaped (sector_at ss (address_in bs))) PointerError (address_in bs)
      (records_on s bs))))

  abbrev pub place_on : Seen → ℕ → List ℕ → Result Seen Fault
  place_on s from bs = cond (zeros bs) (Ok s) (file_on s from bs)

  -- the next k places from p on
  unfoldable pub places_on : ℕ → ℕ → Seen → Result Seen Fault
  places_on zero p s = Ok s
  places_on (suc k) p s = next (place_on s (4 + p / 3) (place ss p)) (λ t. places_on k (p + 1) t)

  -- the links and last bytes of n directory sectors from i on
  unfoldable pub directory_on : ℕ → ℕ → Result Unit Fault
  directory_on zero i = Ok tt
  directory_on (suc n) i = need (directory_framed i (sector_at ss (4 + i))) PointerError (4 + i) (directory_on n (i + 1))

  -- n map sectors from j on
  unfoldable pub map_on : (ℕ → Bool) → ℕ → ℕ → Result Unit Fault
  map_on m zero j = Ok tt
  map_on m (suc n) j = need (same (sector_at ss (1 + j)).bytes (map_sector_bytes m j)) MapWrong (1 + j) (map_on m n (j + 1))

  -- the whole disk: label, directory, places with their files, map
  unfoldable pub survey : Result Seen Fault
  survey =
      need (exact_label (sector_at ss 0).bytes (length ss)) BadLabel 0
      (next (directory_on 32 0) (λ _.
      next (places_on 96 0 nothing_seen) (λ s.
      next (map_on (to_be_marked (length ss) s.met) 3 0) (λ _. Ok s))))

-- what was seen is what the layout has: as many files, and the sectors of their chains
pub record SumsUp (d : Layout) (s : Seen) : Type 0 where
  pub files : s.files ≡ length (entries d.places)
  pub met : (n : ℕ) → s.met n ≡ member n (numbers (chains d.places))
