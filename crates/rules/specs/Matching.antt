-- When a model and the layout of a disk hold the same files, and that every call that is not refused keeps them so.
use Rattle.std.specs.Prelude.{◌≡◌, ℕ, ◌≤◌, Bool, true, false, ◌&&◌, List, [], ◌∷◌, length, is_some, nat_le, nat_lt}
use Rattle.std.specs.Option.{unwrap_or}
use Rattle.std.specs.List.{AllByRecursion}
use Rattle.chains.specs.Layout.{Layout, reserved, member, numbers, chains, allocated, map_bytes}
use Rattle.chains.specs.Sound.{DistinctNumbers, ValidLayout}
use Rattle.rules.specs.Model.{Model, File, UnitState, closed, holds, Supplied, Request, response, new_model, has_name, state, find, free_count, some_open}
use Rattle.rules.specs.Effects.{layout_after}
use Rattle.rules.specs.Runs.{files_in}

-- the same elements, each as often, in some other order
pub data Rearranged {A : Type 0} : List A → List A → Type 0 where
  none : Rearranged [] []
  keep : (x : A) {xs ys : List A} → Rearranged xs ys → Rearranged (x ∷ xs) (x ∷ ys)
  swap : (x y : A) (xs : List A) → Rearranged (x ∷ (y ∷ xs)) (y ∷ (x ∷ xs))
  join : {xs ys zs : List A} → Rearranged xs ys → Rearranged ys zs → Rearranged xs zs

pub record Matches (b : Model) (d : Layout) : Type 0 where
  pub proper : ValidLayout d
  pub size : d.size ≡ b.size
  pub files : Rearranged (files_in d.places) b.files

-- sectors of the disk that no chain uses, each once
pub record Unused (d : Layout) (ns : List ℕ) : Type 0 where
  pub distinct : DistinctNumbers ns
  pub usable : AllByRecursion (λ n. (nat_le reserved n && nat_lt n d.size) ≡ true) ns
  pub outside : AllByRecursion (λ n. member n (numbers (chains d.places)) ≡ false) ns

-- what a call that is not refused leaves, where it took as many unused sectors as it says
abbrev pub StaysMatched : Type 0
StaysMatched =
    (b : Model) (d : Layout) (given : Supplied) (q : Request) (buf taken : List ℕ) →
    b.initialized ≡ true → Matches b d →
    (response b given q buf).refused ≡ false →
    length taken ≡ (response b given q buf).added → Unused d taken →
    Matches (response b given q buf).after (unwrap_or (layout_after d b q buf taken) d)

-- ---- the map

-- the map is not behind
abbrev pub Current : Layout → Type 0
Current d = d.map ≡ map_bytes (allocated d.size d.places)

-- the model and the layout match, and the map is behind only while something is unsaved, which a unit open then will save
pub record Follows (b : Model) (d : Layout) : Type 0 where
  pub matches : Matches b d
  pub units : length b.units ≡ 16
  pub unsaved : some_open b ≡ false → b.changed ≡ false
  pub current : b.changed ≡ false → Current d

abbrev pub StaysFollowing : Type 0
StaysFollowing =
    (b : Model) (d : Layout) (given : Supplied) (q : Request) (buf taken : List ℕ) →
    b.initialized ≡ true → Follows b d →
    (response b given q buf).refused ≡ false →
    length taken ≡ (response b given q buf).added → Unused d taken →
    Follows (response b given q buf).after (unwrap_or (layout_after d b q buf taken) d)

-- ---- units

-- a unit holds a file that is there, at one of its records or behind the last
abbrev pub seated : List File → UnitState → Bool
seated fs closed = true
seated fs (holds n k c) = is_some (find n fs) && nat_le c (length (unwrap_or (find n fs) []))

pub record Orderly (b : Model) : Type 0 where
  pub units : length b.units ≡ 16
  pub seats : (u : ℕ) → seated b.files (state b u) ≡ true
  -- no two units hold one file
  pub alone : (n : List ℕ) (u v : ℕ) → has_name n (state b u) ≡ true → has_name n (state b v) ≡ true → u ≡ v

abbrev pub StaysOrderly : Type 0
StaysOrderly =
    (b : Model) (given : Supplied) (q : Request) (buf : List ℕ) →
    Orderly b → (response b given q buf).refused ≡ false → Orderly (response b given q buf).after

-- a model that is not initialised has no file, and nothing unsaved
pub record UnreadIsEmpty (b : Model) : Type 0 where
  pub files : b.initialized ≡ false → b.files ≡ []
  pub changed : b.initialized ≡ false → b.changed ≡ false

abbrev pub StartsUnread : Type 0
StartsUnread = (s : ℕ) (door tab : Bool) → UnreadIsEmpty (new_model s door tab)

abbrev pub StaysUnread : Type 0
StaysUnread = (b : Model) (given : Supplied) (q : Request) (buf : List ℕ) → UnreadIsEmpty b → UnreadIsEmpty (response b given q buf).after

-- a call that is refused leaves the model as it was
abbrev pub RefusalKeeps : Type 0
RefusalKeeps =
    (b : Model) (given : Supplied) (q : Request) (buf : List ℕ) →
    (response b given q buf).refused ≡ true → (response b given q buf).after ≡ b

-- a call that is not refused adds no more than there are free sectors
abbrev pub AddsFew : Type 0
AddsFew =
    (b : Model) (given : Supplied) (q : Request) (buf : List ℕ) →
    (response b given q buf).refused ≡ false → (response b given q buf).added ≤ free_count b

-- and there are as many unused sectors as the model counts
abbrev pub EnoughUnused : Type 0
EnoughUnused = (b : Model) (d : Layout) → Matches b d → (ns : List ℕ) × (length ns ≡ free_count b) × Unused d ns
