-- One more sector of the directory or of the map, and what is left of them.
use Rattle.std.proofs.Common.{◌≡◌, ℕ, suc, ◌+◌, ◌-◌, ◌<◌, ◌≤◌, Bool, List, Ok, ap, ◌∙◌, arith}
use Rattle.device.specs.declared.fault.Code.TheVariants.{PointerError, MapWrong}
use Rattle.device.specs.declared.sector.Sector.{Sector}
use Rattle.chains.specs.Names.{same}
use Rattle.chains.specs.Layout.{Disk}
use Rattle.chains.specs.Fresh.{map_sector_bytes}
use Rattle.chains.specs.Reading.{sector_at}
use Rattle.chains.specs.Survey.{need, directory_framed, directory_on, map_on}

module _ (ss : Disk) (n i : ℕ) where
  pub directory_step : i < n → directory_on ss (n - i) i ≡ need (directory_framed i (sector_at ss (4 + i))) PointerError (4 + i) (directory_on ss (n - (i + 1)) (i + 1))
  unfolding directory_on
  directory_step h = let more : n - i ≡ suc (n - (i + 1)) = omega arith in ap (λ (k : ℕ). directory_on ss k i) more

  pub directory_end : n ≤ i → directory_on ss (n - i) i ≡ Ok tt
  unfolding directory_on
  directory_end h = let none : n - i ≡ 0 = omega arith in ap (λ (k : ℕ). directory_on ss k i) none

  -- sector s holds what was made for it, or does not
  pub map_more : (m : ℕ → Bool) (s : Sector) (bytes : List ℕ) (b : Bool) → i < n → s ≡ sector_at ss (1 + i) → bytes ≡ map_sector_bytes m i → b ≡ same s.bytes bytes → need b MapWrong (1 + i) (map_on ss m (n - (i + 1)) (i + 1)) ≡ map_on ss m (n - i) i
  unfolding map_on
  map_more m s bytes b below here made e =
      let more : suc (n - (i + 1)) ≡ n - i = omega arith in
      ap (λ (x : Bool). need x MapWrong (1 + i) (map_on ss m (n - (i + 1)) (i + 1)))
      (e ∙ ap (λ (xs : List ℕ). same s.bytes xs) made ∙ ap (λ (x : Sector). same x.bytes (map_sector_bytes m i)) here)
      ∙ ap (λ (k : ℕ). map_on ss m k i) more

  pub map_end : (m : ℕ → Bool) → n ≤ i → map_on ss m (n - i) i ≡ Ok tt
  unfolding map_on
  map_end m h = let none : n - i ≡ 0 = omega arith in ap (λ (k : ℕ). map_on ss m k i) none
