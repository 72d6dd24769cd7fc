-- What is left of a walk of which i steps are done.
use Rattle.std.proofs.Common.{◌≡◌, ℕ, suc, ◌+◌, ◌-◌, ◌<◌, ◌≤◌, Bool, eqb, Ok, ap, arith}
use Rattle.device.specs.declared.fault.Code.TheVariants.{PointerError}
use Rattle.chains.specs.Layout.{Disk, null}
use Rattle.chains.specs.Reading.{sector_at}
use Rattle.chains.specs.Survey.{walk_on, need}

module _ (ss : Disk) (met : ℕ → Bool) (here count i : ℕ) where
  pub walk_more : i < count → walk_on ss met here (count - i) ≡ walk_on ss met here (suc (count - (i + 1)))
  walk_more below = let one_left : count - i ≡ suc (count - (i + 1)) = omega arith in ap (λ (k : ℕ). walk_on ss met here k) one_left

  pub walk_over : count ≤ i → walk_on ss met here (count - i) ≡ need (eqb (sector_at ss here).forward null) PointerError here (Ok (record { at = here; met = met }))
  unfolding walk_on
  walk_over over = let none : count - i ≡ 0 = omega arith in ap (λ (k : ℕ). walk_on ss met here k) none
