use Rattle.std.proofs.Common.{◌≡◌, ℕ, ◌+◌, ◌<◌}
use Rattle.device.specs.declared.sector.Sector.{Sector}
use Rattle.chains.specs.Layout.{numbered}
use Rattle.chains.proofs.Writes.{WrittenFrom}
use Rattle.chains.proofs.format.write_row.Given as goal

abbrev pub invariant-loop-i : goal.invariant-loop-i
invariant-loop-i g l =
    (made : ℕ → Sector) → ((i : ℕ) (s : Sector) → i < l.count → g.F.Fn.post l.content (i, tt) s → s ≡ made i) →
    WrittenFrom (λ i. numbered (l.start + i) (made i)) l.count l.i (g.D.ReadingDevice.medium l.initial.device) (g.D.ReadingDevice.medium l.device)
