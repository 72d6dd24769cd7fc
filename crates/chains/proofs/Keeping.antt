-- A disk that is read keeps its sectors, and what a `?` hands on.
use Rattle.std.proofs.Common.{◌≡◌, ℕ, Ok, Err, Result, ap, ◌∙◌}
use Rattle.std.specs.Result.{IsErrAnd}
use Rattle.std.proofs.lemmas.Result.{err_from_is_err_and}
use Rattle.device.specs.declared.fault.Fault.{Fault}
use Rattle.device.specs.declared.reading.ReadingDevice.{Ghosts}
use Rattle.device.specs.declared.sector.Sector.{Sector}
use Rattle.device.specs.Device.{Medium}
use Rattle.chains.specs.declared.scan.ReadableDisk.{ReadableDisk}
use Rattle.chains.specs.Reading.{sector_at}
use Rattle.chains.specs.Scans.{Keeps, disk_of}

module _ {D : Type 0} {G : Ghosts D} where
  pub keeps_on : {a b c : ReadableDisk D G} → Keeps a b → Keeps b c → Keeps a c
  keeps_on k l = record { device = l.device ∙ k.device; medium = l.medium ∙ k.medium; size = l.size ∙ k.size }

  pub same_disk : {a b : ReadableDisk D G} → Keeps a b → disk_of b ≡ disk_of a
  same_disk k = ap (λ (m : Medium). m.sectors) k.medium

  -- a sector that was fetched later on
  pub fetched_from : {a b : ReadableDisk D G} (n : ℕ) {s : Sector} → Keeps a b → ◌≡◌ {A = Result Sector Fault} (Ok s) (Ok (sector_at (disk_of b) n)) → s ≡ sector_at (disk_of a) n
  fetched_from {a} {b} n {s} k e =
      let there : s ≡ sector_at (disk_of b) n = cc in
      there ∙ ap (λ (m : Medium). sector_at m.sectors n) k.medium

pub handed : {A : Type 0} {f : Fault} (r : Result A Fault) → IsErrAnd r (λ e. e ≡ f) → r ≡ Err f
handed r h =
    let p = err_from_is_err_and r h in
    p.1 ∙ ap (λ (e : Fault). Err e) p.2
