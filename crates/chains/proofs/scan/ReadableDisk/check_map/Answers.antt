use Rattle.std.proofs.Common.{ℕ, Err, ap, ◌∙◌, arith}
use Rattle.device.specs.declared.fault.Fault.{Fault}
use Rattle.freespace.specs.Bits.{bit_of}
use Rattle.chains.specs.Fresh.{map_sector_bytes}
use Rattle.chains.specs.Survey.{to_be_marked}
use Rattle.chains.proofs.Keeping.{keeps_on, fetched_from}
use Rattle.chains.proofs.CheckParts.{map_more}
use Rattle.chains.proofs.Tests.{unlike}
use Rattle.chains.proofs.scan.ReadableDisk.check_map.Goals as goal

pub returns-then-ne-clause-value : goal.returns-then-ne-clause-value
returns-then-ne-clause-value g c =
    let made = c.map_bytes.ensures ∙ ap (λ (k : ℕ). map_sector_bytes (to_be_marked k (bit_of c.args.met.now.bits)) c.loop-j.j) c.args.self.now.sized in
    ap (λ (f : Fault). Err f) c.structure_fault.ensures
    ∙ map_more _ 3 c.loop-j.j _ _ _ _ (omega arith) (fetched_from _ c.loop-j.invariant.0 c.in_ok-sector.ensures.value) made (unlike _ _ c.if-ne.ensures)
    ∙ c.loop-j.invariant.1

pub loop-j-preserved : goal.loop-j-preserved
loop-j-preserved g c =
    let made = c.map_bytes.ensures ∙ ap (λ (k : ℕ). map_sector_bytes (to_be_marked k (bit_of c.args.met.now.bits)) c.loop-j.j) c.args.self.now.sized in (
      keeps_on c.loop-j.invariant.0 c.fetch.ensures.same,
      map_more _ 3 c.loop-j.j _ _ _ _ (omega arith) (fetched_from _ c.loop-j.invariant.0 c.in_ok-sector.ensures.value) made (unlike _ _ c.if-ne.ensures) ∙ c.loop-j.invariant.1,
    )
