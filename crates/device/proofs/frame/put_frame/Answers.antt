use Rattle.std.proofs.Common.{◌+◌, ◌*◌, ap, ◌∙◌, arith}
use lib.Seq.{paste}
use Rattle.device.specs.Device.{WellFormed}
use Rattle.device.proofs.FlatFacts.{frame_from_parts, links_are}
use Rattle.device.proofs.frame.put_frame.Goals as goal

pub returns-clause-after : goal.returns-clause-after
returns-clause-after c =
    let s = c.args.sector.now in
    let n = c.args.n in
    let whole : WellFormed s = record { count = omega arith; bytes = c.put_data.ensures.small; back = omega arith; forward = omega arith } in
    let links = links_are s _ _ whole c.to_le_bytes.ensures c.to_le_bytes-2.ensures in
    frame_from_parts c.args.bytes.now _ _ n s (omega arith) whole c.put_data.ensures.after (c.put_data-2.ensures.after ∙ ap (λ xs. paste c.put_data.new.bytes (132 * n + 128) xs 4) links)
