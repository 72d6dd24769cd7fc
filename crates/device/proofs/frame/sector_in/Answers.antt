use Rattle.std.proofs.Common.{sym, ◌∙◌, arith}
use Rattle.device.proofs.FlatFacts.{get_or_frames, length_frames}
use Rattle.device.proofs.frame.sector_in.Goals as goal

pub returns : goal.returns
returns c = c.frame_at.ensures ∙ sym (get_or_frames c.args.bytes.now c.args.n (omega (arith, length_frames c.args.bytes.now)))

pub frame_at-requires : goal.frame_at-requires
frame_at-requires c = omega (arith, length_frames c.args.bytes.now)
