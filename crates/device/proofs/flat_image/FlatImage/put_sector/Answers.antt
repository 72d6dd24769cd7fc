use Rattle.std.proofs.Common.{rules, arith}
use Rattle.device.proofs.FlatFacts.{flat_with, filled, length_frames}
use Rattle.device.proofs.flat_image.FlatImage.put_sector.Goals as goal

pub returns : goal.returns
returns c =
    let self = c.args.self.now in
    record {
      after = flat_with self.bytes.items _ self.door self.tab c.args.n c.args.sector.now (omega (arith, length_frames self.bytes.items)) c.put_frame.ensures.whole (search (rules, filled));
      bytes = search (rules, filled);
    }

pub put_frame-requires : goal.put_frame-requires
put_frame-requires c = omega (arith, length_frames c.args.self.now.bytes.items)
