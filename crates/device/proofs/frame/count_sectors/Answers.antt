use Rattle.std.proofs.Common.{rules}
use Rattle.device.proofs.FlatFacts.{length_frames, frames_whole}
use Rattle.device.proofs.frame.count_sectors.Goals as goal

pub returns-clause-value : goal.returns-clause-value
returns-clause-value c = search (rules, length_frames c.args.bytes.now)

pub returns-clause-whole : goal.returns-clause-whole
returns-clause-whole c = frames_whole c.args.bytes.now
