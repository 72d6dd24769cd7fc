use Rattle.std.proofs.Common.{sym, ◌∙◌}
use Rattle.device.proofs.SkewFacts.{length_skewed, whole_skewed}
use Rattle.device.proofs.skewed.SkewedReadingDevice.count.Goals as goal

pub returns-clause-value : goal.returns-clause-value
returns-clause-value g c = c.count.ensures.value ∙ sym (length_skewed (g.D.ReadingDevice.medium c.args.self.now.lower))

pub returns-clause-whole : goal.returns-clause-whole
returns-clause-whole g c = whole_skewed (g.D.ReadingDevice.medium c.args.self.now.lower) c.count.ensures.whole
