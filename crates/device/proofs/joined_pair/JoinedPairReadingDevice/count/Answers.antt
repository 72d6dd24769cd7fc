use Rattle.std.proofs.Common.{arith}
use Rattle.device.proofs.JoinedFacts.{length_joined, whole_joined}
use Rattle.device.proofs.joined_pair.JoinedPairReadingDevice.count.Goals as goal

pub returns-clause-value : goal.returns-clause-value
returns-clause-value g c =
    let self = c.args.self.now in
    let size = length_joined (g.F.ReadingDevice.medium self.first).sectors (g.S.ReadingDevice.medium self.second).sectors in
    omega (arith, c.cut_sum.ensures, c.count.ensures.value, c.count-2.ensures.value, size)

pub returns-clause-whole : goal.returns-clause-whole
returns-clause-whole g c = whole_joined _ _ c.count.ensures.whole c.count-2.ensures.whole
