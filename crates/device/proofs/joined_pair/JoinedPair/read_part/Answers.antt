use Rattle.std.proofs.Common.{◌≡◌, ◌-◌, subst, arith}
use Rattle.device.specs.Device.{fetched}
use Rattle.device.proofs.JoinedFacts.{fetched_first, fetched_second}
use Rattle.device.proofs.joined_pair.JoinedPair.read_part.Goals as goal

pub returns-then-n-first-clause-value : goal.returns-then-n-first-clause-value
returns-then-n-first-clause-value g c =
    fetched_first (g.F.ReadingDevice.medium c.args.self.now.first) (g.S.ReadingDevice.medium c.args.self.now.second) c.args.n c.requires.within c.requires.closed (omega (arith, c.count-first.ensures.value)) c.read.result c.read.ensures.value

pub returns-else-n-first-clause-value : goal.returns-else-n-first-clause-value
returns-else-n-first-clause-value g c =
    let n = c.args.n in
    let b = g.S.ReadingDevice.medium c.args.self.now.second in
    let size = c.count-first.ensures.value in
    let r = c.read-else-n-first.result in
    fetched_second (g.F.ReadingDevice.medium c.args.self.now.first) b n c.requires.within c.requires.closed (omega (arith, size)) r (subst (λ k. r ≡ fetched b (n - k)) size c.read-else-n-first.ensures.value)
