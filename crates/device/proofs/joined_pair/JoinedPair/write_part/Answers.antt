use Rattle.std.proofs.Common.{◌≡◌, ◌-◌, cond, is_ok, subst, arith}
use Rattle.device.specs.Device.{stored, wrote}
use Rattle.device.proofs.JoinedFacts.{stored_first, stored_second, changed_first, changed_second}
use Rattle.device.proofs.joined_pair.JoinedPair.write_part.Goals as goal

pub returns-then-n-first-clause-value : goal.returns-then-n-first-clause-value
returns-then-n-first-clause-value g c =
    stored_first (g.F.ReadingDevice.medium c.args.self.now.first) (g.S.ReadingDevice.medium c.args.self.now.second) c.args.n c.requires.within c.requires.closed c.requires.free (omega (arith, c.count-first.ensures.value)) c.write.result c.write.ensures.value

pub returns-then-n-first-clause-after : goal.returns-then-n-first-clause-after
returns-then-n-first-clause-after g c =
    let a = g.F.ReadingDevice.medium c.args.self.now.first in
    let b = g.S.ReadingDevice.medium c.args.self.now.second in
    changed_first a b c.args.n c.args.sector.now c.requires.within (omega (arith, c.count-first.ensures.value)) (is_ok c.write.result) _ c.write.ensures.after

pub returns-else-n-first-clause-value : goal.returns-else-n-first-clause-value
returns-else-n-first-clause-value g c =
    let n = c.args.n in
    let b = g.S.ReadingDevice.medium c.args.self.now.second in
    let size = c.count-first.ensures.value in
    let r = c.write-else-n-first.result in
    stored_second (g.F.ReadingDevice.medium c.args.self.now.first) b n c.requires.within c.requires.closed c.requires.free (omega (arith, size)) r (subst (λ k. r ≡ stored b (n - k)) size c.write-else-n-first.ensures.value)

pub returns-else-n-first-clause-after : goal.returns-else-n-first-clause-after
returns-else-n-first-clause-after g c =
    let n = c.args.n in
    let s = c.args.sector.now in
    let a = g.F.ReadingDevice.medium c.args.self.now.first in
    let b = g.S.ReadingDevice.medium c.args.self.now.second in
    let size = c.count-first.ensures.value in
    let ok = is_ok c.write-else-n-first.result in
    let after = g.S.ReadingDevice.medium c.write-else-n-first.new.self in
    changed_second a b n s c.requires.within (omega (arith, size)) ok after (subst (λ k. after ≡ cond ok (wrote b (n - k) s) b) size c.write-else-n-first.ensures.after)
