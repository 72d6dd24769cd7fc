use Rattle.std.proofs.Common.{◌≡◌, length, ap, ◌∙◌}
use Rattle.device.specs.Skew.{skewed}
use Rattle.device.proofs.SkewFacts.{stands_for}
use Rattle.device.proofs.skewed.Skewed.place_of.Goals as goal

pub returns : goal.returns
returns g c =
    let m = g.D.ReadingDevice.medium c.args.self.now.lower in
    let n = c.args.n in
    let at : c.place.result ≡ skewed (length m.sectors) n = c.place.ensures ∙ ap (λ size. skewed size n) c.count.ensures.value in
    record { value = at; stands = stands_for m n c.place.result at }
