use Rattle.std.proofs.Common.{◌≡◌, ℕ, ◌*◌, ◌%◌, ◌<◌, length, get_or, ap, ◌∙◌, arith}
use Rattle.device.proofs.SkewFacts.{only_once, in_places}
use Rattle.device.proofs.skewed.place_in_track.Goals as goal

pub returns : goal.returns
returns c =
    let ps = c.table.result in
    let s = c.args.s in
    let size : length ps ≡ 32 = ap length c.table.ensures.value in
    let entry : (t : ℕ) → t < 32 → get_or ps t 0 ≡ 5 * t % 32 = λ t h. ap (λ qs. get_or qs t 0) c.table.ensures.value ∙ in_places t h in
    record {
      value = entry s c.requires;
      once = λ t h e. only_once ps c.table.ensures.once t s (omega (arith, h, size)) (omega (arith, c.requires, size)) (entry t h ∙ e);
    }
