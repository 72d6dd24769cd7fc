use Rattle.std.proofs.Common.{ℕ, ◌/◌, ap, ◌∙◌}
use Rattle.std.specs.Simd.{first_chunks}
use Rattle.chains.proofs.place.places_in.Goals as goal

pub returns : goal.returns
returns c = c.as_chunks.ensures.front ∙ ap (λ (n : ℕ). first_chunks 40 (n / 40) c.args.bytes.now) c.told-bytes
