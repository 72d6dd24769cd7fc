use Rattle.std.proofs.Common.{ℕ, ◌+◌, ◌*◌, rules, arith}
use Rattle.std.proofs.lemmas.List.FromFn.{fill_by_all}
use Rattle.chains.specs.Layout.{map_byte}
use Rattle.chains.proofs.MapBytes.{made_each}
use Rattle.chains.proofs.map.map_bytes.Goals as goal

pub returns : goal.returns
returns g c =
    let f : ℕ → ℕ = λ k. map_byte (g.M.Marks.marked c.args.marks.now) (1024 * c.args.j + 8 * k) in
    let made = c.from_fn.ensures.items in
    fill_by_all f c.from_fn.result 128 0 made.long (λ k h. made_each _ f _ (λ i y q call. search rules) c.from_fn.result 0 128 made.each k (omega arith) h)
