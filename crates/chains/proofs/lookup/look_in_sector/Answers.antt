use Rattle.std.proofs.Common.{◌+◌, sym, ap, ◌∙◌}
use Rattle.std.proofs.lemmas.List.{at_drop_all}
use Rattle.chains.proofs.Lookups.{places_seen, three_seen}
use Rattle.chains.proofs.lookup.look_in_sector.Goals as goal

pub returns : goal.returns
returns c =
    let ps = c.places_in-places.result.now in
    let n = c.args.name.now in
    let bs = c.args.bytes.now in
    sym (at_drop_all (places_seen n c.loop-k.seen (c.args.p + c.loop-k.k)) ps c.loop-k.k c.loop-k-test.false)
    ∙ c.loop-k.invariant
    ∙ ap (places_seen n c.args.before c.args.p) c.places_in-places.ensures
    ∙ three_seen n c.args.before c.args.p bs
