use Rattle.std.proofs.Common.{true, rules}
use Rattle.freespace.proofs.Filled.{filled}
use Rattle.freespace.proofs.fill.fill_from.Goals as goal

pub returns-clause-after : goal.returns-clause-after
returns-clause-after g c m =
    let e = c.fill_where.ensures in
    search (rules, filled c.fill_where.result _ _ (λ n. true) c.args.first c.args.sectors (λ t n low high. search (rules, e.within t n low high)) e.outside e.refused m)
