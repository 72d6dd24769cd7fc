use Rattle.std.proofs.Common.{not, rules}
use Rattle.freespace.specs.Bits.{bit_of}
use Rattle.freespace.proofs.Filled.{filled}
use Rattle.freespace.proofs.fill.fill_unused.Goals as goal

pub returns-clause-after : goal.returns-clause-after
returns-clause-after g c =
    let e = c.fill_where.ensures in
    filled c.fill_where.result _ _ (λ n. not (bit_of c.args.used.now.bits n)) c.args.first c.args.sectors (λ t n low high. search (rules, e.within t n low high)) e.outside e.refused
