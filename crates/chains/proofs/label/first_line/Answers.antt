use Rattle.std.proofs.Common.{eqb, rules}
use Rattle.std.proofs.lemmas.Iterator.{YieldsList-from_slice}
use Rattle.std.proofs.lemmas.Iterator.Search.{position_from_yields_List}
use borrow.Author.Tests.{tests}
use Rattle.chains.proofs.Labels.{line_ends}
use Rattle.chains.proofs.label.first_line.Goals as goal

pub returns : goal.returns
returns c =
    let xs = c.args.bytes.now in
    let at = position_from_yields_List (λ b. eqb b 10) _ _ c.position.result c.position.ensures.ran (YieldsList-from_slice xs cc) (λ x b q k. search (rules, tests)) in
    rw c.unwrap_or-end.ensures (line_ends xs c.position.result at)
