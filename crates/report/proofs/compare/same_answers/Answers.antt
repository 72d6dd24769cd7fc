use Rattle.std.proofs.Common.{ne_eqb, ◌∙◌, rules}
use Rattle.std.proofs.lemmas.Iterator.{YieldsList-from_slice, YieldsList-from_zip}
use Rattle.std.proofs.lemmas.Iterator.Search.{all_from_yields_List}
use Rattle.report.proofs.AlikeLaws.{alike, all_alike, unlike}
use Rattle.report.proofs.compare.same_answers.Goals as goal

pub returns-then-left-right : goal.returns-then-left-right
returns-then-left-right c =
    let left = c.args.left.now in
    let right = c.args.right.now in
    all_from_yields_List alike c.all.new.self _ c.all.result c.all.ensures.ran (YieldsList-from_zip (YieldsList-from_slice left (search rules)) (YieldsList-from_slice right (search rules))) (λ x b q k. search rules)
    ∙ all_alike left right c.if-left-right.true

pub returns-else-left-right : goal.returns-else-left-right
returns-else-left-right c = ne_eqb _ _ c.if-left-right.false ∙ unlike c.args.left.now c.args.right.now c.if-left-right.false
