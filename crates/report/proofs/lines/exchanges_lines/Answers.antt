use Rattle.std.proofs.Common.{◌≡◌, ◌∙◌, length, arith, rules}
use Rattle.std.proofs.lemmas.Result.{IfOk-weaker}
use Rattle.report.specs.Text.{exchange_text}
use Rattle.report.proofs.Parts.{more_text, text_of_elements}
use Rattle.report.proofs.lines.exchanges_lines.Goals as goal

pub returns : goal.returns
returns c = IfOk-weaker c.try_collect.result _ _ (λ s h.
    let p = h.0 in
    let m = c.map.ensures.runs p p.seen h.1 in
    let q = m.0 in
    let xs = c.args.exchanges.now in
    let w = rw (m.1, c.iter.ensures.rest) at (c.iter.ensures.runs q q.seen) in
    let own = h.3 more_text in
    let long : p.len ≡ length xs = omega (arith, w.1 (m.2.0 ∙ h.2), m.2.1) in
    own.1 ∙ text_of_elements exchange_text _ xs p.at q.at own.0 ((m.2.2 (search rules)).1) (λ k d h. w.2 k d (omega arith)) (λ k d h. own.3 k d (omega arith)) (own.2 ∙ long) (λ x y met. search rules)) c.try_collect.ensures.runs
