use Rattle.std.proofs.Common.{◌≡◌, ◌+◌, ◌*◌, ◌/◌, ◌%◌, length, ◌∙◌, arith, rules}
use Rattle.std.proofs.lemmas.Result.{IfOk-weaker}
use Rattle.report.specs.Text.{hex_line}
use Rattle.report.proofs.Parts.{more_text, text_of_parts}
use Rattle.report.proofs.dumps.lines_of_sixteen.Goals as goal

pub returns : goal.returns
returns c = IfOk-weaker c.try_collect.result _ _ (λ s h.
    let p = h.0 in
    let m = c.map.ensures.runs p p.seen h.1 in
    let q = m.0 in
    let e = c.enumerate.ensures.runs q q.seen m.1 in
    let r = e.1.0 in
    let w = c.chunks.ensures.runs r r.seen (search (rules, e.1.1)) in
    let own = h.3 more_text in
    let bs = c.args.bytes.now in
    let cut = rw (e.1.1, c.chunks.ensures.rest, c.chunks.ensures.size) at w in
    let long : p.len ≡ (length bs + 15) / 16 = omega (arith, cut.1 (e.1.2.1 ∙ m.2.0 ∙ h.2), e.1.2.0.0, m.2.1) in
    own.1 ∙ text_of_parts (λ k part. hex_line (16 * k % 65536) part) _ bs 16 ((length bs + 15) / 16) p.at q.at r.at own.0 ((m.2.2 (search rules)).1) e.0 e.1.2.0.2 cut.2 (λ k d h. own.3 k d (omega arith)) (own.2 ∙ long) (λ x y met. let at : 16 * (x.0 % 4096) ≡ 16 * x.0 % 65536 = omega arith in search rules)) c.try_collect.ensures.runs
