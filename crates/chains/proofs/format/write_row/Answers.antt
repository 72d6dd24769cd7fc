use Rattle.std.proofs.Common.{◌≡◌, ℕ, ◌+◌, ◌-◌, sym, refl, ap, ◌∙◌, subst, arith}
use Rattle.std.proofs.lemmas.Result.{err_from_is_err_and}
use Rattle.chains.specs.Layout.{NumberedSector, numbered}
use Rattle.chains.specs.Fresh.{row, written_over}
use Rattle.chains.proofs.Writes.{WrittenFrom, one_more, refused, from_all}
use Rattle.chains.proofs.format.write_row.Goals as goal

pub returns-in_err-write : goal.returns-in_err-write
returns-in_err-write g c made makes =
    let f : ℕ → NumberedSector = λ i. numbered (c.args.start + i) (made i) in
    let m = g.D.ReadingDevice.medium c.args.device.now in
    let p = err_from_is_err_and {Q = λ e. e ≡ c.in_err-write.field-0.0} c.from_residual.result c.from_residual.ensures.1 in
    let r = refused f c.args.count c.loop-i.i m _ _ _ c.content.result c.write.result (omega arith) c.write.ensures.value c.write.ensures.after (c.loop-i.invariant made makes)
    _ _ c.from_residual.result c.in_err-write.was p.1 p.2 in
    record { value = r.0; after = r.1 (written_over (row c.args.start c.args.count made) m) }

pub loop-i-preserved : goal.loop-i-preserved
loop-i-preserved g c made makes =
    let f : ℕ → NumberedSector = λ i. numbered (c.args.start + i) (made i) in
    let m = g.D.ReadingDevice.medium c.args.device.now in
    one_more f c.args.count c.loop-i.i m _ _ _ c.content.result c.write.result (omega arith) c.write.ensures.value c.write.ensures.after (c.loop-i.invariant made makes)
    (c.loop-i.i - 1) (omega arith) (omega arith) refl (makes (c.loop-i.i - 1) c.content.result (omega arith) c.content.ensures) c.in_ok-write.was

pub returns : goal.returns
unfolding row
returns g c made makes =
    let f : ℕ → NumberedSector = λ i. numbered (c.args.start + i) (made i) in
    let m = g.D.ReadingDevice.medium c.args.device.now in
    let end : c.loop-i.i ≡ 0 = omega arith in
    let all : WrittenFrom f c.args.count 0 m (g.D.ReadingDevice.medium c.loop-i.device) = subst (λ (k : ℕ). WrittenFrom f c.args.count k m (g.D.ReadingDevice.medium c.loop-i.device)) end (c.loop-i.invariant made makes) in
    record { value = sym (all.begun (omega arith)); after = all.after ∙ ap (λ xs. written_over xs m) (from_all f c.args.count) }
