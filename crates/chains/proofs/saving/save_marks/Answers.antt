use Rattle.std.proofs.Common.{◌≡◌, ◌-◌, arith}
use Rattle.std.proofs.lemmas.Result.{err_from_is_err_and}
use Rattle.chains.proofs.Saves.{save_more, save_refused}
use Rattle.chains.proofs.saving.save_marks.Goals as goal

pub returns-in_err-save_map_sector-clause-value : goal.returns-in_err-save_map_sector-clause-value
returns-in_err-save_map_sector-clause-value g c =
    let marks = g.M.Marks.marked c.args.marks.now in
    let m = g.D.ReadingDevice.medium c.args.device.now in
    let p = err_from_is_err_and {Q = λ e. e ≡ c.in_err-save_map_sector.field-0.0} c.from_residual.result c.from_residual.ensures.1 in
    (save_refused marks c.loop-j.j (c.loop-j.j - 1) m _ _ c.save_map_sector.result (omega arith) (omega arith) (record { value = c.save_map_sector.ensures.value; after = c.save_map_sector.ensures.after }) c.loop-j.invariant
    _ _ c.from_residual.result c.in_err-save_map_sector.was p.1 p.2).0

pub loop-j-preserved : goal.loop-j-preserved
loop-j-preserved g c =
    let marks = g.M.Marks.marked c.args.marks.now in
    let m = g.D.ReadingDevice.medium c.args.device.now in
    save_more marks c.loop-j.j (c.loop-j.j - 1) m _ _ c.save_map_sector.result (omega arith) (omega arith) (record { value = c.save_map_sector.ensures.value; after = c.save_map_sector.ensures.after }) c.loop-j.invariant
    c.in_ok-save_map_sector.was
