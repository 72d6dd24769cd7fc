use Rattle.chains.proofs.Saves.{sector_saved}
use Rattle.chains.proofs.saving.save_map_sector.Goals as goal

pub returns-clause-after : goal.returns-clause-after
returns-clause-after g c =
    let m = g.D.ReadingDevice.medium c.args.device.now in
    let s = sector_saved m _ _ (g.M.Marks.marked c.args.marks.now) c.args.j c.in_ok-old.old c.map_bytes.result c.write.result c.in_ok-old.ensures.value c.map_bytes.ensures c.read.ensures.same
    c.write.ensures.value c.write.ensures.after in
    s.after
