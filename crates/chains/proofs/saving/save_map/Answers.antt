use Rattle.chains.proofs.Saves.{saved}
use Rattle.chains.proofs.saving.save_map.Goals as goal

pub returns-clause-after : goal.returns-clause-after
returns-clause-after g c d laid shut off unused =
    saved d (g.D.ReadingDevice.medium c.args.device.now) laid c.count-size.result c.count-size.ensures.value (g.A.SectorAllocator.member c.args.allocator.now) unused _ c.save_marks.result c.save_marks.ensures.value c.save_marks.ensures.after shut off
