use Rattle.drive.proofs.Reopens.{reopened}
use Rattle.drive.proofs.reopening.reopen.Goals as goal

pub returns : goal.returns
returns g c = reopened g.D.ReadingDevice g.A.SectorAllocator _ _ _ _ _ c.new-drive.ensures.fresh c.initialize-answer.ensures
