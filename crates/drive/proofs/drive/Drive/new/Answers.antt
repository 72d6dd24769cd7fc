use Rattle.drive.proofs.Calls.{fresh_drive}
use Rattle.drive.proofs.drive.Drive.new.Goals as goal

pub returns-clause-fresh : goal.returns-clause-fresh
returns-clause-fresh g c = fresh_drive g.D.ReadingDevice g.A.SectorAllocator _ c.new.ensures.disk c.new.ensures.units
