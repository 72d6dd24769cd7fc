use Rattle.drive.proofs.Calls.{status_serves, status_unknown}
use Rattle.drive.proofs.drive.Drive.status.Goals as goal

pub returns-in-Ok : goal.returns-in-Ok
returns-in-Ok g c = status_serves g.D.ReadingDevice g.A.SectorAllocator c.args.self.now _ _ c.in-Ok.ensures c.done.ensures

pub returns-in-Err : goal.returns-in-Err
returns-in-Err g c = status_unknown g.D.ReadingDevice g.A.SectorAllocator c.args.self.now _ c.default.result _ c.in-Err.ensures c.default.ensures c.into.ensures
