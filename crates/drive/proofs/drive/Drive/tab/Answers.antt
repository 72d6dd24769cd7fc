use Rattle.drive.proofs.Calls.{tab_serves}
use Rattle.drive.proofs.drive.Drive.tab.Goals as goal

pub returns : goal.returns
returns g c = tab_serves g.D.ReadingDevice g.A.SectorAllocator c.args.self.now c.args.is_on _ _ c.set_tab.ensures
