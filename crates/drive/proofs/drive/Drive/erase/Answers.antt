use Rattle.drive.proofs.Erasing.{erase_promise}
use Rattle.drive.proofs.drive.Drive.erase.Goals as goal

pub returns : goal.returns
returns g c = erase_promise g.D.ReadingDevice g.A.SectorAllocator c.args.name.now c.args.self.now _ _ _ c.try_erase.ensures c.into.ensures
