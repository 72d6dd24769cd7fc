use Rattle.drive.proofs.Initializing.{initialize_promise}
use Rattle.drive.proofs.drive.Drive.initialize.Goals as goal

pub returns : goal.returns
returns g c = initialize_promise g.D.ReadingDevice g.A.SectorAllocator c.args.self.now _ _ _ c.try_initialize.ensures c.into.ensures
