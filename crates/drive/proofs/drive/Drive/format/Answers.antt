use Rattle.drive.proofs.Formatting.{format_promise}
use Rattle.drive.proofs.drive.Drive.format.Goals as goal

pub returns : goal.returns
returns g c = format_promise g.D.ReadingDevice g.A.SectorAllocator c.args.self.now c.args.id.now _ _ _ c.try_format.ensures c.into.ensures
