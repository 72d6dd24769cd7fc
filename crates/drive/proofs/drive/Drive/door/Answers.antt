use Rattle.drive.proofs.Calls.{door_serves}
use Rattle.drive.proofs.drive.Drive.door.Goals as goal

pub returns : goal.returns
returns g c = door_serves g.D.ReadingDevice g.A.SectorAllocator c.args.self.now c.args.is_open _ _ c.set_door.ensures
