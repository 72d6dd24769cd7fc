use Rattle.std.proofs.Common.{refl}
use Rattle.drive.proofs.Initializing.{initializes_done, initializes_refused}
use Rattle.drive.proofs.Refusals.{passed_on}
use Rattle.drive.proofs.drive.Drive.try_initialize.Goals as goal

pub returns-in_err-check_initialize : goal.returns-in_err-check_initialize
returns-in_err-check_initialize g c =
    initializes_refused g.D.ReadingDevice g.A.SectorAllocator c.args.self.now _ _ c.count-sectors.ensures.whole (passed_on _ _ c.from_residual.ensures.1) c.in_err-check_initialize.ensures

pub returns : goal.returns
returns g c =
    initializes_done g.D.ReadingDevice g.A.SectorAllocator c.args.self.now _ _ c.read_disk-survey.ensures.same refl refl _ _
    c.count-sectors.ensures.whole c.in_ok-check_initialize.ensures c.read_disk-survey.ensures.value
    c.take_over.ensures.device c.take_over.ensures.reads
