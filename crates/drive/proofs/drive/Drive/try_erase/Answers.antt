use Rattle.drive.proofs.Erasing.{tries_done, tries_refused}
use Rattle.drive.proofs.Refusals.{passed_on}
use Rattle.drive.proofs.drive.Drive.try_erase.Goals as goal

pub returns-in_err-file : goal.returns-in_err-file
returns-in_err-file g c =
    tries_refused g.D.ReadingDevice g.A.SectorAllocator c.args.name.now c.args.self.now c.find_erasable.new.self _ _ (passed_on _ _ c.from_residual.ensures.1) c.in_err-file.ensures

pub returns : goal.returns
returns g c =
    tries_done g.D.ReadingDevice g.A.SectorAllocator c.args.name.now c.args.self.now c.find_erasable.new.self c.in_ok-file.file c.remove_file.new.self
    c.remove_file.result c.in_ok-file.ensures c.remove_file.ensures
