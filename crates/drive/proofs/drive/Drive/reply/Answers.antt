use Rattle.std.proofs.Common.{[], Some, None, subst}
use Rattle.rules.specs.Model.{Format}
use Rattle.drive.specs.Serves.{ServesAlone}
use Rattle.drive.proofs.Dispatch.{replied}
use Rattle.drive.proofs.drive.Drive.reply.Goals as goal

pub returns-in-Format : goal.returns-in-Format
returns-in-Format g c =
    replied g.D.ReadingDevice g.A.SectorAllocator _ _ _ _ _ None c.in-Format.is (subst (λ id. ServesAlone g.D.ReadingDevice g.A.SectorAllocator (Format id) c.args.self.now c.format.result [] c.format.new.self) c.deref.ensures.value c.format.ensures)

pub returns-in-Door : goal.returns-in-Door
returns-in-Door g c = replied g.D.ReadingDevice g.A.SectorAllocator _ _ _ _ _ None c.in-Door.is c.door.ensures

pub returns-in-Tab : goal.returns-in-Tab
returns-in-Tab g c = replied g.D.ReadingDevice g.A.SectorAllocator _ _ _ _ _ None c.in-Tab.is c.tab.ensures

pub returns-in-Status : goal.returns-in-Status
returns-in-Status g c = replied g.D.ReadingDevice g.A.SectorAllocator _ _ _ _ _ (Some c.status.result.1) c.in-Status.is c.status.ensures
