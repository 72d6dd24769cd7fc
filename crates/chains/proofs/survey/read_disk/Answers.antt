use Rattle.std.proofs.Common.{ap, ◌∙◌}
use Rattle.device.specs.Device.{Medium}
use Rattle.chains.specs.Scans.{disk_of}
use Rattle.chains.proofs.Keeping.{handed}
use Rattle.chains.proofs.Found.{found_fault, found_files, refuses_size, refuses_door, reads_on}
use Rattle.chains.proofs.survey.read_disk.Goals as goal

pub returns-then-not-is_disk_size-clause-value : goal.returns-then-not-is_disk_size-clause-value
returns-then-not-is_disk_size-clause-value g c =
    refuses_size (g.D.ReadingDevice.medium c.args.device.now) c.count-size.result c.count-size.ensures.value c.structure_fault.result c.if-not-is_disk_size.ensures c.structure_fault.ensures

pub returns-in_err-read-clause-value : goal.returns-in_err-read-clause-value
returns-in_err-read-clause-value g c =
    refuses_door (g.D.ReadingDevice.medium c.args.device.now) c.count-size.result c.count-size.ensures.value c.if-not-is_disk_size.ensures c.read.result c.read.ensures.value
    _ c.from_residual.result c.in_err-read.was (handed c.from_residual.result c.from_residual.ensures.1)

pub returns-in_err-survey-clause-value : goal.returns-in_err-survey-clause-value
returns-in_err-survey-clause-value g c =
    reads_on (g.D.ReadingDevice.medium c.args.device.now) c.count-size.result c.count-size.ensures.value c.if-not-is_disk_size.ensures c.read.result c.read.ensures.value c.in_ok-read.field-0 c.in_ok-read.was
    _ (ap (λ d. disk_of d) c.new-scan.ensures.disk ∙ ap (λ (m : Medium). m.sectors) c.read.ensures.same) _
    (found_fault _ c.new-scan.result.disk.ready.whole c.survey.result c.survey.new.self c.survey.ensures.scans
    _ c.from_residual-in_err-survey.result c.in_err-survey.was (handed c.from_residual-in_err-survey.result c.from_residual-in_err-survey.ensures.1))

pub returns-clause-value : goal.returns-clause-value
returns-clause-value g c =
    reads_on (g.D.ReadingDevice.medium c.args.device.now) c.count-size.result c.count-size.ensures.value c.if-not-is_disk_size.ensures c.read.result c.read.ensures.value c.in_ok-read.field-0 c.in_ok-read.was
    _ (ap (λ d. disk_of d) c.new-scan.ensures.disk ∙ ap (λ (m : Medium). m.sectors) c.read.ensures.same) _
    (found_files _ c.new-scan.result.disk.ready.whole c.survey.result c.survey.new.self c.survey.ensures.scans c.into_survey.result c.in_ok-survey.was c.into_survey.ensures.files c.into_survey.ensures.used)
