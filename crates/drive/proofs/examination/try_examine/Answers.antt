use Rattle.drive.proofs.Examining.{examines_fault, examines_refused, examines_sound}
use Rattle.drive.proofs.Refusals.{passed_on}
use Rattle.drive.proofs.examination.try_examine.Goals as goal

pub returns-in_err-check_readable-clause-does : goal.returns-in_err-check_readable-clause-does
returns-in_err-check_readable-clause-does g c = examines_refused _ _ _ (passed_on _ _ c.from_residual.ensures.1) c.in_err-check_readable.ensures

pub returns-in_err-read_disk-clause-does : goal.returns-in_err-read_disk-clause-does
returns-in_err-read_disk-clause-does g c =
    examines_fault _ c.in_ok-check_readable.ensures _ _ (passed_on _ _ c.from_residual-in_err-read_disk.ensures.1) c.in_err-read_disk.ensures.value

pub returns-clause-does : goal.returns-clause-does
returns-clause-does g c = examines_sound _ c.in_ok-check_readable.ensures _ c.in_ok-read_disk.ensures.value
