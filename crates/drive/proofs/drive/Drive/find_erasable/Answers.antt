use Rattle.std.proofs.Common.{Ok, Err, ap, ◌∙◌}
use Rattle.std.specs.Option.{ok_or}
use Rattle.chains.specs.Survey.{next}
use Rattle.drive.proofs.Erasing.{finds_then, finds_unread}
use Rattle.drive.proofs.Refusals.{passed_on}
use Rattle.drive.proofs.drive.Drive.find_erasable.Goals as goal

pub returns-in_err-lookup : goal.returns-in_err-lookup
returns-in_err-lookup g c =
    finds_unread g.D.ReadingDevice c.args.name.now c.args.self.now c.look_up.new.device c.look_up.ensures.same c.in_ok-check_erase.ensures
    c.look_up.result c.look_up.ensures.found _ _ (passed_on _ _ c.from_residual-in_err-lookup.ensures.1) c.in_err-lookup.was

pub returns-in_err-file : goal.returns-in_err-file
returns-in_err-file g c =
    finds_then g.D.ReadingDevice c.args.name.now c.args.self.now c.look_up.new.device c.look_up.ensures.same c.in_ok-check_erase.ensures
    c.look_up.result c.look_up.ensures.found c.in_ok-lookup.lookup (Err c.in_err-file.field-0.0) _ c.in_ok-lookup.was (c.in_err-file.ensures.value ∙ ap (ok_or c.in_ok-lookup.lookup.file) c.new.ensures)
    (passed_on _ _ c.from_residual-in_err-file.ensures.1)

pub returns-in_err-check_unused : goal.returns-in_err-check_unused
returns-in_err-check_unused g c =
    finds_then g.D.ReadingDevice c.args.name.now c.args.self.now c.look_up.new.device c.look_up.ensures.same c.in_ok-check_erase.ensures
    c.look_up.result c.look_up.ensures.found c.in_ok-lookup.lookup (Ok c.in_ok-file.file) _ c.in_ok-lookup.was (c.in_ok-file.ensures.value ∙ ap (ok_or c.in_ok-lookup.lookup.file) c.new.ensures)
    (passed_on _ _ c.from_residual-in_err-check_unused.ensures.1 ∙ ap (λ w. next w (λ _. Ok c.in_ok-file.file)) c.in_err-check_unused.ensures)

pub returns : goal.returns
returns g c =
    finds_then g.D.ReadingDevice c.args.name.now c.args.self.now c.look_up.new.device c.look_up.ensures.same c.in_ok-check_erase.ensures
    c.look_up.result c.look_up.ensures.found c.in_ok-lookup.lookup (Ok c.in_ok-file.file) _ c.in_ok-lookup.was (c.in_ok-file.ensures.value ∙ ap (ok_or c.in_ok-lookup.lookup.file) c.new.ensures)
    (ap (λ w. next w (λ _. Ok c.in_ok-file.file)) c.in_ok-check_unused.ensures)
