use Rattle.std.proofs.Common.{◌≡◌, cond, [], ◌∷◌, ◌++◌, is_ok, Err, Result, rules, sym, ap, ◌∙◌, arith}
use Rattle.std.proofs.lemmas.Result.{err_from_is_err_and}
use Rattle.device.specs.declared.fault.Fault.{Fault}
use Rattle.chains.specs.Layout.{numbered}
use Rattle.chains.specs.Fresh.{empty_directory, empty_directory_sector, fresh_marks, map_sector, map_sectors, written_over}
use Rattle.chains.specs.Formatting.{formatted_medium}
use Rattle.chains.proofs.Writes.{first_done, also_done, also_written, never}
use Rattle.chains.proofs.Formats.{long, still_long, answers_stored, leaves_formatted}
use Rattle.chains.proofs.format.format_disk.Goals as goal

pub returns-in_err-write_row : goal.returns-in_err-write_row
returns-in_err-write_row g c =
    let m = g.D.ReadingDevice.medium c.args.device.now in
    let row = c.write_row.ensures empty_directory_sector (λ i s h e. e) in
    let p = err_from_is_err_and {Q = λ e. e ≡ c.in_err-write_row.field-0.0} c.from_residual.result c.from_residual.ensures.1 in
    let err : c.from_residual.result ≡ Err c.in_err-write_row.field-0.0 = p.1 ∙ ap Err p.2 in
    record {
      value = err ∙ sym c.in_err-write_row.was ∙ row.value ∙ sym (answers_stored m c.count-size.result c.count-size.ensures.value c.if-not-is_disk_size.ensures c.args.id.now c.if-not-is_legal_id.ensures);
      after =
          row.after
          ∙ ap (λ (r : Result Unit Fault). cond (is_ok r) (written_over empty_directory m) m) c.in_err-write_row.was
          ∙ ap (λ (r : Result Unit Fault). cond (is_ok r) (formatted_medium m c.args.id.now) m) (sym err);
    }

pub write_row-requires-2-clause-within : goal.write_row-requires-2-clause-within
write_row-requires-2-clause-within g c =
    let m = g.D.ReadingDevice.medium c.args.device.now in
    let directory = first_done empty_directory m _ c.write_row.result (c.write_row.ensures empty_directory_sector (λ i s h e. e)) c.in_ok-write_row.was in
    still_long m c.count-size.result c.count-size.ensures.value c.if-not-is_disk_size.ensures empty_directory _ directory.after

pub returns-in_err-write_row-2 : goal.returns-in_err-write_row-2
returns-in_err-write_row-2 g c =
    let m = g.D.ReadingDevice.medium c.args.device.now in
    let l = long m c.count-size.result c.count-size.ensures.value c.if-not-is_disk_size.ensures in
    let directory = first_done empty_directory m _ c.write_row.result (c.write_row.ensures empty_directory_sector (λ i s h e. e)) c.in_ok-write_row.was in
    let marks = c.write_row-2.ensures (map_sector (fresh_marks c.count-size.result)) (λ i s h e. search rules) in
    never (also_done empty_directory m _ c.write_row-2.result (omega arith) directory marks.value) c.in_err-write_row-2.was

pub returns : goal.returns
returns g c =
    let m = g.D.ReadingDevice.medium c.args.device.now in
    let id = c.args.id.now in
    let s = c.count-size.result in
    let size = c.count-size.ensures.value in
    let fits = c.if-not-is_disk_size.ensures in
    let l = long m s size fits in
    let directory = first_done empty_directory m _ c.write_row.result (c.write_row.ensures empty_directory_sector (λ i s h e. e)) c.in_ok-write_row.was in
    let marks = map_sectors (fresh_marks s) in
    let marks_row = c.write_row-2.ensures (map_sector (fresh_marks s)) (λ i s h e. search rules) in
    let map = also_written empty_directory m _ c.write_row-2.result (omega arith) directory marks_row.value marks _ marks_row.after in
    let ok = also_done (marks ++ empty_directory) m _ c.write.result (omega arith) map c.write.ensures.value in
    let label = also_written (marks ++ empty_directory) m _ c.write.result (omega arith) map c.write.ensures.value (numbered 0 c.label_sector.result ∷ []) _ c.write.ensures.after in
    record {
      value = ok ∙ sym (answers_stored m s size fits id c.if-not-is_legal_id.ensures ∙ directory.begun);
      after = label.after ∙ leaves_formatted m s size fits id c.label_sector.result c.label_sector.ensures ∙ ap (λ (r : Result Unit Fault). cond (is_ok r) (formatted_medium m id) m) (sym ok);
    }
