use Rattle.std.proofs.Common.{Ok, Result, length, sym, ap, ◌∙◌}
use Rattle.device.specs.declared.fault.Fault.{Fault}
use Rattle.freespace.specs.Bits.{bit_of}
use Rattle.chains.specs.Layout.{Disk}
use Rattle.chains.specs.Scans.{disk_of, seen_of}
use Rattle.chains.specs.Survey.{directory_on, map_on, next, places_on, to_be_marked}
use Rattle.chains.proofs.Keeping.{keeps_on, same_disk, handed}
use Rattle.chains.proofs.SurveyParts.{survey_ends, survey_stops}
use Rattle.chains.proofs.scan.Scan.survey.Goals as goal

pub returns-clause-scans : goal.returns-clause-scans
returns-clause-scans g c =
    let one = c.check_label.ensures.same in
    let two = keeps_on one c.check_directory.ensures.same in
    let three = keeps_on two c.read_places.ensures.same in
    survey_ends (disk_of c.args.self.now.disk) (seen_of c.read_places.new.self) c.check_map.result
    (sym c.check_label.ensures.value ∙ c.in_ok-check_label.was)
    (ap (λ (d : Disk). directory_on d 32 0) (sym (same_disk one)) ∙ sym c.check_directory.ensures.value ∙ c.in_ok-check_directory.was)
    ((λ i. places_on (sym (same_disk two) i) 96 0 (sym c.requires i)) ∙ c.read_places.ensures.scans ∙ ap (λ (r : Result Unit Fault). next r (λ _. Ok (seen_of c.read_places.new.self))) c.in_ok-read_places.was)
    (c.check_map.ensures.value ∙ ap (λ (d : Disk). map_on d (to_be_marked (length d) (bit_of c.read_places.new.self.met.bits)) 3 0) (same_disk three))

pub returns-in_err-read_places-clause-scans : goal.returns-in_err-read_places-clause-scans
returns-in_err-read_places-clause-scans g c =
    let one = c.check_label.ensures.same in
    let two = keeps_on one c.check_directory.ensures.same in
    survey_stops (disk_of c.args.self.now.disk) _
    (sym c.check_label.ensures.value ∙ c.in_ok-check_label.was)
    (ap (λ (d : Disk). directory_on d 32 0) (sym (same_disk one)) ∙ sym c.check_directory.ensures.value ∙ c.in_ok-check_directory.was)
    ((λ i. places_on (sym (same_disk two) i) 96 0 (sym c.requires i)) ∙ c.read_places.ensures.scans ∙ ap (λ (r : Result Unit Fault). next r (λ _. Ok (seen_of c.read_places.new.self))) c.in_err-read_places.was)
    ∙ ap (λ (r : Result Unit Fault). next r (λ _. Ok (seen_of c.read_places.new.self))) (sym (handed c.from_residual-in_err-read_places.result c.from_residual-in_err-read_places.ensures.1))
