use Rattle.std.proofs.Common.{refl, ap, ◌∙◌}
use Rattle.chains.specs.Saving.{with_map}
use Rattle.drive.specs.Erasing.{place_emptied}
use Rattle.drive.proofs.Erasing.{never, writable_as}
use Rattle.drive.proofs.drive.Drive.unlist_file.Goals as goal

pub returns-in_err-clear_entry-clause-after : goal.returns-in_err-clear_entry-clause-after
returns-in_err-clear_entry-clause-after g c l k laid low shut off shown free = never (c.in_err-clear_entry.ensures.after l laid low shut off).0

pub returns-in_err-save_map-clause-after : goal.returns-in_err-save_map-clause-after
returns-in_err-save_map-clause-after g c l k laid low shut off shown free =
    let w = writable_as k (place_emptied l c.args.place (g.D.ReadingDevice.medium c.args.self.now.device)) (g.D.ReadingDevice.medium c.clear_entry.new.device) (c.in_ok-clear_entry.ensures.after l laid low shut off).1 shown shut off in
    never (c.in_err-save_map.ensures.after k w.laid w.shut w.off free).0

pub returns-clause-after : goal.returns-clause-after
returns-clause-after g c l k laid low shut off shown free =
    let m = place_emptied l c.args.place (g.D.ReadingDevice.medium c.args.self.now.device) in
    let cleared = (c.in_ok-clear_entry.ensures.after l laid low shut off).1 in
    let w = writable_as k m (g.D.ReadingDevice.medium c.clear_entry.new.device) cleared shown shut off in (
      refl,
      (c.in_ok-save_map.ensures.after k w.laid w.shut w.off free).1 ∙ ap (with_map k) {y = m} cleared,
      c.lose_file.ensures,
    )
