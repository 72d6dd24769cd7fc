use Rattle.std.proofs.Common.{Ok, Err, sym, ◌∙◌, arith}
use Rattle.chains.proofs.Listings.{counted, names_none, none_past, refused, unread}
use Rattle.chains.proofs.listing.file_at.Goals as goal

pub returns-then-p-ge-PLACES-clause-listed : goal.returns-then-p-ge-PLACES-clause-listed
returns-then-p-ge-PLACES-clause-listed g c = sym (none_past _ c.args.p (omega arith))

pub returns-in_err-place-clause-listed : goal.returns-in_err-place-clause-listed
returns-in_err-place-clause-listed g c =
    refused c.from_residual.result _ c.from_residual.ensures.1 ∙ sym (unread (g.D.ReadingDevice.medium c.args.device.now) c.args.p _ (omega arith) c.in_err-place.ensures.value)

pub returns-in_default-clause-listed : goal.returns-in_default-clause-listed
returns-in_default-clause-listed g c = sym (names_none (g.D.ReadingDevice.medium c.args.device.now) c.args.p _ c.in_default.is (omega arith) c.in_ok-place.ensures.value)

pub returns-in_err-records-clause-listed : goal.returns-in_err-records-clause-listed
returns-in_err-records-clause-listed g c =
    let m = g.D.ReadingDevice.medium c.args.device.now in
    let after = g.D.ReadingDevice.medium c.read_place.new.device in
    refused c.from_residual-in_err-records.result _ c.from_residual-in_err-records.ensures.1 ∙
    sym (counted m c.args.p _ c.in-Some.place c.in-Some.is (omega arith) c.in_ok-place.ensures.value after c.read_place.ensures.same (Err c.in_err-records.field-0.0) c.in_err-records.ensures.value)

pub returns-clause-listed : goal.returns-clause-listed
returns-clause-listed g c =
    let m = g.D.ReadingDevice.medium c.args.device.now in
    let after = g.D.ReadingDevice.medium c.read_place.new.device in
    sym (counted m c.args.p _ c.in-Some.place c.in-Some.is (omega arith) c.in_ok-place.ensures.value after c.read_place.ensures.same (Ok c.in_ok-records.records) c.in_ok-records.ensures.value)
