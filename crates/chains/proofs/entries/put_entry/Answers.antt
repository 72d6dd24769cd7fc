use Rattle.std.proofs.Common.{◌≡◌, cond, [], is_ok, Some}
use Rattle.chains.specs.Layout.{place_bytes}
use Rattle.chains.specs.Places.{entry_of, place_written}
use Rattle.chains.proofs.PlaceWrites.{bytes_alike, changed}
use Rattle.chains.proofs.entries.put_entry.Goals as goal

pub returns-clause-after : goal.returns-clause-after
returns-clause-after g c ps short =
    let m = g.D.ReadingDevice.medium c.args.device.now in
    let now = g.D.ReadingDevice.medium c.write_place.new.device in
    let p = c.args.p in
    let name = c.args.name.now in
    let at = c.args.descriptor in
    let r = c.write_place.result in
    let bytes = place_bytes (Some (entry_of name at [])) in
    let only : now ≡ cond (is_ok r) (place_written m p bytes) m = bytes_alike m now p c.place_bytes.result bytes r c.write_place.ensures.after c.place_bytes.ensures in
    changed m now p (Some (entry_of name at ps)) r c.write_place.ensures.value only
