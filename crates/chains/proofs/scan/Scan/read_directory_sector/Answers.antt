use Rattle.std.proofs.Common.{◌+◌, [], get_or, arith, rules}
use Rattle.chains.specs.Scans.{disk_of, seen_of}
use Rattle.chains.proofs.PlaceParts.{same_places, place_count, place_more}
use Rattle.chains.proofs.scan.Scan.read_directory_sector.Goals as goal

pub returns-in_err-read_place-clause-scans : goal.returns-in_err-read_place-clause-scans
returns-in_err-read_place-clause-scans g c =
    let places = same_places _ _ _ c.in_ok-sector.ensures.value c.places_in-place-items.ensures in
    grind (arith, place_more)

pub loop-place-preserved : goal.loop-place-preserved
loop-place-preserved g c =
    let places = same_places _ _ _ c.in_ok-sector.ensures.value c.places_in-place-items.ensures in
    let more = place_count (disk_of c.loop-place.self.disk) (seen_of c.loop-place.self) (seen_of c.read_place.new.self) (4 + c.args.i) (get_or c.places_in-place-items.result.now c.loop-place.place-index []) c.read_place.result c.read_place.ensures.scans c.in_ok-read_place.was in
    (search rules, omega (arith, more, c.loop-place.invariant.1), grind (arith, place_more))
