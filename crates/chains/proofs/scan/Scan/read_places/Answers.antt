use Rattle.std.proofs.Common.{arith, rules}
use Rattle.chains.proofs.PlaceParts.{places_count, sector_more}
use Rattle.chains.proofs.scan.Scan.read_places.Goals as goal

pub loop-i-preserved : goal.loop-i-preserved
loop-i-preserved g c =
    let more = places_count _ _ _ _ _ _ c.read_directory_sector.ensures.scans c.in_ok-read_directory_sector.was in
    (search rules, omega (arith, c.loop-i.invariant.1), grind (arith, sector_more))
