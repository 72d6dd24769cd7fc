use Rattle.chains.proofs.Listings.{parsed_place}
use Rattle.chains.proofs.listing.read_place.Goals as goal

pub returns-clause-value : goal.returns-clause-value
returns-clause-value g c =
    parsed_place (g.D.ReadingDevice.medium c.args.device.now) c.args.p c.in_ok-sector.sector _ c.parse_place.result c.in_ok-sector.ensures.value c.place_in.ensures c.parse_place.ensures
