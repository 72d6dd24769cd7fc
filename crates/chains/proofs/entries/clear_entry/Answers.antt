use Rattle.std.proofs.Common.{None}
use Rattle.chains.proofs.PlaceWrites.{changed}
use Rattle.chains.proofs.entries.clear_entry.Goals as goal

pub returns-clause-after : goal.returns-clause-after
returns-clause-after g c =
    changed (g.D.ReadingDevice.medium c.args.device.now) (g.D.ReadingDevice.medium c.write_place.new.device) c.args.p None c.write_place.result c.write_place.ensures.value c.write_place.ensures.after
