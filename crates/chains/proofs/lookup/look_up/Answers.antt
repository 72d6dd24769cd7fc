use Rattle.std.proofs.Common.{arith}
use Rattle.chains.proofs.Lookups.{looked_further, looked_through, unread}
use Rattle.chains.proofs.lookup.look_up.Goals as goal

pub returns-in_err-sector-clause-found : goal.returns-in_err-sector-clause-found
returns-in_err-sector-clause-found g c d laid door =
    unread c.args.name.now (g.D.ReadingDevice.medium c.args.device.now) (g.D.ReadingDevice.medium c.loop-i.device) c.loop-i.i c.loop-i.lookup c.loop-i.invariant _ c.loop-i-test.true c.in_err-sector.ensures.value d laid door

pub loop-i-preserved : goal.loop-i-preserved
loop-i-preserved g c =
    let m = g.D.ReadingDevice.medium c.args.device.now in
    let now = g.D.ReadingDevice.medium c.loop-i.device in
    looked_further c.args.name.now m now c.loop-i.i c.loop-i.lookup c.loop-i.invariant _ c.in_ok-sector.sector c.look_in_sector-lookup.result c.loop-i-test.true c.in_ok-sector.ensures.value c.read.ensures.same c.look_in_sector-lookup.ensures

pub returns-clause-found : goal.returns-clause-found
returns-clause-found g c =
    looked_through c.args.name.now (g.D.ReadingDevice.medium c.args.device.now) (g.D.ReadingDevice.medium c.loop-i.device) c.loop-i.i c.loop-i.lookup c.loop-i.invariant (omega arith)
