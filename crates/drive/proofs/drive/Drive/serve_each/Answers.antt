use Rattle.std.proofs.Common.{arith}
use Rattle.drive.proofs.RunEnds.{all_served, none_served, run_from_new, served_next}
use Rattle.drive.proofs.drive.Drive.serve_each.Goals as goal

pub loop-exchange-init : goal.loop-exchange-init
loop-exchange-init g c = none_served g.D.ReadingDevice g.A.SectorAllocator _ _

pub loop-exchange-preserved : goal.loop-exchange-preserved
loop-exchange-preserved g c =
    served_next g.D.ReadingDevice g.A.SectorAllocator c.loop-exchange.exchange-index _ _ c.loop-exchange.exchanges _ _ _ _ (omega arith)
    c.loop-exchange.invariant c.serve.ensures.served c.serve.ensures.request

pub returns-clause-runs : goal.returns-clause-runs
returns-clause-runs g c =
    run_from_new g.D.ReadingDevice g.A.SectorAllocator _ _ _ _ (all_served g.D.ReadingDevice g.A.SectorAllocator c.loop-exchange.exchange-index _ _ _ _ (omega arith) c.loop-exchange.invariant)
