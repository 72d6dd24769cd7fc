use Rattle.drive.specs.Exchanges.{ServedTo}
use Rattle.drive.proofs.drive.Drive.serve_each.Given as goal

abbrev pub invariant-loop-exchange : goal.invariant-loop-exchange
invariant-loop-exchange g l = ServedTo g.D.ReadingDevice g.A.SectorAllocator l.exchange-index l.initial.exchanges l.initial.self l.exchanges l.self
