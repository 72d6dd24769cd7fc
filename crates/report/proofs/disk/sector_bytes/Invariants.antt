use Rattle.std.proofs.Common.{◌≡◌, ◌-◌, vec_items}
use Rattle.report.specs.Disk.{sector_data}
use Rattle.report.proofs.disk.sector_bytes.Given as goal

abbrev pub invariant-loop-n : goal.invariant-loop-n
invariant-loop-n g l = record {
  same : g.D.ReadingDevice.medium l.device ≡ g.D.ReadingDevice.medium l.initial.device;
  read : vec_items l.bytes ≡ sector_data (g.D.ReadingDevice.medium l.initial.device) l.first (l.n - l.first);
}
