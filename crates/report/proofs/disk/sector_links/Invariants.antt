use Rattle.std.proofs.Common.{◌≡◌, ◌-◌, string_bytes}
use Rattle.report.specs.Disk.{links_text}
use Rattle.report.proofs.disk.sector_links.Given as goal

abbrev pub invariant-loop-n : goal.invariant-loop-n
invariant-loop-n g l = record {
  same : g.D.ReadingDevice.medium l.device ≡ g.D.ReadingDevice.medium l.initial.device;
  text : string_bytes l.text ≡ links_text (g.D.ReadingDevice.medium l.initial.device) l.first (l.n - l.first);
}
