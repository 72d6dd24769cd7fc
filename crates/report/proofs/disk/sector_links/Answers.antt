use Rattle.std.proofs.Common.{◌≡◌, ◌+◌, ◌-◌, append_assoc, ◌∙◌, ap, arith, rules}
use Rattle.device.specs.Device.{fetched}
use Rattle.report.specs.Disk.{link_of, links_text}
use Rattle.report.proofs.Parts.{parts_more}
use Rattle.report.proofs.disk.sector_links.Goals as goal
use Rattle.report.proofs.disk.sector_links.Goals.{in-Ok+in_ok-links+in_ok-writeln, in_default}

pub loop-n-preserved : goal.loop-n-preserved
loop-n-preserved g c =
    let m = g.D.ReadingDevice.medium c.args.device.now in
    let i = c.args.first in
    let n = c.loop-n.n in
    let next : n + 1 - i ≡ n - i + 1 = omega arith in
    let more = ap (links_text m i) next ∙ parts_more (λ k. link_of k (fetched m k)) i (n - i) n (omega arith) in
    record {
      same = cc;
      text = elim c.match-read.branch [ in-Ok+in_ok-links+in_ok-writeln w ↦ search (rules, append_assoc) | in_default w ↦ search (rules) ];
    }
