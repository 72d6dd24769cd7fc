use Rattle.std.proofs.Common.{sym, ap, ◌∙◌}
use Rattle.chains.specs.Layout.{Disk}
use Rattle.chains.specs.NameBytes.{name_bytes}
use Rattle.chains.specs.Scans.{seen_of}
use Rattle.chains.specs.Files.{records_from}
use Rattle.chains.proofs.Keeping.{same_disk}
use Rattle.chains.proofs.FileParts.{descriptor_done}
use Rattle.chains.proofs.scan.Scan.read_listed_file.Goals as goal

pub returns-clause-scans : goal.returns-clause-scans
returns-clause-scans g c =
    sym
    (ap (λ (d : Disk). records_from d c.args.place.now.at (name_bytes c.args.place.now.name) (seen_of c.args.self.now)) (same_disk c.fetch.ensures.same)
    ∙ descriptor_done _ _ _ _ _ _ c.in_ok-descriptor.ensures.value c.if-not-is_named_as.ensures c.if-not-is_descriptor_shaped.ensures)
    ∙ c.read_records.ensures.scans
