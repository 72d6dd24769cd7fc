use Rattle.std.proofs.Common.{rules}
use Rattle.plain.proofs.ArrayLaws.{length_sectors, sectors_whole}
use Rattle.plain.proofs.sector_array.SectorArrayReadingDevice.count.Goals as goal

pub returns-clause-value : goal.returns-clause-value
returns-clause-value c = search (rules, length_sectors c.args.self.now.sectors.items)

pub returns-clause-whole : goal.returns-clause-whole
returns-clause-whole c = sectors_whole c.args.self.now.sectors.items
