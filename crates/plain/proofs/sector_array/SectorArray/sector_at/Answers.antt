use Rattle.std.proofs.Common.{arith}
use Rattle.plain.proofs.ArrayLaws.{below_both, sector_is}
use Rattle.plain.proofs.sector_array.SectorArray.sector_at.Goals as goal

pub index-requires : goal.index-requires
index-requires c = let v = c.args.self.now.sectors in omega (arith, (below_both v.items c.args.n c.requires).1, v.ok.0)

pub returns : goal.returns
returns c = sector_is c.args.self.now.sectors.items c.args.n c.index.result.now c.requires c.whole.ensures c.index.ensures
