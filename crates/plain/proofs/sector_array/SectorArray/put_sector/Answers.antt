use Rattle.std.proofs.Common.{List, ap, arith}
use Rattle.device.specs.declared.sector.Sector.{Sector}
use Rattle.device.specs.Device.{Medium}
use Rattle.plain.proofs.ArrayLaws.{below_both, sectors_set}
use Rattle.plain.proofs.sector_array.SectorArray.put_sector.Goals as goal

pub index_mut-requires : goal.index_mut-requires
index_mut-requires c = let v = c.args.self.now.sectors in omega (arith, (below_both v.items c.args.n c.requires).1, v.ok.0)

pub returns : goal.returns
returns c =
    let self = c.args.self.now in
    ap {B = Medium} (λ (xs : List Sector). record { sectors = xs; door = self.door; tab = self.tab })
    (sectors_set self.sectors.items c.args.n c.args.sector.now c.requires c.whole.ensures)
