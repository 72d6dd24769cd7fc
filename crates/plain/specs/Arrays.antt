-- What a vector of sectors means as a device.
use Rattle.std.specs.Prelude.{◌%◌, List, map, take, vec_items, slice_index}
use Rattle.std.specs.List.{range_with_len}
use Rattle.device.specs.Device.{Medium}
use Rattle.device.specs.declared.sector.Sector.{Sector}
use Rattle.plain.specs.declared.sector_array.SectorArray.{SectorArray}

-- a sector with 128 bytes, each of 8 bits, and links of 16: what every sector of a program is already
unfoldable pub sized : Sector → Sector
sized s = record {
  bytes = map (λ k. slice_index s.bytes k % 256) (range_with_len 0 128);
  back = s.back % 65536;
  forward = s.forward % 65536;
}

-- the sectors of a vector, at most 65,535
unfoldable pub sectors_of : List Sector → List Sector
sectors_of ss = map sized (take 65535 ss)

abbrev pub array_medium : SectorArray → Medium
array_medium a = record { sectors = sectors_of (vec_items a.sectors); door = a.door; tab = a.tab }
