-- What the sectors of an array are.
use Rattle.std.proofs.Common.{◌≡◌, ℕ, ◌%◌, ◌^◌, ◌<◌, min, List, map, length, get_or, take, set, sym, ap, ◌∙◌, arith}
use lib.Seq.{take-set-lt}
use Rattle.std.specs.List.{range_with_len, AllByRecursion}
use Rattle.std.proofs.lemmas.List.FromFn.{length-map-range_with_len, fill_by_all}
use Rattle.std.proofs.ByRecursion.{All-map, All-from_get_or, All-get_or}
use Rattle.std.proofs.lemmas.List.{length-map, length-take, get_or-map, get_or-take, map-set}
use Rattle.device.specs.declared.sector.Sector.{Sector}
use Rattle.device.specs.Device.{blank, WellFormed}
use Rattle.plain.specs.Arrays.{sized, sectors_of}

sized_is : (s : Sector) → WellFormed s → sized s ≡ s
unfolding sized
sized_is s w =
    let bytes =
    fill_by_all (λ k. get_or s.bytes k 0 % 256) s.bytes 128 0 w.count
    (λ k h. let l : get_or s.bytes k 0 < 256 = All-get_or (λ b. b < 2 ^ 8) s.bytes k 0 (omega (arith, w.count)) w.bytes in omega arith) in
    let back : s.back % 65536 ≡ s.back = omega (arith, w.back) in
    let forward : s.forward % 65536 ≡ s.forward = omega (arith, w.forward) in
    λ i. record { bytes = sym bytes i; back = back i; forward = forward i }

sized_whole : (s : Sector) → WellFormed (sized s)
unfolding sized
sized_whole s =
    record {
      count = length-map-range_with_len (λ k. get_or s.bytes k 0 % 256) 0 128;
      bytes = All-map (λ b. b < 2 ^ 8) (λ k. get_or s.bytes k 0 % 256) (range_with_len 0 128) (All-from_get_or (λ k. get_or s.bytes k 0 % 256 < 2 ^ 8) (range_with_len 0 128) 0 (λ i l. omega arith));
      back = omega arith;
      forward = omega arith;
    }

pub sectors_whole : (ss : List Sector) → AllByRecursion WellFormed (sectors_of ss)
unfolding sectors_of
sectors_whole ss = All-map WellFormed sized (take 65535 ss) (All-from_get_or (λ s. WellFormed (sized s)) (take 65535 ss) blank (λ i l. sized_whole (get_or (take 65535 ss) i blank)))

pub length_sectors : (ss : List Sector) → length (sectors_of ss) ≡ min 65535 (length ss)
unfolding sectors_of
length_sectors ss = length-map (take 65535 ss) sized ∙ length-take 65535 ss

pub below_both : (ss : List Sector) (n : ℕ) → n < length (sectors_of ss) → (n < 65535) × (n < length ss)
below_both ss n h = let l = length_sectors ss in (omega arith, omega arith)

-- s is what stands at n in the vector
pub sector_is : (ss : List Sector) (n : ℕ) (s : Sector) → n < length (sectors_of ss) → WellFormed s → s ≡ get_or ss n s → s ≡ get_or (sectors_of ss) n blank
unfolding sectors_of
sector_is ss n s h w e =
    let b = below_both ss n h in
    sym
    (get_or-map sized (take 65535 ss) n s blank (omega (arith, length-map (take 65535 ss) sized))
    ∙ ap sized (get_or-take 65535 ss n s b.0 ∙ sym e)
    ∙ sized_is s w)

pub sectors_set : (ss : List Sector) (n : ℕ) (s : Sector) → n < length (sectors_of ss) → WellFormed s → sectors_of (set ss n s) ≡ set (sectors_of ss) n s
unfolding sectors_of
sectors_set ss n s h w =
    ap (map sized) (take-set-lt 65535 ss n s (below_both ss n h).0) ∙ map-set sized (take 65535 ss) n s ∙ ap (set (sectors_of ss) n) (sized_is s w)
