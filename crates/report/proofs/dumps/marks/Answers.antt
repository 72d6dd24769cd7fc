use Rattle.std.proofs.Common.{ℕ, ◌*◌, ◌<◌, List, length, arith, rules}
use Rattle.std.specs.List.{range_with_len}
use Rattle.std.proofs.lemmas.Iterator.{YieldsList-from_map, YieldsList-from_range, text_from_collect}
use Rattle.report.specs.Text.{map_mark}
use Rattle.report.proofs.Ascii.{encodes_map}
use Rattle.report.proofs.dumps.marks.Goals as goal

low : (bs : List ℕ) (n : ℕ) → map_mark bs n < 128
low bs n = search rules

pub returns : goal.returns
returns c =
    let bs = c.args.map.now in
    let n : ℕ = 8 * length bs in
    let text = text_from_collect _ c.collect.ensures.ran (YieldsList-from_map _ (map_mark bs) (YieldsList-from_range 0 n n (search rules) (omega arith)) c.map.ensures.closure (λ x r q k. search rules)) in
    rw (encodes_map (map_mark bs) (low bs) (range_with_len 0 n)) at text
