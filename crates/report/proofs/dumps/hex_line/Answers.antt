use Rattle.std.proofs.Common.{◌<◌, length, ap, ◌∙◌, append_assoc, arith, rules}
use lib.Utf8.{encode}
use Rattle.std.proofs.lemmas.List.{take_all}
use Rattle.std.proofs.lemmas.Slice.{pushed}
use Rattle.report.specs.Text.{hex_cell, hex_cells, newline}
use Rattle.report.proofs.Pieces.{joined_map_more}
use Rattle.report.proofs.dumps.hex_line.Goals as goal

pub loop-b-preserved : goal.loop-b-preserved
loop-b-preserved c =
    let within : c.loop-b.b-index < length c.args.bytes.now = omega arith in
    let more = joined_map_more hex_cell c.args.bytes.now c.loop-b.b-index within in
    search (rules, append_assoc)

pub returns : goal.returns
unfolding encode
returns c =
    let whole = take_all c.loop-b.b-index c.args.bytes.now (omega arith) in
    pushed newline (c.loop-b.invariant ∙ ap (hex_cells c.args.at) whole) c.in_ok-push-4.was c.push-2.ensures.bytes
