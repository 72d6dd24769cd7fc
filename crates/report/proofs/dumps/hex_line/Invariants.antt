use Rattle.std.proofs.Common.{◌≡◌, take, string_bytes}
use Rattle.report.specs.Text.{hex_cells}
use Rattle.report.proofs.dumps.hex_line.Given as goal

abbrev pub invariant-loop-b : goal.invariant-loop-b
invariant-loop-b l = string_bytes l.text ≡ hex_cells l.fn.at (take l.b-index l.bytes)
