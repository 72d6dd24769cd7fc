use Rattle.std.proofs.Common.{ℕ, ◌<◌, rules}
use Rattle.std.proofs.iter.runs.Made.{chains}
use Rattle.report.specs.Text.{shown_byte}
use Rattle.report.proofs.Ascii.{encodes_map}
use Rattle.report.proofs.lines.shown_text.Goals as goal

low : (b : ℕ) → shown_byte b < 128
low b = search rules

pub returns : goal.returns
returns c = search (rules, chains, encodes_map shown_byte low)
