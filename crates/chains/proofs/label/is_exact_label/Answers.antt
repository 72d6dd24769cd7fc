use Rattle.std.proofs.Common.{◌≡◌, true, false, drop, refl, ap, ◌∙◌, arith, length-drop}
use Rattle.std.proofs.lemmas.List.{take_all}
use Rattle.device.specs.declared.sector.Sector.{Sector}
use Rattle.chains.specs.Names.{same}
use Rattle.chains.specs.Layout.{label_bytes}
use Rattle.chains.specs.Reading.{line}
use Rattle.chains.specs.Fresh.{label_sector}
use Rattle.chains.proofs.Labels.{exact_from}
use Rattle.chains.proofs.label.is_exact_label.Goals as goal

pub returns-then-is_legal_id : goal.returns-then-is_legal_id
unfolding label_sector
returns-then-is_legal_id c =
    let bs = c.args.bytes.now in
    let id = c.first_line-id.result.now in
    let first : id ≡ line (drop 3 bs) = c.first_line-id.ensures ∙ ap line (take_all 125 (drop 3 bs) (omega (arith, length-drop 3 bs))) in
    exact_from bs id c.args.size true c.eq.result first c.if-is_legal_id.ensures (c.eq.ensures ∙ ap (λ (s : Sector). same bs s.bytes) c.label_sector.ensures)

pub returns-else-is_legal_id : goal.returns-else-is_legal_id
returns-else-is_legal_id c =
    let bs = c.args.bytes.now in
    let id = c.first_line-id.result.now in
    let first : id ≡ line (drop 3 bs) = c.first_line-id.ensures ∙ ap line (take_all 125 (drop 3 bs) (omega (arith, length-drop 3 bs))) in
    c.if-is_legal_id.false ∙ exact_from bs id c.args.size false (same bs (label_bytes id c.args.size)) first c.if-is_legal_id.ensures refl
