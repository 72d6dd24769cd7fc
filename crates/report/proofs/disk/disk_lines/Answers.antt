use Rattle.std.proofs.Common.{◌≡◌, List, ℕ, ◌+◌, ◌/◌, ◌++◌, codes, take, min, length, ap, ◌∙◌, append-nil, sym, arith}
use Rattle.std.proofs.lemmas.List.{take_min}
use Rattle.std.proofs.lemmas.Result.{IfOk-weaker}
use Rattle.device.specs.Device.{Medium}
use Rattle.report.specs.Text.{newline, hex_text, map_text}
use Rattle.report.specs.Disk.{disk_text, links_text, map_in_use, sector_data}
use Rattle.report.proofs.disk.disk_lines.Goals as goal

-- the text of these parts
abbrev laid : List ℕ → List ℕ → List ℕ → List ℕ → List ℕ
laid label bytes marks links =
    newline ++ (codes "Label, sector 0:" ++ (newline ++ (label
    ++ (newline ++ (codes "Map, sectors 1 to 3:" ++ (newline ++ (bytes
    ++ (newline ++ (codes "Sectors allocated (#) and free (.), by the map:" ++ (newline ++ (marks
    ++ (newline ++ (codes "Links of the directory:" ++ (newline ++ links))))))))))))))

whole : (m : Medium) (label bytes marks links : List ℕ) → label ≡ hex_text (sector_data m 0 1) → bytes ≡ hex_text (sector_data m 1 3) → marks ≡ map_text (map_in_use m) → links ≡ links_text m 4 32 → laid label bytes marks links ≡ disk_text m
whole m label bytes marks links is_label is_bytes is_marks is_links =
    ap (λ l. laid l bytes marks links) is_label
    ∙ ap (λ l. laid (hex_text (sector_data m 0 1)) l marks links) is_bytes
    ∙ ap (λ l. laid (hex_text (sector_data m 0 1)) (hex_text (sector_data m 1 3)) l links) is_marks
    ∙ ap (laid (hex_text (sector_data m 0 1)) (hex_text (sector_data m 1 3)) (map_text (map_in_use m))) (is_links ∙ sym (append-nil (links_text m 4 32)))

cut : (end n : ℕ) (xs ys : List ℕ) → xs ≡ ys → end ≡ min (length xs) n → take end xs ≡ take n ys
cut end n xs ys e is =
    let flip : min (length xs) n ≡ min n (length xs) = omega arith in
    ap (λ k. take k xs) (is ∙ flip) ∙ take_min n xs ∙ ap (take n) e

pub returns-clause-text : goal.returns-clause-text
returns-clause-text g c =
    let m = g.D.ReadingDevice.medium c.args.device.now in
    let same = c.sector_bytes-2.ensures.same ∙ c.sector_bytes.ensures.same in
    let map = c.in_ok-map.ensures.«data» ∙ ap (λ m. sector_data m 1 3) c.sector_bytes.ensures.same in
    let sectors = ap (λ (m : Medium). length m.sectors) same in
    IfOk-weaker c.format.result _ _ (λ s is. is ∙ whole m _ _ _ _
    (c.in_ok-label-2.ensures ∙ ap hex_text (c.as_slice.ensures.value ∙ c.in_ok-label.ensures.«data»))
    (c.in_ok-bytes.ensures ∙ ap hex_text (c.as_slice-2.ensures.value ∙ map))
    (c.in_ok-marks.ensures ∙ ap map_text (cut c.min-end.result ((length m.sectors + 7) / 8) _ _ (c.deref.ensures.value ∙ map) (omega arith)))
    (c.in_ok-links.ensures.text ∙ ap (λ m. links_text m 4 32) same)) c.format.ensures.ok
