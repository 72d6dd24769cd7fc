use Rattle.std.proofs.Common.{◌≡◌, ◌∙◌, ◌++◌, List, ℕ, ap, sym, vec_items}
use Rattle.report.specs.Disk.{disk_text}
use Rattle.report.specs.Text.{exchanges_text}
use Rattle.exam.proofs.requests.exam_text.Goals as goal

-- two texts, one after the other
one_after : (a b c d : List ℕ) → a ≡ c → b ≡ d → a ++ b ≡ c ++ d
one_after a b c d is_a is_b = rw (is_a, is_b)

pub returns-clause-text : goal.returns-clause-text
returns-clause-text g c =
    let disk = c.in_ok-disk.ensures.text ∙ ap disk_text (sym c.in_ok-disk.ensures.same) in
    let served = c.in_ok-served.ensures ∙ ap exchanges_text c.as_slice.ensures.value in
    c.in_ok-text.ensures.ok ∙ one_after _ _ (exchanges_text (vec_items c.in_ok-device.exchanges)) (disk_text (g.D.ReadingDevice.medium c.disk_lines.new.device)) served disk
