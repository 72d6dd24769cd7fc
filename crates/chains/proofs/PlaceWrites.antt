-- A place of the directory written: its sector after that, and the layout that the disk then shows.
use Rattle.std.proofs.Common.{◌≡◌, ℕ, ◌+◌, ◌/◌, ◌<◌, cond, List, set, is_ok, Ok, Option, Result, ap, ◌∙◌, arith}
use Rattle.device.specs.declared.fault.Fault.{Fault}
use Rattle.device.specs.Device.{Medium, stored, wrote}
use Rattle.device.proofs.DeviceFacts.{stored_ok}
use Rattle.chains.specs.Layout.{Entry, sector, place_bytes, directory_back, directory_forward}
use Rattle.chains.specs.Reading.{sector_at}
use Rattle.chains.specs.Changes.{directory_sector}
use Rattle.chains.specs.Places.{PlaceChanged, place_written, with_place}
use Rattle.chains.proofs.DirectoryShown.{directory_within, place_put, sector_shown}
use Rattle.chains.proofs.Writes.{done_is}

pub bytes_alike : (m now : Medium) (p : ℕ) (bs cs : List ℕ) (r : Result Unit Fault) → now ≡ cond (is_ok r) (place_written m p bs) m → bs ≡ cs → now ≡ cond (is_ok r) (place_written m p cs) m
bytes_alike m now p bs cs r after e = after ∙ ap (λ xs. cond (is_ok r) (place_written m p xs) m) e

-- ---- on a disk that shows a layout

pub changed : (m now : Medium) (p : ℕ) (e : Option Entry) (r : Result Unit Fault) → r ≡ stored m (4 + p / 3) → now ≡ cond (is_ok r) (place_written m p (place_bytes e)) m → PlaceChanged m p e r now
changed m now p e r value after d laid below door tab =
    let es = d.places in
    let i = p / 3 in
    let here : i < 32 = omega arith in
    let ok : r ≡ Ok tt = value ∙ stored_ok m (4 + i) (directory_within d m.sectors laid i here) door tab in
    let put : with_place (sector_at m.sectors (4 + i)) p (place_bytes e) ≡ directory_sector (set es p e) i =
    ap (λ s. with_place s p (place_bytes e)) (sector_shown d m.sectors laid i here) ∙
    ap (λ bs. sector bs (directory_back i) (directory_forward i)) (place_put d m.sectors laid p e below) in
    (ok, done_is (place_written m p (place_bytes e)) m now r after ok ∙ ap (λ s. wrote m (4 + i) s) put)
