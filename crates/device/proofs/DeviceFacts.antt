-- What a caller of a device learns where nothing refuses.
use Rattle.std.proofs.Common.{◌≡◌, ℕ, ◌<◌, Bool, true, false, cond, length, get_or, is_ok, Ok, Result, ap, ◌∙◌}
use Rattle.std.proofs.lemmas.List.{length-set}
use Rattle.std.proofs.lemmas.Bool.{lt-ltb}
use Rattle.device.specs.declared.sector.Sector.{Sector}
use Rattle.device.specs.declared.fault.Fault.{Fault}
use Rattle.device.specs.Device.{Medium, blank, fetched, stored, wrote}

pub fetched_ok : (m : Medium) (n : ℕ) → n < length m.sectors → m.door ≡ false → fetched m n ≡ Ok (get_or m.sectors n blank)
fetched_ok m n h d = let t = lt-ltb n (length m.sectors) h in simp (t, d)

pub stored_ok : (m : Medium) (n : ℕ) → n < length m.sectors → m.door ≡ false → m.tab ≡ false → stored m n ≡ Ok tt
stored_ok m n h d t = let l = lt-ltb n (length m.sectors) h in simp (l, d, t)

-- `m` is the medium before and `after` the medium after
pub write_ok : (m after : Medium) (n : ℕ) (s : Sector) (r : Result Unit Fault) → r ≡ stored m n → after ≡ cond (is_ok r) (wrote m n s) m → n < length m.sectors → m.door ≡ false → m.tab ≡ false → (r ≡ Ok tt) × (after ≡ wrote m n s)
write_ok m after n s r value changed h d t =
    let e = value ∙ stored_ok m n h d t in
    (e, changed ∙ ap (λ x. cond (is_ok x) (wrote m n s) m) e)

-- accepted or refused
pub length_write : (m after : Medium) (n : ℕ) (s : Sector) (ok : Bool) → after ≡ cond ok (wrote m n s) m → length after.sectors ≡ length m.sectors
length_write m after n s true e = ap (λ x. length x.sectors) e ∙ length-set m.sectors n s
length_write m after n s false e = ap (λ x. length x.sectors) e
