-- What is listed at a place, by what the device gave.
use Rattle.std.proofs.Common.{◌≡◌, ℕ, zero, suc, ◌+◌, ◌*◌, ◌/◌, ◌%◌, ◌<◌, ◌≤◌, Bool, true, false, cond, ltb, List, length, get_or, take, drop, IsErrAnd, Some, None, Ok, Err, Option, Result, sym, refl, ap, ◌∙◌, subst, arith}
use Rattle.std.specs.Simd.{first_chunks}
use Rattle.std.proofs.lemmas.List.{drop-drop}
use Rattle.std.proofs.lemmas.Bool.{lt-ltb, le-ltb}
use Rattle.device.specs.declared.fault.Fault.{Fault}
use Rattle.device.specs.declared.sector.Sector.{Sector}
use Rattle.device.specs.Device.{Medium, device_fault, fetched}
use Rattle.device.specs.declared.fault.Code.TheVariants.{InvalidOperation, NotReady}
use Rattle.chains.specs.declared.listing.FileEntry.{FileEntry}
use Rattle.chains.specs.declared.place.Place.{Place}
use Rattle.chains.specs.NameBytes.{name_bytes}
use Rattle.chains.specs.Reading.{place, sector_at}
use Rattle.chains.specs.Survey.{next}
use Rattle.chains.specs.Listings.{Parsed, PlaceRead, file_in, listing, names_file, record_count, shown}

answered : (within door : Bool) (given s : Sector) → cond within (cond door (Err (device_fault NotReady)) (Ok given)) (Err (device_fault InvalidOperation)) ≡ Ok s → s ≡ given
answered true true given s e = cc
answered true false given s e = cc
answered false door given s e = cc

-- a sector that the device gave is the medium's
pub given_sector : (m : Medium) (n : ℕ) (s : Sector) → fetched m n ≡ Ok s → s ≡ sector_at m.sectors n
given_sector m n s e = answered (ltb n (length m.sectors)) m.door (sector_at m.sectors n) s e

chunk_at : (k : ℕ) (xs : List ℕ) (i : ℕ) (d : List ℕ) → i < k → get_or (first_chunks 40 k xs) i d ≡ take 40 (drop (40 * i) xs)
chunk_at zero xs i d h = absurd (omega arith)
chunk_at (suc k) xs zero d h = refl
chunk_at (suc k) xs (suc i) d h =
    let on : 40 + 40 * i ≡ 40 * suc i = omega arith in
    chunk_at k (drop 40 xs) i d (omega arith) ∙ ap (take 40) (drop-drop (40 * i) 40 xs ∙ ap (λ m. drop m xs) on)

-- one of the three places of a sector
pub third_of : (bs : List ℕ) (places : List (List ℕ)) (d : List ℕ) (i : ℕ) → places ≡ first_chunks 40 3 bs → i < 3 → get_or places i d ≡ take 40 (drop (40 * i) bs)
third_of bs places d i cut h = ap (λ ps. get_or ps i d) cut ∙ chunk_at 3 bs i d h

pub parsed_place : (m : Medium) (p : ℕ) (s : Sector) (bs : List ℕ) (o : Option Place) → Ok s ≡ fetched m (4 + p / 3) → bs ≡ take 40 (drop (40 * (p % 3)) s.bytes) → Parsed bs o → PlaceRead m p (Ok o)
parsed_place m p s bs o e cut h =
    let given = given_sector m (4 + p / 3) s (sym e) in
    (sym e ∙ ap Ok given, subst (λ (xs : List ℕ). Parsed xs o) (cut ∙ ap (λ (t : Sector). take 40 (drop (40 * (p % 3)) t.bytes)) given) h)

-- an answer that passes a fault on
pub refused : (r : Result (Option FileEntry) Fault) (f : Fault) → IsErrAnd r (λ e. e ≡ f) → shown r ≡ Err f
refused (Ok x) f h = absurd h
refused (Err e) f h = ap Err h

module _ (m : Medium) (p : ℕ) where
  pub none_past : 96 ≤ p → listing m p ≡ Ok None
  unfolding listing
  none_past h = let t = le-ltb p 96 h in simp t

  pub unread : (f : Fault) → p < 96 → fetched m (4 + p / 3) ≡ Err f → listing m p ≡ Err f
  unfolding listing
  unread f h e = let t = lt-ltb p 96 h in simp (t, e)

  by_name : (s : Sector) → p < 96 → fetched m (4 + p / 3) ≡ Ok s → (b : Bool) → names_file (place m.sectors p) ≡ b → listing m p ≡ cond b (file_in m (place m.sectors p)) (Ok None)
  unfolding listing
  by_name s h e b n = let t = lt-ltb p 96 h in simp (t, e, n)

  pub names_none : (o : Option Place) → o ≡ None → p < 96 → PlaceRead m p (Ok o) → listing m p ≡ Ok None
  names_none o none h r = by_name _ h r.0 false (subst (Parsed (place m.sectors p)) none r.1)

  -- the place names a file, and this is the answer to the read of its descriptor
  pub counted : (o : Option Place) (q : Place) → o ≡ Some q → p < 96 → PlaceRead m p (Ok o) → (now : Medium) → now ≡ m → (a : Result ℕ Fault) → a ≡ record_count now q.at → listing m p ≡ next a (λ k. Ok (Some (record { name = name_bytes q.name; records = k })))
  counted o q some h r now same a e =
      let f = subst (Parsed (place m.sectors p)) some r.1 in
      by_name _ h r.0 true f.0 ∙
      λ i. next (sym (e ∙ λ j. record_count (same j) (f.2 j)) i) (λ k. Ok (Some (record { name = sym f.1 i; records = k })))
