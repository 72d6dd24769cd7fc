-- Looking through the directory's places one after another: what was found, and what the places still to come give.
use Rattle.std.proofs.Common.{◌≡◌, ℕ, ◌+◌, ◌-◌, ◌*◌, ◌/◌, ◌%◌, ◌<◌, ◌≤◌, Bool, true, false, cond, ◌&&◌, eqb, List, [], ◌∷◌, ◌++◌, length, get_or, take, drop, replicate, Some, None, Ok, Err, Option, Result, sym, refl, ap, ◌∙◌, arith}
use Rattle.std.specs.Option.{option_or}
use Rattle.std.specs.Simd.{first_chunks}
use Rattle.std.proofs.lemmas.Bool.{and_left, ne_eqb, le-leb}
use Rattle.std.proofs.lemmas.List.{append_assoc, take_at, drop-drop, drop_more, drop_all, get_or-append_right}
use Rattle.device.specs.declared.fault.Fault.{Fault}
use Rattle.device.specs.declared.sector.Sector.{Sector}
use Rattle.device.specs.Device.{Medium, fetched}
use Rattle.device.proofs.DeviceFacts.{fetched_ok}
use Rattle.chains.specs.declared.lookup.Located.{Located}
use Rattle.chains.specs.declared.lookup.Lookup.{Lookup}
use Rattle.chains.specs.Names.{same}
use Rattle.chains.specs.Layout.{Disk, Entry, Layout, word, padded, place_bytes, directory_bytes}
use Rattle.chains.specs.Reading.{sector_at, zeros}
use Rattle.chains.specs.Survey.{address_in, name_in}
use Rattle.chains.specs.Changes.{LaidOut, located, first_empty, lookup_of, directory_sector}
use Rattle.chains.specs.Places.{lists, place_seen, sector_seen}
use Rattle.chains.proofs.Padding.{length_padded}
use Rattle.chains.proofs.Listings.{given_sector}
use Rattle.chains.proofs.DirectoryShown.{Fits, length_place, first_third, second_third, last_third, sector_shown, directory_within, first_fits, second_fits, last_fits}

-- ---- one place, by its bytes

pub zero_seen : (n : List ℕ) (l : Lookup) (p : ℕ) (bs : List ℕ) (e : Option ℕ) → zeros bs ≡ true → e ≡ option_or l.empty (Some p) → record { file = l.file; empty = e } ≡ place_seen n l p bs
unfolding place_seen
zero_seen n l p bs e z o = rw z (λ i. record { file = l.file; empty = o i })

pub other_seen : (n : List ℕ) (l : Lookup) (p : ℕ) (bs : List ℕ) → zeros bs ≡ false → lists n bs ≡ false → l ≡ place_seen n l p bs
unfolding place_seen
other_seen n l p bs z o = rw (z, o) refl

pub listed_seen : (n : List ℕ) (l : Lookup) (p at : ℕ) (bs : List ℕ) (o : Option Located) → zeros bs ≡ false → lists n bs ≡ true → at ≡ address_in bs → o ≡ option_or l.file (Some (record { place = p; descriptor = at })) → record { file = o; empty = l.empty } ≡ place_seen n l p bs
unfolding place_seen
listed_seen n l p at bs o z y a e = rw (z, y) (λ i. record { file = (e ∙ λ j. option_or l.file (Some (record { place = p; descriptor = a j }))) i; empty = l.empty })

-- ---- places one after another, of which p is the first

abbrev pub places_seen : List ℕ → Lookup → ℕ → List (List ℕ) → Lookup
places_seen n l p [] = l
places_seen n l p (bs ∷ rest) = places_seen n (place_seen n l p bs) (p + 1) rest

pub three_seen : (n : List ℕ) (l : Lookup) (p : ℕ) (bs : List ℕ) → places_seen n l p (first_chunks 40 3 bs) ≡ sector_seen n l p bs
three_seen n l p bs =
    let third : p + 1 + 1 ≡ p + 2 = omega arith in
    λ i. place_seen n (place_seen n (place_seen n l p (take 40 bs)) (p + 1) (take 40 (drop 40 bs))) (third i) (take 40 (drop-drop 40 40 bs i))

-- ---- one place, by what it is

or_some : {A : Type 0} (o : Option A) (x : A) (y : Option A) → option_or (option_or o (Some x)) y ≡ option_or o (Some x)
or_some None x y = refl
or_some (Some z) x y = refl

or_none : {A : Type 0} (o : Option A) → option_or o None ≡ o
or_none None = refl
or_none (Some x) = refl

-- what was found before place p, and what these places from p on add
abbrev pub found_from : List ℕ → Lookup → ℕ → List (Option Entry) → Lookup
found_from n l p es = record { file = option_or l.file (located n p es); empty = option_or l.empty (first_empty p es) }

module _ (f : Entry) (fits : Fits (Some f)) where
  not_zeros : zeros (place_bytes (Some f)) ≡ false
  not_zeros = and_left (eqb (length f.name) 0) _ (ne_eqb (length f.name) 0 (λ z. omega (arith, fits.0)))

  name_shown : name_in (place_bytes (Some f)) ≡ f.name
  name_shown =
      let n = f.name in
      let k = 32 - length n in
      ap (take (length n)) (append_assoc n (replicate k 0) (word f.at ++ replicate 5 0)) ∙ take_at n (replicate k 0 ++ (word f.at ++ replicate 5 0)) (length n) refl

  lists_shown : (n : List ℕ) → lists n (place_bytes (Some f)) ≡ same n f.name
  lists_shown n = (λ i. le-leb (length f.name) 32 fits.1 i && same n (name_shown i))

  address_shown : address_in (place_bytes (Some f)) ≡ f.at
  address_shown =
      let low : get_or (place_bytes (Some f)) 33 0 ≡ f.at % 256 = get_or-append_right (padded 32 f.name) (word f.at ++ replicate 5 0) 32 32 0 (length_padded 32 f.name fits.1) (omega arith) in
      let high : get_or (place_bytes (Some f)) 34 0 ≡ f.at / 256 = get_or-append_right (padded 32 f.name) (word f.at ++ replicate 5 0) 32 33 0 (length_padded 32 f.name fits.1) (omega arith) in
      omega arith

  file_seen : (n : List ℕ) (l : Lookup) (p : ℕ) (b : Bool) → same n f.name ≡ b →
      place_seen n l p (place_bytes (Some f)) ≡ cond b (record { file = option_or l.file (Some (record { place = p; descriptor = f.at })); empty = l.empty }) l
  file_seen n l p true e = sym (listed_seen n l p f.at (place_bytes (Some f)) _ not_zeros (lists_shown n ∙ e) (sym address_shown) refl)
  file_seen n l p false e = sym (other_seen n l p (place_bytes (Some f)) not_zeros (lists_shown n ∙ e))

  file_step : (n : List ℕ) (l : Lookup) (p : ℕ) (es : List (Option Entry)) (b : Bool) → same n f.name ≡ b →
      found_from n (place_seen n l p (place_bytes (Some f))) (p + 1) es ≡ found_from n l p (Some f ∷ es)
  file_step n l p es true e =
      ap (λ x. found_from n x (p + 1) es) (file_seen n l p true e) ∙
      ((λ i. record { file = or_some l.file (record { place = p; descriptor = f.at }) (located n (p + 1) es) i; empty = option_or l.empty (first_empty (p + 1) es) }) ∙
      (λ i. record { file = option_or l.file (cond (sym e i) (Some (record { place = p; descriptor = f.at })) (located n (p + 1) es)); empty = option_or l.empty (first_empty (p + 1) es) }))
  file_step n l p es false e =
      ap (λ x. found_from n x (p + 1) es) (file_seen n l p false e) ∙
      (λ i. record { file = option_or l.file (cond (sym e i) (Some (record { place = p; descriptor = f.at })) (located n (p + 1) es)); empty = option_or l.empty (first_empty (p + 1) es) })

-- a look at the place moves it from what is to come to what was found
place_step : (n : List ℕ) (l : Lookup) (p : ℕ) (o : Option Entry) (es : List (Option Entry)) → Fits o →
    found_from n (place_seen n l p (place_bytes o)) (p + 1) es ≡ found_from n l p (o ∷ es)
place_step n l p None es fits =
    ap (λ x. found_from n x (p + 1) es) (sym (zero_seen n l p (place_bytes None) _ refl refl)) ∙
    (λ i. record { file = option_or l.file (located n (p + 1) es); empty = or_some l.empty p (first_empty (p + 1) es) i })
place_step n l p (Some f) es fits = file_step f fits n l p es (same n f.name) refl

-- ---- one sector

abbrev three : Option Entry → Option Entry → Option Entry → List ℕ
three a b c = place_bytes a ++ (place_bytes b ++ (place_bytes c ++ replicate 8 0))

sector_step : (n : List ℕ) (l : Lookup) (p : ℕ) (a b c : Option Entry) (es : List (Option Entry)) → Fits a → Fits b → Fits c →
    found_from n (sector_seen n l p (three a b c)) (p + 3) es ≡ found_from n l p (a ∷ b ∷ c ∷ es)
sector_step n l p a b c es fa fb fc =
    let la = length_place a fa in
    let lb = length_place b fb in
    let x = place_bytes a in
    let y = place_bytes b in
    let z = place_bytes c in
    let rest : List ℕ = replicate 8 0 in
    let one = place_seen n l p x in
    let two = place_seen n one (p + 1) y in
    let cut : sector_seen n l p (three a b c) ≡ place_seen n two (p + 2) z =
    λ i. place_seen n (place_seen n (place_seen n l p (first_third x y z rest la lb i)) (p + 1) (second_third x y z rest la lb i)) (p + 2) (last_third x y z rest la lb (length_place c fc) i) in
    let e2 : p + 2 ≡ p + 1 + 1 = omega arith in
    let e3 : p + 3 ≡ p + 2 + 1 = omega arith in
    (λ i. found_from n (cut i) (e3 i) es) ∙
    (place_step n two (p + 2) c es fc ∙
    (ap (λ q. found_from n two q (c ∷ es)) e2 ∙
    (place_step n one (p + 1) b (c ∷ es) fb ∙
    place_step n l p a (b ∷ c ∷ es) fa)))

-- ---- the loop over the sectors

-- i sectors were read: the medium is as it was, and what was found with what is to come is what the whole directory has
pub record Looking (n : List ℕ) (m now : Medium) (i : ℕ) (l : Lookup) : Type 0 where
  pub same : now ≡ m
  pub found : (d : Layout) → LaidOut d m.sectors → m.door ≡ false → found_from n l (3 * i) (drop (3 * i) d.places) ≡ lookup_of n d.places

three_more : (es : List (Option Entry)) (p : ℕ) → p + 2 < length es → drop p es ≡ get_or es p None ∷ get_or es (p + 1) None ∷ get_or es (p + 2) None ∷ drop (p + 3) es
three_more es p l =
    let e2 : p + 1 + 1 ≡ p + 2 = omega arith in
    let e3 : p + 2 + 1 ≡ p + 3 = omega arith in
    let x : List (Option Entry) → List (Option Entry) = λ xs. get_or es p None ∷ xs in
    let y : List (Option Entry) → List (Option Entry) = λ xs. get_or es (p + 1) None ∷ xs in
    let z : List (Option Entry) → List (Option Entry) = λ xs. get_or es (p + 2) None ∷ xs in
    drop_more es p None (omega arith) ∙
    (ap x (drop_more es (p + 1) None (omega arith) ∙ ap (λ q. y (drop q es)) e2) ∙
    ap (λ xs. x (y xs)) (drop_more es (p + 2) None (omega arith) ∙ ap (λ q. z (drop q es)) e3))

sector_found : (d : Layout) (ss : Disk) → LaidOut d ss → (n : List ℕ) (l : Lookup) (i : ℕ) → i < 32 →
    found_from n (sector_seen n l (3 * i) (directory_bytes d.places i)) (3 * (i + 1)) (drop (3 * (i + 1)) d.places) ≡ found_from n l (3 * i) (drop (3 * i) d.places)
sector_found d ss laid n l i below =
    let es = d.places in
    let long : 3 * i + 2 < length es = let h = laid.proper.places in omega arith in
    let next : 3 * (i + 1) ≡ 3 * i + 3 = omega arith in
    ap (λ q. found_from n (sector_seen n l (3 * i) (directory_bytes es i)) q (drop q es)) next ∙
    (sector_step n l (3 * i) (get_or es (3 * i) None) (get_or es (3 * i + 1) None) (get_or es (3 * i + 2) None) (drop (3 * i + 3) es) (first_fits d ss laid i below) (second_fits d ss laid i below) (last_fits d ss laid i below) ∙
    ap (found_from n l (3 * i)) (sym (three_more es (3 * i) long)))

module _ (n : List ℕ) (m now : Medium) (i : ℕ) (l : Lookup) (h : Looking n m now i l) where
  pub looked_further : (then : Medium) (s : Sector) (r : Lookup) → i < 32 → Ok s ≡ fetched now (4 + i) → then ≡ now → r ≡ sector_seen n l (3 * i) s.bytes → Looking n m then (i + 1) r
  looked_further then s r below got kept seen =
      record {
        same = kept ∙ h.same;
        found = λ d laid door.
            let es = d.places in
            let shown : s ≡ directory_sector es i = given_sector now (4 + i) s (sym got) ∙ (ap (λ x. sector_at x.sectors (4 + i)) h.same ∙ sector_shown d m.sectors laid i below) in
            ap (λ x. found_from n x (3 * (i + 1)) (drop (3 * (i + 1)) es)) (seen ∙ ap (λ x. sector_seen n l (3 * i) x.bytes) shown) ∙
            (sector_found d m.sectors laid n l i below ∙ h.found d laid door);
      }

  pub looked_through : 32 ≤ i → (d : Layout) → LaidOut d m.sectors → m.door ≡ false → ◌≡◌ {A = Result Lookup Fault} (Ok l) (Ok (lookup_of n d.places))
  looked_through end d laid door =
      let es = d.places in
      let none : drop (3 * i) es ≡ [] = drop_all (3 * i) es (let e = laid.proper.places in omega arith) in
      ap Ok ((λ j. record { file = sym (or_none l.file) j; empty = sym (or_none l.empty) j }) ∙ (ap (found_from n l (3 * i)) (sym none) ∙ h.found d laid door))

  -- a device that refuses a sector of the directory has its door open, or shows no layout
  pub unread : {X : Type 0} (f : Fault) → i < 32 → Err f ≡ fetched now (4 + i) → (d : Layout) → LaidOut d m.sectors → m.door ≡ false → X
  unread f below fails d laid door =
      let given = fetched_ok m (4 + i) (directory_within d m.sectors laid i below) door in
      let refused : Err f ≡ fetched m (4 + i) = fails ∙ ap (λ x. fetched x (4 + i)) h.same in
      let z : ◌≡◌ {A = ℕ} 0 1 = cc in
      absurd (omega arith)
