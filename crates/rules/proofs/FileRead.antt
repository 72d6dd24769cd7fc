-- A place that is accepted shows its file.
use Rattle.device.specs.declared.fault.Code.TheVariants.{BadEntry, NotInDirectory, PointerError}
use Rattle.std.proofs.Common.{◌≡◌, ℕ, suc, ◌+◌, ◌-◌, ◌/◌, ◌%◌, ◌^◌, ◌<◌, ◌≤◌, min, Bool, true, false, not, ◌&&◌, eqb, List, [], ◌∷◌, ◌++◌, length, get_or, take, drop, replicate, Some, sym, ap, ◌∙◌, subst, arith}
use Rattle.std.specs.List.{AllByRecursion}
use Rattle.std.proofs.lemmas.List.{drop_more, drop-drop, take-append-drop, take_at, length-take, length-drop}
use Rattle.std.proofs.ByRecursion.{All-get_or}
use Rattle.std.proofs.lemmas.Bool.{and_parts, eqb-true, or_parts, not-true}
use Rattle.device.specs.declared.sector.Sector.{Sector}
use Rattle.device.specs.Device.{WellFormed}
use Rattle.chains.specs.Names.{same, legal}
use Rattle.chains.specs.Layout.{Disk, Placed, Entry, Contains, null, word, padded, member, linked, chain, numbers, first_of, last_of, descriptor_bytes, place_bytes}
use Rattle.chains.specs.Reading.{Found, read, then, must, number, zeros, sector_at, usable, walk, file_at, among}
use Rattle.chains.specs.Sound.{DistinctNumbers}
use Rattle.rules.proofs.Rearranging.{same_eq}
use Rattle.rules.proofs.Directory.{legal_short, length_padded}
use Rattle.rules.proofs.Inverts.{must_tells, then_tells, read_same, absent, outside_rest, whole_at, zeros_are}
use Rattle.rules.proofs.WalkRead.{WalkShown, walk_tells}

-- the 16 bits at i are those of n
digits : (xs : List ℕ) → AllByRecursion (λ b. b < 2 ^ 8) xs → (i n : ℕ) → i < length xs → number xs i ≡ n → (n % 256 ≡ get_or xs i 0) × (n / 256 ≡ get_or xs (i + 1) 0)
digits xs h i n l e = let b : get_or xs i 0 < 256 = All-get_or (λ b. b < 2 ^ 8) xs i 0 l h in (omega arith, omega arith)

descriptor_is : (xs name : List ℕ) (a b c : ℕ) → length xs ≡ 128 → AllByRecursion (λ b. b < 2 ^ 8) xs → number xs 0 ≡ a → number xs 2 ≡ b → number xs 4 ≡ c → get_or xs 6 0 ≡ 0 → take 33 (drop 7 xs) ≡ length name ∷ padded 32 name → zeros (drop 40 xs) ≡ true →
    xs ≡ word a ++ (word b ++ (word c ++ (0 ∷ length name ∷ (padded 32 name ++ replicate 88 0))))
descriptor_is xs name a b c long small ea eb ec mid named zs =
    let e0 : xs ≡ get_or xs 0 0 ∷ drop 1 xs = drop_more xs 0 0 (omega arith) in
    let e1 : drop 1 xs ≡ get_or xs 1 0 ∷ drop 2 xs = drop_more xs 1 0 (omega arith) in
    let e2 : drop 2 xs ≡ get_or xs 2 0 ∷ drop 3 xs = drop_more xs 2 0 (omega arith) in
    let e3 : drop 3 xs ≡ get_or xs 3 0 ∷ drop 4 xs = drop_more xs 3 0 (omega arith) in
    let e4 : drop 4 xs ≡ get_or xs 4 0 ∷ drop 5 xs = drop_more xs 4 0 (omega arith) in
    let e5 : drop 5 xs ≡ get_or xs 5 0 ∷ drop 6 xs = drop_more xs 5 0 (omega arith) in
    let e6 : drop 6 xs ≡ get_or xs 6 0 ∷ drop 7 xs = drop_more xs 6 0 (omega arith) in
    let da = digits xs small 0 a (omega arith) ea in
    let db = digits xs small 2 b (omega arith) eb in
    let dc = digits xs small 4 c (omega arith) ec in
    let a0 : get_or xs 0 0 ≡ a % 256 = sym da.0 in
    let a1 : get_or xs 1 0 ≡ a / 256 = sym da.1 in
    let b0 : get_or xs 2 0 ≡ b % 256 = sym db.0 in
    let b1 : get_or xs 3 0 ≡ b / 256 = sym db.1 in
    let c0 : get_or xs 4 0 ≡ c % 256 = sym dc.0 in
    let c1 : get_or xs 5 0 ≡ c / 256 = sym dc.1 in
    let count : length (drop 40 xs) ≡ 88 = simp length-drop (omega arith) in
    let tail : drop 33 (drop 7 xs) ≡ replicate 88 0 = drop-drop 33 7 xs ∙ zeros_are (drop 40 xs) zs ∙ ap (λ n. replicate n 0) count in
    let rest : drop 7 xs ≡ length name ∷ (padded 32 name ++ replicate 88 0) = sym (take-append-drop 33 (drop 7 xs)) ∙ ap (λ x. x ++ drop 33 (drop 7 xs)) named ∙ ap (λ x. length name ∷ (padded 32 name ++ x)) tail in
    cc

pub record Filed (ss : Disk) (visited : List ℕ) (names : List (List ℕ)) (bs : List ℕ) (f : Entry) : Type 0 where
  pub bytes : bs ≡ place_bytes (Some f)
  pub legal_name : legal f.name ≡ true
  pub new : AllByRecursion (λ n. same f.name n ≡ false) names
  pub shows : Contains (chain f) ss
  pub within : AllByRecursion (λ n. usable ss n ≡ true) (numbers (chain f))
  pub apart : DistinctNumbers (numbers (chain f))
  pub fresh : AllByRecursion (λ n. member n visited ≡ false) (numbers (chain f))
  pub full : AllByRecursion (λ p. length p.bytes ≡ 128) f.records

not_among : (name : List ℕ) (ns : List (List ℕ)) → among name ns ≡ false → AllByRecursion (λ n. same name n ≡ false) ns
not_among name [] h = tt
not_among name (n ∷ ns) h = let p = or_parts (same name n) (among name ns) h in (p.0, not_among name ns p.1)

module _ (ss : Disk) (w : AllByRecursion WellFormed ss) where
  filed : (visited : List ℕ) (names : List (List ℕ)) (bs name : List ℕ) (at : ℕ) (ps : List Placed) →
      bs ≡ get_or bs 0 0 ∷ (padded 32 name ++ (word at ++ replicate 5 0)) → get_or bs 0 0 ≡ length name → legal name ≡ true → AllByRecursion (λ n. same name n ≡ false) names → usable ss at ≡ true → member at visited ≡ false →
      take 33 (drop 7 (sector_at ss at).bytes) ≡ take 33 bs → get_or (sector_at ss at).bytes 6 0 ≡ 0 → zeros (drop 40 (sector_at ss at).bytes) ≡ true → (sector_at ss at).back ≡ null → number (sector_at ss at).bytes 0 ≡ (sector_at ss at).forward → number (sector_at ss at).bytes 2 ≡ last_of ps →
      WalkShown ss (at ∷ visited) at (number (sector_at ss at).bytes 4) ps →
      Filed ss visited names bs (record { name = name; at = at; records = ps })
  filed visited names bs name at ps formed zeroth ok new us fr nm mid zs back fwd end h =
      let short : length name ≤ 32 = legal_short name ok in
      let is : bs ≡ (length name ∷ padded 32 name) ++ (word at ++ replicate 5 0) = formed ∙ ap (λ x. x ∷ (padded 32 name ++ (word at ++ replicate 5 0))) zeroth in
      let top : take 33 bs ≡ length name ∷ padded 32 name = ap (take 33) is ∙ take_at (length name ∷ padded 32 name) (word at ++ replicate 5 0) 33 (ap suc (length_padded name short)) in
      let d : Sector = sector_at ss at in
      let whole : WellFormed d = whole_at ss w at in
      let content : d.bytes ≡ descriptor_bytes (record { name = name; at = at; records = ps }) = descriptor_is d.bytes name (first_of ps) (last_of ps) (length ps) whole.count whole.bytes (fwd ∙ h.first) end (sym h.count) mid (nm ∙ top) zs in
      record {
        bytes = is;
        legal_name = ok;
        new = new;
        shows = (λ i. record { bytes = content i; back = back i; forward = h.first i }, h.shows);
        within = (us, h.within);
        apart = (absent at visited (numbers (linked at ps)) h.fresh, h.apart);
        fresh = (fr, outside_rest at visited (numbers (linked at ps)) h.fresh);
        full = h.full;
      }

  pub file_tells : (visited : List ℕ) (names : List (List ℕ)) (from : ℕ) (bs : List ℕ) (f : Entry) → length bs ≡ 40 → file_at ss visited names from bs ≡ read f → Filed ss visited names bs f
  file_tells visited names from bs f long e =
      let name : List ℕ = take (get_or bs 0 0) (drop 1 bs) in
      let at : ℕ = number bs 33 in
      let d : Sector = sector_at ss at in
      let form : List ℕ = get_or bs 0 0 ∷ (padded 32 name ++ (word at ++ replicate 5 0)) in
      let formed : Bool = same bs form in
      let old : Bool = among name names in
      let same_name : Bool = same (take 33 (drop 7 d.bytes)) (take 33 bs) in
      let shape : Bool = eqb (get_or d.bytes 6 0) 0 && (zeros (drop 40 d.bytes) && (eqb d.back null && eqb (number d.bytes 0) d.forward)) in
      let steps : Found (List Placed) = walk ss (at ∷ visited) at (number d.bytes 4) in
      let last : List Placed → Found Entry = λ ps. must (eqb (number d.bytes 2) (last_of ps)) PointerError at (read (record { name = name; at = at; records = ps })) in
      let k4 : Found Entry = then steps last in
      let k3 : Found Entry = must shape PointerError at k4 in
      let k2 : Found Entry = must same_name NotInDirectory at k3 in
      let k1 : Found Entry = must (not (member at visited)) PointerError from k2 in
      let h1 = must_tells (formed && (legal name && (not old && usable ss at))) BadEntry from k1 e in
      let h2 = must_tells (not (member at visited)) PointerError from k2 h1.1 in
      let h3 = must_tells same_name NotInDirectory at k3 h2.1 in
      let h4 = must_tells shape PointerError at k4 h3.1 in
      let h5 = then_tells steps last h4.1 in
      let ps : List Placed = h5.0 in
      let file : Entry = record { name = name; at = at; records = ps } in
      let h6 = must_tells (eqb (number d.bytes 2) (last_of ps)) PointerError at (read file) h5.2 in
      let a1 = and_parts formed (legal name && (not old && usable ss at)) h1.0 in
      let a2 = and_parts (legal name) (not old && usable ss at) a1.1 in
      let a3 = and_parts (not old) (usable ss at) a2.1 in
      let c1 = and_parts (eqb (get_or d.bytes 6 0) 0) (zeros (drop 40 d.bytes) && (eqb d.back null && eqb (number d.bytes 0) d.forward)) h4.0 in
      let c2 = and_parts (zeros (drop 40 d.bytes)) (eqb d.back null && eqb (number d.bytes 0) d.forward) c1.1 in
      let c3 = and_parts (eqb d.back null) (eqb (number d.bytes 0) d.forward) c2.1 in
      let short : length name ≤ 32 = legal_short name a2.0 in
      let size : length name ≡ min (get_or bs 0 0) (length bs - 1) = length-take (get_or bs 0 0) (drop 1 bs) ∙ ap (min (get_or bs 0 0)) (length-drop 1 bs) in
      let zeroth : get_or bs 0 0 ≡ length name = omega arith in
      subst (Filed ss visited names bs) {x = file} (read_same {x = file} {y = f} h6.1)
      (filed visited names bs name at ps (same_eq bs form a1.0) zeroth a2.0 (not_among name names (not-true old a3.0)) a3.1 (not-true (member at visited) h2.0)
      (same_eq (take 33 (drop 7 d.bytes)) (take 33 bs) h3.0) (eqb-true (get_or d.bytes 6 0) 0 c1.0) c2.0 (eqb-true d.back null c3.0) (eqb-true (number d.bytes 0) d.forward c3.1) (eqb-true (number d.bytes 2) (last_of ps) h6.0)
      (walk_tells ss w (at ∷ visited) at (number d.bytes 4) ps h5.1))
