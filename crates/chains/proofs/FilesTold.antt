-- The survey of the files tells what reading them finds.
use Rattle.std.proofs.Common.{◌≡◌, ℕ, zero, suc, ◌+◌, ◌/◌, Bool, true, false, cond, not, ◌&&◌, ◌||◌, eqb, List, [], ◌∷◌, ◌++◌, length, Some, None, Ok, Option, Result, sym, refl, ap, ◌∙◌, arith}
use Rattle.std.proofs.lemmas.List.{map-append}
use Rattle.std.proofs.lemmas.Bool.{ne_eqb}
use Rattle.device.specs.declared.fault.Fault.{Fault}
use Rattle.device.specs.declared.fault.Code.TheVariants.{PointerError, NotInDirectory, BadEntry}
use Rattle.chains.specs.Names.{legal, same}
use Rattle.chains.specs.Layout.{Disk, Entry, Placed, NumberedSector, null, end_of, last_of, linked, chain, chains, numbers, member}
use Rattle.chains.specs.Reading.{Found, read, then, must, among, number, zeros, sector_at, usable, walk, file_at, place, places_from}
use Rattle.chains.specs.Sound.{entries}
use Rattle.chains.specs.Survey.{Tells, Seen, WalkEnd, also, next, need, name_in, address_in, well_formed_place, named_as, descriptor_shaped, last_field, walk_on, records_on, file_on, places_on}
use Rattle.chains.proofs.Telling.{tells_must, tells_must_by, tells_then, tells_read}

member_append : (n : ℕ) (xs ys : List ℕ) → member n (xs ++ ys) ≡ (member n xs || member n ys)
member_append n [] ys = refl
member_append n (x ∷ xs) ys = elim (eqb n x) as (λ b. (b || member n (xs ++ ys)) ≡ ((b || member n xs) || member n ys)) [ true ↦ refl | false ↦ member_append n xs ys ]

pub or_moved : (a b c : Bool) → (b || (a || c)) ≡ ((a || b) || c)
or_moved true true c = refl
or_moved true false c = refl
or_moved false true c = refl
or_moved false false c = refl

member_numbers : (n : ℕ) (xs ys : List NumberedSector) → member n (numbers (xs ++ ys)) ≡ (member n (numbers xs) || member n (numbers ys))
member_numbers n xs ys = ap (member n) (map-append (λ a. a.number) xs ys) ∙ member_append n (numbers xs) (numbers ys)

-- a test that tells what is in a list
abbrev Tests : (ℕ → Bool) → List ℕ → Type 0
Tests met visited = (n : ℕ) → met n ≡ member n visited

also_tests : (met : ℕ → Bool) (visited : List ℕ) (x : ℕ) → Tests met visited → Tests (also x met) (x ∷ visited)
also_tests met visited x h n = elim (eqb n x) as (λ b. cond b true (met n) ≡ (b || member n visited)) [ true ↦ refl | false ↦ h n ]

-- a walk over the records ps
record Walked (here k : ℕ) (visited : List ℕ) (ps : List Placed) (w : WalkEnd) : Type 0 where
  count : length ps ≡ k
  end : w.at ≡ end_of here ps
  met : (n : ℕ) → w.met n ≡ (member n (numbers (linked here ps)) || member n visited)

-- the sectors met and the names seen are those in the lists
pub record Known (visited : List ℕ) (taken : List (List ℕ)) (s : Seen) : Type 0 where
  pub met : Tests s.met visited
  pub names : (n : List ℕ) → s.names n ≡ among n taken

-- one file more
record Filed (visited : List ℕ) (names : List (List ℕ)) (s : Seen) (f : Entry) (t : Seen) : Type 0 where
  known : Known (numbers (chain f) ++ visited) (f.name ∷ names) t
  files : t.files ≡ s.files + 1

-- the files of these places more
pub record Listed (visited : List ℕ) (s : Seen) (es : List (Option Entry)) (t : Seen) : Type 0 where
  pub met : (n : ℕ) → t.met n ≡ (member n (numbers (chains es)) || member n visited)
  pub files : t.files ≡ s.files + length (entries es)

last_is : (here count : ℕ) (ps : List Placed) (end : ℕ) → length ps ≡ count → end ≡ end_of here ps → last_field count end ≡ last_of ps
last_is here count [] end c e = ap (λ (k : ℕ). last_field k end) (sym c)
last_is here count (p ∷ ps) end c e = rw (ne_eqb count 0 (λ z. omega arith)) e

module _ (ss : Disk) where
  walk_tells : (k here : ℕ) (met : ℕ → Bool) (visited : List ℕ) → Tests met visited → Tells (Walked here k visited) (walk ss visited here k) (walk_on ss met here k)
  unfolding walk_on
  walk_tells zero here met visited h =
      tells_must (Walked here zero visited) PointerError here (read []) (Ok (record { at = here; met = met })) (eqb (sector_at ss here).forward null) (record { count = refl; end = refl; met = h })
  walk_tells (suc k) here met visited h =
      let n : ℕ = (sector_at ss here).forward in
      let W : List Placed → WalkEnd → Type 0 = Walked here (suc k) visited in
      let rest : Found (List Placed) = then (walk ss (n ∷ visited) n k) (λ ps. read (record { at = n; bytes = (sector_at ss n).bytes } ∷ ps)) in
      let rest_on : Result WalkEnd Fault = walk_on ss (also n met) n k in
      tells_must_by W PointerError here (must (eqb (sector_at ss n).back here) PointerError n rest) (need (eqb (sector_at ss n).back here) PointerError n rest_on)
      (usable ss n && not (member n visited)) (usable ss n && not (met n)) (ap (λ (b : Bool). usable ss n && not b) (h n))
      (tells_must W PointerError n rest rest_on (eqb (sector_at ss n).back here)
      (tells_read (Walked n k (n ∷ visited)) W (walk ss (n ∷ visited) n k) rest_on (λ ps. record { at = n; bytes = (sector_at ss n).bytes } ∷ ps)
      (walk_tells k n (also n met) (n ∷ visited) (also_tests met visited n h))
      (λ ps w q. record { count = ap suc q.count; end = q.end; met = λ m. q.met m ∙ or_moved (eqb m n) (member m (numbers (linked n ps))) (member m visited) })))

  module _ (visited : List ℕ) (names : List (List ℕ)) (s : Seen) (known : Known visited names s) (bs : List ℕ) where
    -- what reading does after the descriptor
    abbrev records_at : Found Entry
    records_at =
        let d = sector_at ss (address_in bs) in
        then (walk ss (address_in bs ∷ visited) (address_in bs) (number d.bytes 4)) (λ ps.
        must (eqb (number d.bytes 2) (last_of ps)) PointerError (address_in bs)
        (read (record { name = name_in bs; at = address_in bs; records = ps })))

    records_tells : Tells (Filed visited names s) records_at (records_on ss s bs)
    unfolding records_on
    records_tells =
        let a : ℕ = address_in bs in
        let d = sector_at ss a in
        let k : ℕ = number d.bytes 4 in
        tells_then (Walked a k (a ∷ visited)) (Filed visited names s) (walk ss (a ∷ visited) a k) (walk_on ss (also a s.met) a k) _ _
        (walk_tells k a (also a s.met) (a ∷ visited) (also_tests s.met visited a known.met))
        (λ ps w q.
        tells_must_by (Filed visited names s) PointerError a
        (read (record { name = name_in bs; at = a; records = ps }))
        (Ok (record { met = w.met; names = λ n. same n (name_in bs) || s.names n; files = s.files + 1 }))
        (eqb (number d.bytes 2) (last_of ps)) (eqb (number d.bytes 2) (last_field k w.at))
        (ap (λ (e : ℕ). eqb (number d.bytes 2) e) (last_is a k ps w.at q.count q.end))
        (record {
          known = record {
            met = λ n.
                q.met n
                ∙ or_moved (eqb n a) (member n (numbers (linked a ps))) (member n visited)
                ∙ sym (member_append n (a ∷ numbers (linked a ps)) visited);
            names = λ n. ap (λ (b : Bool). same n (name_in bs) || b) (known.names n);
          };
          files = refl;
        }))

    file_tells : (from : ℕ) → Tells (Filed visited names s) (file_at ss visited names from bs) (file_on ss s from bs)
    unfolding file_on
    file_tells from =
        let F : Entry → Seen → Type 0 = Filed visited names s in
        let a : ℕ = address_in bs in
        let fits : Bool → Bool = λ b. well_formed_place bs && (legal (name_in bs) && (not b && usable ss a)) in
        let shaped : Result Seen Fault = need (descriptor_shaped (sector_at ss a)) PointerError a (records_on ss s bs) in
        let found : Result Seen Fault = need (named_as (sector_at ss a) bs) NotInDirectory a shaped in
        let apart : Result Seen Fault = need (not (s.met a)) PointerError from found in
        tells_must_by F BadEntry from _ apart (fits (among (name_in bs) names)) (fits (s.names (name_in bs))) (ap fits (known.names (name_in bs)))
        (tells_must_by F PointerError from _ found (not (member a visited)) (not (s.met a)) (ap (λ (b : Bool). not b) (known.met a))
        (tells_must F NotInDirectory a _ shaped (named_as (sector_at ss a) bs)
        (tells_must F PointerError a records_at (records_on ss s bs) (descriptor_shaped (sector_at ss a))
        records_tells)))

    met_more : (n : ℕ) (f : Entry) (es : List (Option Entry)) → (member n (numbers (chains es)) || member n (numbers (chain f) ++ visited)) ≡ (member n (numbers (chains (Some f ∷ es))) || member n visited)
    met_more n f es =
        ap (λ (b : Bool). member n (numbers (chains es)) || b) (member_append n (numbers (chain f)) visited)
        ∙ or_moved (member n (numbers (chain f))) (member n (numbers (chains es))) (member n visited)
        ∙ ap (λ (b : Bool). b || member n visited) (sym (member_numbers n (chain f) (chains es)))

    -- the place, and the k places after it
    place_tells : (k p : ℕ) →
        ((visited : List ℕ) (names : List (List ℕ)) (s : Seen) → Known visited names s → Tells (Listed visited s) (places_from ss k (p + 1) visited names) (places_on ss k (p + 1) s)) →
        (b : Bool) →
        Tells (Listed visited s)
        (cond b (then (places_from ss k (p + 1) visited names) (λ es. read (None ∷ es)))
        (then (file_at ss visited names (4 + p / 3) bs) (λ f. then (places_from ss k (p + 1) (numbers (chain f) ++ visited) (f.name ∷ names)) (λ es. read (Some f ∷ es)))))
        (next (cond b (Ok s) (file_on ss s (4 + p / 3) bs)) (λ t. places_on ss k (p + 1) t))
    place_tells k p rest true =
        tells_read (Listed visited s) (Listed visited s) (places_from ss k (p + 1) visited names) (places_on ss k (p + 1) s) (λ es. None ∷ es)
        (rest visited names s known)
        (λ es t q. record { met = q.met; files = q.files })
    place_tells k p rest false =
        tells_then (Filed visited names s) (Listed visited s) (file_at ss visited names (4 + p / 3) bs) (file_on ss s (4 + p / 3) bs)
        (λ f. then (places_from ss k (p + 1) (numbers (chain f) ++ visited) (f.name ∷ names)) (λ es. read (Some f ∷ es))) (λ t. places_on ss k (p + 1) t)
        (file_tells (4 + p / 3))
        (λ f t g.
        tells_read (Listed (numbers (chain f) ++ visited) t) (Listed visited s) (places_from ss k (p + 1) (numbers (chain f) ++ visited) (f.name ∷ names)) (places_on ss k (p + 1) t) (λ es. Some f ∷ es)
        (rest (numbers (chain f) ++ visited) (f.name ∷ names) t g.known)
        (λ es u q. record { met = λ n. q.met n ∙ met_more n f es; files = omega arith }))

  pub places_tells : (k p : ℕ) (visited : List ℕ) (names : List (List ℕ)) (s : Seen) → Known visited names s → Tells (Listed visited s) (places_from ss k p visited names) (places_on ss k p s)
  unfolding places_on
  places_tells zero p visited names s known = record { met = known.met; files = omega arith }
  places_tells (suc k) p visited names s known = place_tells visited names s known (place ss p) k p (λ v t u q. places_tells k (p + 1) v t u q) (zeros (place ss p))
