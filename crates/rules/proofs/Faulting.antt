-- The codes and layers that INITIALIZE answers with: no fault of reading is coded as done, and only such a fault is one of the structure.
use Rattle.std.proofs.Common.{◌≡◌, ℕ, zero, suc, ◌+◌, ◌/◌, Bool, true, false, cond, not, ◌&&◌, eqb, List, [], ◌∷◌, ◌++◌, map, length, get_or, take, drop, Option, refl, arith}
use Rattle.std.specs.List.{AllByRecursion}
use Rattle.device.specs.Codes.{code_number, layer_number}
use Rattle.device.specs.declared.fault.Code.{Code}
use Rattle.device.specs.declared.fault.Code.TheVariants.{Done, PointerError, NotInDirectory, BadEntry, BadLabel, MapWrong}
use Rattle.device.specs.declared.fault.Layer.TheVariants.{Structure}
use Rattle.chains.specs.Names.{legal, legal_id, same}
use Rattle.chains.specs.Layout.{Disk, Layout, Entry, label_bytes, null, last_of, member, numbers, chain, allocated}
use Rattle.chains.specs.Reading.{Found, fault, read, then, must, sector_at, number, usable, zeros, among, place_name, place_at, place_well_formed, walk, file_at, place, places_from, directory_from, label_id, parse_layout, map_from, reading}
use Rattle.rules.specs.Model.{Model, File, Reading, faulty, sound, Outcome, Check, Initialize, refusal, first_refusal_or, done, started, read_in, response}
use Rattle.rules.proofs.Accepted.{initialize_checks}

-- ---- reading

abbrev fault_code : {A : Type 0} → Found A → ℕ
fault_code (fault c n) = c
fault_code (read x) = 0

pub record Coded {A : Type 0} (x : Found A) : Type 0 where
  pub not_done : fault_code x ≡ code_number Done → ⊥

read_coded : {A : Type 0} (x : A) → Coded (read x)
read_coded x = record { not_done = λ e. omega arith }

must_coded : {A : Type 0} (t : Bool) (c : Code) (n : ℕ) (k : Found A) → (code_number c ≡ code_number Done → ⊥) → Coded k → Coded (must t c n k)
must_coded true c n k ne h = h
must_coded false c n k ne h = record { not_done = ne }

then_coded : {A B : Type 0} (x : Found A) (f : A → Found B) → Coded x → ((y : A) → Coded (f y)) → Coded (then x f)
then_coded (fault c n) f h k = record { not_done = h.not_done }
then_coded (read y) f h k = k y

cond_coded : {A : Type 0} (t : Bool) (x y : Found A) → Coded x → Coded y → Coded (cond t x y)
cond_coded true x y h k = h
cond_coded false x y h k = k

pointer : code_number PointerError ≡ code_number Done → ⊥
pointer e = omega arith

module _ (ss : Disk) where
  walk_coded : (visited : List ℕ) (here k : ℕ) → Coded (walk ss visited here k)
  walk_coded visited here zero = must_coded _ PointerError here _ pointer (read_coded _)
  walk_coded visited here (suc k) =
      let next = (sector_at ss here).forward in
      must_coded (usable ss next && not (member next visited)) PointerError here _ pointer
      (must_coded (eqb (sector_at ss next).back here) PointerError next _ pointer
      (then_coded (walk ss (next ∷ visited) next k) _ (walk_coded (next ∷ visited) next k) (λ ps. read_coded (record { at = next; bytes = (sector_at ss next).bytes } ∷ ps))))

  file_coded : (visited : List ℕ) (names : List (List ℕ)) (from : ℕ) (bs : List ℕ) → Coded (file_at ss visited names from bs)
  file_coded visited names from bs =
      let name = place_name ss visited names from bs in
      let at = place_at ss visited names from bs in
      let d = sector_at ss at in
      must_coded (place_well_formed ss visited names from bs && (legal name && (not (among name names) && usable ss at))) BadEntry from _ (λ e. omega arith)
      (must_coded (not (member at visited)) PointerError from _ pointer
      (must_coded (same (take 33 (drop 7 d.bytes)) (take 33 bs)) NotInDirectory at _ (λ e. omega arith)
      (must_coded (eqb (get_or d.bytes 6 0) 0 && (zeros (drop 40 d.bytes) && (eqb d.back null && eqb (number d.bytes 0) d.forward))) PointerError at _ pointer
      (then_coded (walk ss (at ∷ visited) at (number d.bytes 4)) _ (walk_coded (at ∷ visited) at (number d.bytes 4))
      (λ ps. must_coded (eqb (number d.bytes 2) (last_of ps)) PointerError at _ pointer (read_coded (record { name = name; at = at; records = ps })))))))

  places_coded : (k p : ℕ) (visited : List ℕ) (names : List (List ℕ)) → Coded (places_from ss k p visited names)
  places_coded zero p visited names = read_coded _
  places_coded (suc k) p visited names =
      cond_coded (zeros (place ss p)) _ _
      (then_coded (places_from ss k (p + 1) visited names) _ (places_coded k (p + 1) visited names) (λ es. read_coded _))
      (then_coded (file_at ss visited names (4 + p / 3) (place ss p)) _ (file_coded visited names (4 + p / 3) (place ss p)) (λ f.
      then_coded (places_from ss k (p + 1) (numbers (chain f) ++ visited) (f.name ∷ names)) _ (places_coded k (p + 1) (numbers (chain f) ++ visited) (f.name ∷ names)) (λ es. read_coded _)))

  directory_coded : {A : Type 0} (n i : ℕ) (k : Found A) → Coded k → Coded (directory_from ss n i k)
  directory_coded zero i k h = h
  directory_coded (suc n) i k h = must_coded _ PointerError (4 + i) _ pointer (directory_coded n (i + 1) k h)

  map_coded : {A : Type 0} (m : ℕ → Bool) (j n : ℕ) (k : Found A) → Coded k → Coded (map_from ss m j n k)
  map_coded m zero n k h = h
  map_coded m (suc j) n k h = must_coded _ MapWrong (1 + n / 1024) _ (λ e. omega arith) (map_coded m j (n + 1) k h)

  -- the layout of the disk with these places
  abbrev pub shown_with : List (Option Entry) → Layout
  shown_with es = record {
    id = label_id ss;
    size = length ss;
    reserved_links = map (λ n. record { back = (sector_at ss n).back; forward = (sector_at ss n).forward }) (0 ∷ 1 ∷ 2 ∷ 3 ∷ []);
    map = map (λ n. (sector_at ss n).bytes) (1 ∷ 2 ∷ 3 ∷ []);
    places = es;
  }

  parse_coded : Coded (parse_layout ss)
  parse_coded =
      let F : List (Option Entry) → Found Layout = λ es. read (shown_with es) in
      must_coded (legal_id (label_id ss) && same (sector_at ss 0).bytes (label_bytes (label_id ss) (length ss))) BadLabel 0 (directory_from ss 32 0 (then (places_from ss 96 0 [] []) F)) (λ e. omega arith)
      (directory_coded 32 0 (then (places_from ss 96 0 [] []) F) (then_coded (places_from ss 96 0 [] []) F (places_coded 96 0 [] []) (λ es. read_coded (shown_with es))))

  pub reading_coded : Coded (reading ss)
  reading_coded =
      then_coded (parse_layout ss) (λ d. map_from ss (allocated (length ss) d.places) 3072 0 (read d)) parse_coded
      (λ d. map_coded (allocated (length ss) d.places) 3072 0 (read d) (read_coded d))

-- ---- INITIALIZE

abbrev pub NotDone : Reading → Type 0
NotDone (faulty c n) = c ≡ code_number Done → ⊥
NotDone (sound fs) = Unit {0}

module _ (b : Model) (buf : List ℕ) where
  coded : (cs : List Check) (o : Outcome) → AllByRecursion (λ c. code_number c.code ≡ code_number Done → ⊥) cs → (o.code ≡ code_number Done → o.refused ≡ false) →
      (first_refusal_or b buf cs o).code ≡ code_number Done → (first_refusal_or b buf cs o).refused ≡ false
  coded [] o h k e = k e
  coded (c ∷ cs) o h k e = step c.applies (coded cs o h.1 k) e
    where
      step : (t : Bool) → ((first_refusal_or b buf cs o).code ≡ code_number Done → (first_refusal_or b buf cs o).refused ≡ false) →
          (cond t (refusal c.code c.layer b buf) (first_refusal_or b buf cs o)).code ≡ code_number Done → (cond t (refusal c.code c.layer b buf) (first_refusal_or b buf cs o)).refused ≡ false
      step true f e = absurd (h.0 e)
      step false f e = f e

  layered : (cs : List Check) (o : Outcome) → AllByRecursion (λ c. layer_number c.layer ≡ layer_number Structure → ⊥) cs →
      (first_refusal_or b buf cs o).layer ≡ layer_number Structure → o.layer ≡ layer_number Structure
  layered [] o h e = e
  layered (c ∷ cs) o h e = step c.applies (layered cs o h.1) e
    where
      step : (t : Bool) → ((first_refusal_or b buf cs o).layer ≡ layer_number Structure → o.layer ≡ layer_number Structure) →
          (cond t (refusal c.code c.layer b buf) (first_refusal_or b buf cs o)).layer ≡ layer_number Structure → o.layer ≡ layer_number Structure
      step true f e = absurd (h.0 e)
      step false f e = f e

  inner_code : (t : Bool) (x : Reading) → NotDone x → (cond t (done (started b b.files) buf 0) (read_in b x buf)).code ≡ code_number Done → (cond t (done (started b b.files) buf 0) (read_in b x buf)).refused ≡ false
  inner_code true x h e = refl
  inner_code false (faulty c n) h e = absurd (h e)
  inner_code false (sound fs) h e = refl

  -- done means not refused
  pub done_taken : (x : Reading) → NotDone x → (response b (record { reading = x }) Initialize buf).code ≡ code_number Done → (response b (record { reading = x }) Initialize buf).refused ≡ false
  done_taken x h e =
      coded (initialize_checks b buf) (cond b.initialized (done (started b b.files) buf 0) (read_in b x buf))
      ((λ e. omega arith), ((λ e. omega arith), ((λ e. omega arith), tt))) (inner_code b.initialized x h) e

  inner_layer : (t : Bool) (fs : List File) → (cond t (done (started b b.files) buf 0) (done (started b fs) buf 0)).layer ≡ layer_number Structure → ⊥
  inner_layer true fs e = omega arith
  inner_layer false fs e = omega arith

  -- a sound reading is not turned down for the structure
  pub sound_taken : (fs : List File) → (response b (record { reading = sound fs }) Initialize buf).layer ≡ layer_number Structure → ⊥
  sound_taken fs e =
      inner_layer b.initialized fs
      (layered (initialize_checks b buf) (cond b.initialized (done (started b b.files) buf 0) (done (started b fs) buf 0))
      ((λ e. omega arith), ((λ e. omega arith), ((λ e. omega arith), tt))) e)
