-- The survey of a disk tells what reading it finds.
use Rattle.std.proofs.Common.{◌≡◌, ℕ, zero, suc, ◌+◌, Bool, true, false, ◌||◌, ltb, leb, List, [], ◌∷◌, map, length, Ok, Option, Result, sym, refl, ap, ◌∙◌, subst, arith}
use Rattle.std.specs.List.{AllByRecursion}
use Rattle.device.specs.declared.fault.Fault.{Fault}
use Rattle.device.specs.declared.fault.Code.TheVariants.{PointerError, BadLabel}
use Rattle.device.specs.Device.{WellFormed}
use Rattle.chains.specs.Layout.{Disk, Layout, Entry, reserved, allocated, member, numbers, chains}
use Rattle.chains.specs.Reading.{Found, read, then, must, sector_at, label_id, places_from, directory_from, map_from, reading}
use Rattle.chains.specs.Survey.{Tells, Seen, SumsUp, need, next, nothing_seen, exact_label, directory_framed, to_be_marked, directory_on, places_on, map_on, survey}
use Rattle.chains.proofs.Telling.{tells_must, tells_then, then_must, then_then, next_need}
use Rattle.chains.proofs.FilesTold.{Listed, places_tells}
use Rattle.chains.proofs.MapTold.{bits_in, map_tells}

or_false : (b : Bool) → (b || false) ≡ b
or_false true = refl
or_false false = refl

-- the layout of a disk with these places
abbrev shown : Disk → List (Option Entry) → Layout
shown ss es =
    record {
      id = label_id ss;
      size = length ss;
      reserved_links = map (λ n. record { back = (sector_at ss n).back; forward = (sector_at ss n).forward }) (0 ∷ 1 ∷ 2 ∷ 3 ∷ []);
      map = map (λ n. (sector_at ss n).bytes) (1 ∷ 2 ∷ 3 ∷ []);
      places = es;
    }

module _ (ss : Disk) where
  directory_tells : {A B : Type 0} (P : A → B → Type 0) (n i : ℕ) (x : Found A) (y : Result B Fault) → Tells P x y → Tells P (directory_from ss n i x) (next (directory_on ss n i) (λ _. y))
  unfolding directory_on
  directory_tells P zero i x y h = h
  directory_tells {A} {B} P (suc n) i x y h =
      let b : Bool = directory_framed i (sector_at ss (4 + i)) in
      subst (λ (r : Result B Fault). Tells P (directory_from ss (suc n) i x) r) (next_need b PointerError (4 + i) (directory_on ss n (i + 1)) (λ _. y))
      (tells_must P PointerError (4 + i) (directory_from ss n (i + 1) x) (next (directory_on ss n (i + 1)) (λ _. y)) b
      (directory_tells P n (i + 1) x y h))

  then_directory : {A B : Type 0} (n i : ℕ) (x : Found A) (f : A → Found B) → directory_from ss n i (then x f) ≡ then (directory_from ss n i x) f
  then_directory zero i x f = refl
  then_directory {A} {B} (suc n) i x f =
      let b : Bool = directory_framed i (sector_at ss (4 + i)) in
      ap (λ (z : Found B). must b PointerError (4 + i) z) (then_directory n (i + 1) x f) ∙ then_must b PointerError (4 + i) (directory_from ss n (i + 1) x) f

  marked_is : (es : List (Option Entry)) (met : ℕ → Bool) → ((n : ℕ) → met n ≡ member n (numbers (chains es))) → to_be_marked (length ss) met ≡ allocated (length ss) es
  marked_is es met h = λ t n. ltb n reserved || (leb (length ss) n || h n t)

  -- with any counts of directory sectors, places, map sectors and their bits, so that none of them unfolds
  module _ (w : AllByRecursion WellFormed ss) (n k s c bits : ℕ) (long : c ≡ 1024) (together : bits_in c s ≡ bits) where
    abbrev map_of : Layout → Found Layout
    map_of d = map_from ss (allocated (length ss) d.places) bits 0 (read d)

    abbrev map_told : Seen → Result Seen Fault
    map_told t = next (map_on ss (to_be_marked (length ss) t.met) s 0) (λ _. Ok t)

    abbrev label_right : Bool
    label_right = exact_label (sector_at ss 0).bytes (length ss)

    summed_up : (es : List (Option Entry)) (t : Seen) → Listed [] nothing_seen es t → SumsUp (shown ss es) t
    summed_up es t q = record { files = let f = q.files in omega arith; met = λ i. q.met i ∙ or_false (member i (numbers (chains es))) }

    map_tells_so : (es : List (Option Entry)) (t : Seen) → Listed [] nothing_seen es t → Tells SumsUp (map_of (shown ss es)) (map_told t)
    map_tells_so es t q =
        let sum : SumsUp (shown ss es) t = summed_up es t q in
        subst (λ (m : ℕ → Bool). Tells SumsUp (map_of (shown ss es)) (next (map_on ss m s 0) (λ _. Ok t))) (sym (marked_is es t.met sum.met))
        (subst (λ (b : ℕ). Tells SumsUp (map_from ss (allocated (length ss) es) b 0 (read (shown ss es))) (next (map_on ss (allocated (length ss) es) s 0) (λ _. Ok t))) together
        (map_tells ss w (allocated (length ss) es) SumsUp c long s 0 0 refl (read (shown ss es)) (Ok t) sum))

    in_order : Tells SumsUp (must label_right BadLabel 0 (directory_from ss n 0 (then (places_from ss k 0 [] []) (λ es. map_of (shown ss es)))))
        (need label_right BadLabel 0 (next (directory_on ss n 0) (λ _. next (places_on ss k 0 nothing_seen) map_told)))
    in_order =
        let files : Found Layout = then (places_from ss k 0 [] []) (λ es. map_of (shown ss es)) in
        let files_on : Result Seen Fault = next (places_on ss k 0 nothing_seen) map_told in
        tells_must SumsUp BadLabel 0 (directory_from ss n 0 files) (next (directory_on ss n 0) (λ _. files_on)) label_right
        (directory_tells SumsUp n 0 files files_on
        (tells_then (Listed [] nothing_seen) SumsUp (places_from ss k 0 [] []) (places_on ss k 0 nothing_seen) (λ es. map_of (shown ss es)) map_told
        (places_tells ss k 0 [] [] nothing_seen (record { met = λ i. refl; names = λ i. refl }))
        map_tells_so))

    abbrev parsed : Found Layout
    parsed = must label_right BadLabel 0 (directory_from ss n 0 (then (places_from ss k 0 [] []) (λ es. read (shown ss es))))

    as_read : must label_right BadLabel 0 (directory_from ss n 0 (then (places_from ss k 0 [] []) (λ es. map_of (shown ss es)))) ≡ then parsed map_of
    as_read =
        let files : Found Layout = then (places_from ss k 0 [] []) (λ es. read (shown ss es)) in
        ap (λ (x : Found Layout). must label_right BadLabel 0 x)
        (ap (λ (x : Found Layout). directory_from ss n 0 x) (then_then (places_from ss k 0 [] []) (λ es. read (shown ss es)) map_of)
        ∙ then_directory n 0 files map_of)
        ∙ then_must label_right BadLabel 0 (directory_from ss n 0 files) map_of

    tells_with : Tells SumsUp (then parsed map_of) (need label_right BadLabel 0 (next (directory_on ss n 0) (λ _. next (places_on ss k 0 nothing_seen) map_told)))
    tells_with = subst (λ (x : Found Layout). Tells SumsUp x (need label_right BadLabel 0 (next (directory_on ss n 0) (λ _. next (places_on ss k 0 nothing_seen) map_told)))) as_read in_order

pub survey_tells : (ss : Disk) → AllByRecursion WellFormed ss → Tells SumsUp (reading ss) (survey ss)
unfolding survey
survey_tells ss w = tells_with ss w 32 96 3 1024 3072 refl refl
