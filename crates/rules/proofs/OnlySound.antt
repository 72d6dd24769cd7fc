-- What reading accepts is sound.
use Rattle.device.specs.declared.fault.Code.TheVariants.{BadLabel}
use Rattle.std.proofs.Common.{◌≡◌, ℕ, ◌+◌, ◌<◌, ◌≤◌, true, ◌&&◌, List, [], ◌++◌, length, get_or, Option, sym, refl, ap, ◌∙◌, subst, arith}
use Rattle.std.specs.List.{AllByRecursion}
use Rattle.std.proofs.ByRecursion.{All-append}
use Rattle.std.proofs.lemmas.Bool.{and_parts}
use Rattle.device.specs.Device.{blank, WellFormed}
use Rattle.chains.specs.Names.{same, legal_id}
use Rattle.chains.specs.Layout.{Disk, Layout, Entry, NumberedSector, sized, allocated, label_bytes, label_and_map, directory, chains, map_bytes}
use Rattle.chains.specs.Reading.{Found, read, then, must, sector_at, label_id, places_from, directory_from, map_from}
use Rattle.chains.specs.Sound.{Sound, ReadingIsExact}
use Rattle.rules.specs.Served.{ReadsOnlySound}
use Rattle.rules.proofs.Rearranging.{same_eq}
use Rattle.rules.proofs.Faulting.{shown_with}
use Rattle.rules.proofs.Laying.{takes_sound}
use Rattle.rules.proofs.Inverts.{must_tells, then_tells, read_same}
use Rattle.rules.proofs.PlacesRead.{PlacesShown, places_tell}
use Rattle.rules.proofs.DirectoryRead.{Framed, directory_tells, directory_holds}
use Rattle.rules.proofs.MapRead.{map_tells, map_is}

-- as `parse_layout`, with any counts of directory sectors and places, so that nothing unfolds here
abbrev surveyed : Disk → ℕ → ℕ → Found Layout
surveyed ss n k =
    must (legal_id (label_id ss) && same (sector_at ss 0).bytes (label_bytes (label_id ss) (length ss))) BadLabel 0 (directory_from ss n 0 (then (places_from ss k 0 [] []) (λ es. read (shown_with ss es))))

-- what a survey tells
record Surveyed (ss : Disk) (n k : ℕ) (d : Layout) : Type 0 where
  places : List (Option Entry)
  is : shown_with ss places ≡ d
  legal : legal_id (label_id ss) ≡ true
  label : (sector_at ss 0).bytes ≡ label_bytes (label_id ss) (length ss)
  framed : (j : ℕ) → 0 ≤ j → j < 0 + n → Framed ss j
  listed : PlacesShown ss k 0 [] [] places

module _ (ss : Disk) (w : AllByRecursion WellFormed ss) where
  survey_tells : (n k : ℕ) (d : Layout) → surveyed ss n k ≡ read d → Surveyed ss n k d
  survey_tells n k d e =
      let end : List (Option Entry) → Found Layout = λ es. read (shown_with ss es) in
      let h = must_tells (legal_id (label_id ss) && same (sector_at ss 0).bytes (label_bytes (label_id ss) (length ss))) BadLabel 0 (directory_from ss n 0 (then (places_from ss k 0 [] []) end)) e in
      let a = and_parts (legal_id (label_id ss)) (same (sector_at ss 0).bytes (label_bytes (label_id ss) (length ss))) h.0 in
      let f = directory_tells ss n 0 (then (places_from ss k 0 [] []) end) d h.1 in
      let t = then_tells (places_from ss k 0 [] []) end f.after in
      record {
        places = t.0;
        is = read_same t.2;
        legal = a.0;
        label = same_eq (sector_at ss 0).bytes (label_bytes (label_id ss) (length ss)) a.1;
        framed = f.each;
        listed = places_tell ss w k 0 [] [] t.0 t.1;
      }

  sound_with : (n k : ℕ) → n ≡ 32 → k ≡ 96 → sized (length ss) ≡ true → (d : Layout) → Surveyed ss n k d → d.map ≡ map_bytes (allocated (length ss) d.places) → Sound d ss
  sound_with n k en ek size d s =
      let P : NumberedSector → Type 0 = λ a. get_or ss a.number blank ≡ a.content in
      let es : List (Option Entry) = s.places in
      let framed : (j : ℕ) → 0 ≤ j → j < 0 + 32 → Framed ss j = λ j p q. s.framed j p (omega arith) in
      let l : PlacesShown ss 96 0 [] [] es = subst (λ k. PlacesShown ss k 0 [] [] es) ek s.listed in
      subst (λ d. d.map ≡ map_bytes (allocated (length ss) d.places) → Sound d ss) s.is
      (λ current. record {
        proper = record { size = size; id = s.legal; reserved_links = refl; map = refl; places = l.count; names = l.legal_names; distinct = l.distinct; usable = l.within; apart = l.apart; records = l.full };
        size = refl;
        shows = All-append P (label_and_map (shown_with ss es)) (directory es ++ chains es)
            (λ i. record { bytes = s.label i; back = (sector_at ss 0).back; forward = (sector_at ss 0).forward }, (refl, (refl, (refl, tt))))
            (All-append P (directory es) (chains es) (directory_holds ss w es l.bytes framed) l.shows);
        map = current;
      })

  only_with : (n k c : ℕ) → n ≡ 32 → k ≡ 96 → c ≡ 3072 → sized (length ss) ≡ true → (d : Layout) → then (surveyed ss n k) (λ d. map_from ss (allocated (length ss) d.places) c 0 (read d)) ≡ read d → Sound d ss
  only_with n k c en ek ec size d e =
      let t = then_tells (surveyed ss n k) (λ d. map_from ss (allocated (length ss) d.places) c 0 (read d)) e in
      let f : Layout = t.0 in
      let s : Surveyed ss n k f = survey_tells n k f t.1 in
      let g = map_tells ss (allocated (length ss) f.places) c 0 (read f) d t.2 in
      let current : f.map ≡ map_bytes (allocated (length ss) f.places) = ap (λ x. x.map) (sym s.is) ∙ map_is ss w (allocated (length ss) f.places) (λ j h. g.each j (omega arith) (omega arith)) in
      subst (λ d. Sound d ss) (read_same g.after) (sound_with n k en ek size f s current)

pub only : (ss : Disk) → AllByRecursion WellFormed ss → ReadsOnlySound ss
only ss w d size e = only_with ss w 32 96 3072 refl refl refl size d e

pub reading_is_exact : ReadingIsExact
reading_is_exact ss w size = record { takes = λ d s. takes_sound d ss s; only = λ d e. only ss w d size e }
