-- Places that are accepted show their files, which keep apart.
use Rattle.std.proofs.Common.{◌≡◌, ℕ, zero, suc, ◌+◌, ◌*◌, ◌/◌, ◌%◌, ◌<◌, ◌≤◌, true, false, List, [], ◌∷◌, ◌++◌, length, get_or, replicate, Some, None, Option, sym, refl, ap, ◌∙◌, subst, ⊎_elim, arith}
use Rattle.std.specs.List.{AllByRecursion}
use Rattle.std.proofs.lemmas.List.{length-take, length-drop, map-append}
use Rattle.std.proofs.ByRecursion.{All-weaker, All-append}
use Rattle.std.proofs.lemmas.Bool.{or_from}
use Rattle.device.specs.Device.{blank, WellFormed}
use Rattle.chains.specs.Names.{same, legal}
use Rattle.chains.specs.Layout.{Disk, Entry, Contains, member, chain, chains, numbers, place_bytes}
use Rattle.chains.specs.Reading.{Found, read, then, zeros, usable, file_at, place, places_from}
use Rattle.chains.specs.Sound.{DistinctNumbers, entries, named, DistinctNames}
use Rattle.rules.proofs.Rearranging.{same_turned}
use Rattle.rules.proofs.Addresses.{part_nil, part_after, part_member, apart_join}
use Rattle.rules.proofs.Inverts.{then_tells, cond_tells, read_same, all_absent, whole_at, zeros_are}
use Rattle.rules.proofs.FileRead.{Filed, file_tells}

not_named : (name : List ℕ) (names : List (List ℕ)) (fs : List Entry) → AllByRecursion (λ f. AllByRecursion (λ n. same f.name n ≡ false) (name ∷ names)) fs → named name fs ≡ false
not_named name names [] h = refl
not_named name names (f ∷ fs) h = or_from (same name f.name) (named name fs) (same_turned name f.name ∙ h.0.0) (not_named name names fs h.1)

pub record PlacesShown (ss : Disk) (k p : ℕ) (visited : List ℕ) (names : List (List ℕ)) (es : List (Option Entry)) : Type 0 where
  pub count : length es ≡ k
  pub bytes : (i : ℕ) → i < k → place ss (p + i) ≡ place_bytes (get_or es i None)
  pub shows : Contains (chains es) ss
  pub legal_names : AllByRecursion (λ f. legal f.name ≡ true) (entries es)
  pub new : AllByRecursion (λ f. AllByRecursion (λ n. same f.name n ≡ false) names) (entries es)
  pub distinct : DistinctNames (entries es)
  pub within : AllByRecursion (λ n. usable ss n ≡ true) (numbers (chains es))
  pub apart : DistinctNumbers (numbers (chains es))
  pub fresh : AllByRecursion (λ n. member n visited ≡ false) (numbers (chains es))
  pub full : AllByRecursion (λ f. AllByRecursion (λ p. length p.bytes ≡ 128) f.records) (entries es)

bytes_more : (ss : Disk) (k p : ℕ) (e : Option Entry) (es : List (Option Entry)) → place ss p ≡ place_bytes e → ((i : ℕ) → i < k → place ss (p + 1 + i) ≡ place_bytes (get_or es i None)) → (i : ℕ) → i < suc k → place ss (p + i) ≡ place_bytes (get_or (e ∷ es) i None)
bytes_more ss k p e es here rest zero l = let z : p + 0 ≡ p = omega arith in ap (place ss) z ∙ here
bytes_more ss k p e es here rest (suc i) l = let z : p + suc i ≡ p + 1 + i = omega arith in ap (place ss) z ∙ rest i (omega arith)

module _ (ss : Disk) (w : AllByRecursion WellFormed ss) where
  place_long : (p : ℕ) → length (place ss p) ≡ 40
  place_long p =
      let n = (whole_at ss w (4 + p / 3)).count in
      let m : 40 * (p % 3) ≤ 80 = omega arith in
      simp (length-take, length-drop) (omega arith)

  zero_place : (p : ℕ) → zeros (place ss p) ≡ true → place ss p ≡ replicate 40 0
  zero_place p z = zeros_are (place ss p) z ∙ ap (λ n. replicate n 0) (place_long p)

  list_none : (k p : ℕ) (visited : List ℕ) (names : List (List ℕ)) (es : List (Option Entry)) → zeros (place ss p) ≡ true → PlacesShown ss k (p + 1) visited names es → PlacesShown ss (suc k) p visited names (None ∷ es)
  list_none k p visited names es z h = record {
    count = ap suc h.count;
    bytes = bytes_more ss k p None es (zero_place p z) h.bytes;
    shows = h.shows;
    legal_names = h.legal_names;
    new = h.new;
    distinct = h.distinct;
    within = h.within;
    apart = h.apart;
    fresh = h.fresh;
    full = h.full;
  }

  list_some : (k p : ℕ) (visited : List ℕ) (names : List (List ℕ)) (f : Entry) (es : List (Option Entry)) → Filed ss visited names (place ss p) f → PlacesShown ss k (p + 1) (numbers (chain f) ++ visited) (f.name ∷ names) es → PlacesShown ss (suc k) p visited names (Some f ∷ es)
  list_some k p visited names f es g h =
      let both : numbers (chain f ++ chains es) ≡ numbers (chain f) ++ numbers (chains es) = map-append (λ a. a.number) (chain f) (chains es) in
      record {
        count = ap suc h.count;
        bytes = bytes_more ss k p (Some f) es g.bytes h.bytes;
        shows = All-append (λ a. get_or ss a.number blank ≡ a.content) (chain f) (chains es) g.shows h.shows;
        legal_names = (g.legal_name, h.legal_names);
        new = (g.new, All-weaker (λ f'. AllByRecursion (λ n. same f'.name n ≡ false) (f.name ∷ names)) (λ f'. AllByRecursion (λ n. same f'.name n ≡ false) names) (λ f' a. a.1) (entries es) h.new);
        distinct = (not_named f.name names (entries es) h.new, h.distinct);
        within = subst (AllByRecursion (λ n. usable ss n ≡ true)) (sym both) (All-append (λ n. usable ss n ≡ true) (numbers (chain f)) (numbers (chains es)) g.within h.within);
        apart = subst DistinctNumbers (sym both) (apart_join (numbers (chain f)) (numbers (chains es)) g.apart (all_absent (numbers (chain f)) visited (numbers (chains es)) h.fresh) h.apart);
        fresh = subst (AllByRecursion (λ n. member n visited ≡ false)) (sym both) (All-append (λ n. member n visited ≡ false) (numbers (chain f)) (numbers (chains es)) g.fresh (All-weaker (λ n. member n (numbers (chain f) ++ visited) ≡ false) (λ n. member n visited ≡ false) (λ n e. part_member n (part_after visited (part_nil (numbers (chain f)))) e) (numbers (chains es)) h.fresh));
        full = (g.full, h.full);
      }

  pub places_tell : (k p : ℕ) (visited : List ℕ) (names : List (List ℕ)) (es : List (Option Entry)) → places_from ss k p visited names ≡ read es → PlacesShown ss k p visited names es
  places_tell zero p visited names es e =
      subst (PlacesShown ss 0 p visited names) (read_same e)
      (record { count = refl; bytes = λ i l. absurd (omega arith); shows = tt; legal_names = tt; new = tt; distinct = tt; within = tt; apart = tt; fresh = tt; full = tt })
  places_tell (suc k) p visited names es e =
      let F : Type 0 = Found (List (Option Entry)) in
      let after_none : List (Option Entry) → F = λ es. read (None ∷ es) in
      let after_some : Entry → List (Option Entry) → F = λ f es. read (Some f ∷ es) in
      let rest : Entry → F = λ f. then (places_from ss k (p + 1) (numbers (chain f) ++ visited) (f.name ∷ names)) (after_some f) in
      let from : ℕ = 4 + p / 3 in
      ⊎_elim
      (λ (h : (zeros (place ss p) ≡ true) × (then (places_from ss k (p + 1) visited names) after_none ≡ read es)).
      let t = then_tells (places_from ss k (p + 1) visited names) after_none h.1 in
      subst (PlacesShown ss (suc k) p visited names) (read_same t.2) (list_none k p visited names t.0 h.0 (places_tell k (p + 1) visited names t.0 t.1)))
      (λ (h : (zeros (place ss p) ≡ false) × (then (file_at ss visited names from (place ss p)) rest ≡ read es)).
      let t = then_tells (file_at ss visited names from (place ss p)) rest h.1 in
      let f : Entry = t.0 in
      let u = then_tells (places_from ss k (p + 1) (numbers (chain f) ++ visited) (f.name ∷ names)) (after_some f) t.2 in
      subst (PlacesShown ss (suc k) p visited names) (read_same u.2) (list_some k p visited names f u.0 (file_tells ss w visited names from (place ss p) f (place_long p) t.1) (places_tell k (p + 1) (numbers (chain f) ++ visited) (f.name ∷ names) u.0 u.1)))
      (cond_tells (zeros (place ss p)) (then (places_from ss k (p + 1) visited names) after_none) (then (file_at ss visited names from (place ss p)) rest) (read es) e)
