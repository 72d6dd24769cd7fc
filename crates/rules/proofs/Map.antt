-- When the map of a layout is still right after a change of one file.
use Rattle.std.proofs.Common.{◌≡◌, ℕ, Bool, true, false, cond, ◌||◌, ltb, leb, List, [], ◌∷◌, map, length, Some, None, Option, unwrap_or, sym, refl, ap, ◌∙◌}
use Rattle.std.specs.List.{AllByRecursion}
use Rattle.std.proofs.lemmas.Bool.{both_ways, or_parts}
use Rattle.std.proofs.lemmas.List.{length-map}
use Rattle.std.proofs.ByRecursion.{All-weaker}
use Rattle.chains.specs.Names.{same}
use Rattle.chains.specs.Layout.{Layout, Entry, Placed, reserved, member, map_bytes}
use Rattle.chains.specs.Sound.{DistinctNames, named, entries}
use Rattle.rules.specs.Model.{Model, find}
use Rattle.rules.specs.Effects.{in_file, with_places}
use Rattle.rules.specs.Matching.{Matches, Current}
use Rattle.rules.specs.Runs.{files_in}
use Rattle.rules.proofs.Rearranging.{found, same_eq}
use Rattle.rules.proofs.Addresses.{ats, addresses, numbers_chains}
use Rattle.rules.proofs.Edited.{edited_in, in_file_is, distinct_differ}

abbrev marked : ℕ → List ℕ → List (List ℕ)
marked s ns = map_bytes (λ n. ltb n reserved || (leb s n || member n ns))

pub still_current : (d : Layout) (es : List (Option Entry)) → addresses es ≡ addresses d.places → Current d → Current (with_places d es)
still_current d es e c = c ∙ ap (marked d.size) (numbers_chains d.places ∙ (sym e ∙ sym (numbers_chains es)))

module _ (n : List ℕ) where
  absent_all : (P : Entry → Type 0) (fs : List Entry) → named n fs ≡ false → AllByRecursion (λ f. same n f.name ≡ true → P f) fs
  absent_all P [] o = tt
  absent_all P (f ∷ fs) o =
      let parts = or_parts (same n f.name) (named n fs) o in
      ((λ e. absurd (both_ways (same n f.name) parts.0 e)), absent_all P fs parts.1)

  -- the entry of the name n holds what is found under n
  pub entry_found : (es : List (Option Entry)) → DistinctNames (entries es) →
      AllByRecursion (λ f. same n f.name ≡ true → map (λ p. p.bytes) f.records ≡ unwrap_or (find n (files_in es)) []) (entries es)
  entry_found [] h = tt
  entry_found (None ∷ es) h = entry_found es h
  entry_found (Some f ∷ es) h = step (same n f.name) refl (entry_found es h.1)
    where
      step : (t : Bool) → same n f.name ≡ t →
          AllByRecursion (λ g. same n g.name ≡ true → map (λ p. p.bytes) g.records ≡ unwrap_or (find n (files_in es)) []) (entries es) →
          (same n f.name ≡ true → map (λ p. p.bytes) f.records ≡ unwrap_or (cond t (Some (map (λ p. p.bytes) f.records)) (find n (files_in es))) []) ×
          AllByRecursion (λ g. same n g.name ≡ true → map (λ p. p.bytes) g.records ≡ unwrap_or (cond t (Some (map (λ p. p.bytes) f.records)) (find n (files_in es))) []) (entries es)
      step true e ih = ((λ _. refl), absent_all _ (entries es) (rw (same_eq n f.name e) h.0))
      step false e ih = ((λ e'. absurd (both_ways (same n f.name) e e')), ih)

  module _ (g : List Placed → List Placed) where
    ats_if : (t : Bool) (ps : List Placed) → (t ≡ true → ats (g ps) ≡ ats ps) → ats (cond t (g ps) ps) ≡ ats ps
    ats_if true ps h = h refl
    ats_if false ps h = refl

    addresses_same : (es : List (Option Entry)) → AllByRecursion (λ f. same n f.name ≡ true → ats (g f.records) ≡ ats f.records) (entries es) → addresses (edited_in n g es) ≡ addresses es
    addresses_same [] h = refl
    addresses_same (None ∷ es) h = addresses_same es h
    addresses_same (Some f ∷ es) h =
        let one = ats_if (same n f.name) f.records h.0 in
        let rest = addresses_same es h.1 in
        cc

    -- a change that leaves the sectors of records as long as the model's file leaves the map right
    pub current_edited : (b : Model) (d : Layout) → Matches b d → Current d →
        ((ps : List Placed) → length ps ≡ length (unwrap_or (find n b.files) []) → ats (g ps) ≡ ats ps) →
        Current (with_places d (in_file n g d.places))
    current_edited b d m c idle =
        still_current d (in_file n g d.places)
        (ap addresses (in_file_is n g d.places) ∙
        addresses_same d.places
        (All-weaker _ _
        (λ f h e. idle f.records (sym (length-map f.records (λ p. p.bytes)) ∙ ap length (h e ∙ ap (λ o. unwrap_or o []) (found n m.files (distinct_differ d.places m.proper.distinct)))))
        (entries d.places) (entry_found d.places m.proper.distinct)))
        c
