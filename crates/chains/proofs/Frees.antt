-- The sectors of a file's records given back one after another: those given and those to come are always the same together.
use Rattle.std.proofs.Common.{◌≡◌, ℕ, ◌-◌, ◌<◌, Bool, true, false, cond, not, ◌&&◌, ◌||◌, eqb, ltb, ◌⊎◌, List, [], ◌∷◌, map, length, get_or, is_ok, Some, None, Ok, Err, Result, sym, refl, ap, ◌∙◌, subst, ⊎_elim, arith}
use Rattle.std.specs.List.{AllByRecursion}
use Rattle.std.proofs.lemmas.Bool.{cases_Bool, eqb-true, lt-ltb}
use Rattle.device.specs.declared.sector.Sector.{Sector}
use Rattle.device.specs.declared.fault.Fault.{Fault}
use Rattle.device.specs.Device.{Medium, blank, fetched}
use Rattle.device.proofs.DeviceFacts.{fetched_ok}
use Rattle.freespace.specs.Sets.{with_number}
use Rattle.chains.specs.Layout.{Disk, Layout, Entry, Placed, Contains, first_of, linked, member, null}
use Rattle.chains.specs.Survey.{next}
use Rattle.chains.specs.Changes.{LaidOut}
use Rattle.chains.proofs.FilesTold.{or_moved}
use Rattle.chains.proofs.LaidOut.{Usable, below, stands_chain, usable_chain}

-- a read of a sector that is there, on the medium as it was at first, answers its forward link
forward_read : (m now : Medium) (n : ℕ) (r : Result ℕ Fault) → r ≡ next (fetched now n) (λ s. Ok s.forward) → now ≡ m → n < length m.sectors → m.door ≡ false → r ≡ Ok (get_or m.sectors n blank).forward
forward_read m now n r value same within shut =
    value ∙ ap (λ (x : Medium). next (fetched x n) (λ s. Ok s.forward)) same ∙ ap (λ (x : Result Sector Fault). next x (λ s. Ok s.forward)) (fetched_ok m n within shut)

pub same_ok : {r : Result ℕ Fault} {x y : ℕ} → r ≡ Ok x → r ≡ Ok y → x ≡ y
same_ok a b = cc

pub not_both : {r : Result ℕ Fault} {x : ℕ} {e : Fault} → r ≡ Ok x → r ≡ Err e → ⊥
not_both a b = let z : ◌≡◌ {A = ℕ} 0 1 = cc in omega arith

also_free : (same : Bool) (was : Bool) → (same ≡ true → was ≡ true) → was ≡ (same || was)
also_free true was h = h refl
also_free false was h = refl

made_free : (same : Bool) (was : Bool) → cond same true was ≡ (same || was)
made_free true was = refl
made_free false was = refl

-- a number below the span is free once it was given, whether it was taken or free before
given_back : (span n : ℕ) (was now : ℕ → Bool) (r : Result ℕ Fault) (x : ℕ) → n < span → r ≡ Ok x → ((k : ℕ) → now k ≡ with_number (is_ok r && (ltb n span && not (was n))) n was k) → (k : ℕ) → now k ≡ (eqb k n || was k)
given_back span n was now r x within ok after k =
    let by : now k ≡ with_number (not (was n)) n was k = after k ∙ (λ i. with_number (is_ok (ok i) && (lt-ltb n span within i && not (was n))) n was k) in
    ⊎_elim
    (λ (h : was n ≡ true). by ∙ ap (λ (b : Bool). with_number (not b) n was k) h ∙ also_free (eqb k n) (was k) (λ e. ap was (eqb-true k n e) ∙ h))
    (λ (h : was n ≡ false). by ∙ ap (λ (b : Bool). with_number (not b) n was k) h ∙ made_free (eqb k n) (was k))
    (cases_Bool (was n))

abbrev places_of : List Placed → List ℕ
places_of ps = map (λ q. q.at) ps

or_false : (b : Bool) → (b || false) ≡ b
or_false true = refl
or_false false = refl

-- `left` records are to come, the first of them in sector `here`
pub record Freeing (d : Layout) (ss : Disk) (ps : List Placed) (was now : ℕ → Bool) (here left : ℕ) : Type 0 where
  pub rest : List Placed
  pub before : ℕ
  pub coming : here ≡ first_of rest
  pub many : left ≡ length rest
  pub stands : Contains (linked before rest) ss
  pub usable : AllByRecursion (Usable d) (linked before rest)
  pub together : (n : ℕ) → (now n || member n (places_of rest)) ≡ (was n || member n (places_of ps))

pub freeing_first : (d : Layout) (ss : Disk) (f : Entry) (p : ℕ) (was : ℕ → Bool) (first count : ℕ) → LaidOut d ss → get_or d.places p None ≡ Some f → first ≡ first_of f.records → count ≡ length f.records → Freeing d ss f.records was was first count
freeing_first d ss f p was first count laid at_place coming many =
    record {
      rest = f.records;
      before = f.at;
      coming = coming;
      many = many;
      stands = (stands_chain d ss laid f p at_place).1;
      usable = (usable_chain d ss laid f p at_place).1;
      together = λ n. refl;
    }

module _ (d : Layout) (ss : Disk) (laid : LaidOut d ss) (ps : List Placed) (was now : ℕ → Bool) (here left : ℕ) where
  -- the next record, where there is one
  record Turn : Type 0 where
    within : here < length ss
    spanned : here < d.size
    more : (then : ℕ → Bool) → ((k : ℕ) → then k ≡ (eqb k here || now k)) → Freeing d ss ps was then (get_or ss here blank).forward (left - 1)

  turn_at : (rest : List Placed) (before : ℕ) → here ≡ first_of rest → left ≡ length rest → Contains (linked before rest) ss → AllByRecursion (Usable d) (linked before rest) →
      ((n : ℕ) → (now n || member n (places_of rest)) ≡ (was n || member n (places_of ps))) → 0 < left → Turn
  turn_at [] before coming many stands usable together some = absurd (omega arith)
  turn_at (q ∷ rest) before coming many stands usable together some =
      let bounds = below d ss laid q.at usable.0 in
      let sector = ap (λ (n : ℕ). get_or ss n blank) coming ∙ stands.0 in
      record {
        within = omega arith;
        spanned = omega (arith, laid.size);
        more = λ then after.
            record {
              rest = rest;
              before = q.at;
              coming = ap (λ (s : Sector). s.forward) sector;
              many = omega arith;
              stands = stands.1;
              usable = usable.1;
              together = λ n.
                  ap (λ (b : Bool). b || member n (places_of rest)) (after n ∙ ap (λ (k : ℕ). eqb n k || now n) coming)
                  ∙ sym (or_moved (eqb n q.at) (now n) (member n (places_of rest)))
                  ∙ together n;
            };
      }

  turn : Freeing d ss ps was now here left → 0 < left → Turn
  turn w some = turn_at w.rest w.before w.coming w.many w.stands w.usable w.together some

  over_at : (rest : List Placed) (before : ℕ) → here ≡ first_of rest → left ≡ length rest → AllByRecursion (Usable d) (linked before rest) →
      ((n : ℕ) → (now n || member n (places_of rest)) ≡ (was n || member n (places_of ps))) → (left ≡ 0) ⊎ (here ≡ null) → (n : ℕ) → now n ≡ (was n || member n (places_of ps))
  over_at [] before coming many usable together end n = sym (or_false (now n)) ∙ together n
  over_at (q ∷ rest) before coming many usable together end n =
      let bounds = below d ss laid q.at usable.0 in
      ⊎_elim (λ (h : left ≡ 0). absurd (omega arith)) (λ (h : here ≡ null). absurd (omega arith)) end

  -- no record is left
  pub all_freed : Freeing d ss ps was now here left → (left ≡ 0) ⊎ (here ≡ null) → (n : ℕ) → now n ≡ (was n || member n (map (λ q. q.at) ps))
  all_freed w end = over_at w.rest w.before w.coming w.many w.usable w.together end

-- one record given back: the answer is where the next one lies
pub freed_more : (d : Layout) (m now : Medium) (ps : List Placed) (was free then : ℕ → Bool) (here left span : ℕ) (r : Result ℕ Fault) → LaidOut d m.sectors → m.door ≡ false → now ≡ m → span ≡ d.size →
    r ≡ next (fetched now here) (λ s. Ok s.forward) → ((k : ℕ) → then k ≡ with_number (is_ok r && (ltb here span && not (free here))) here free k) →
    Freeing d m.sectors ps was free here left → 0 < left → (x : ℕ) × (r ≡ Ok x) × Freeing d m.sectors ps was then x (left - 1)
freed_more d m now ps was free then here left span r laid shut same size value after w some =
    let t = turn d m.sectors laid ps was free here left w some in
    let read = forward_read m now here r value same t.within shut in
    let spanned : here < span = subst (λ (k : ℕ). here < k) (sym size) t.spanned in
    ((get_or m.sectors here blank).forward, read, t.more then (given_back span here free then r _ spanned read after))
