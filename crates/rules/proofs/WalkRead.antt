-- A walk that is accepted shows its records.
use Rattle.device.specs.declared.fault.Code.TheVariants.{PointerError}
use Rattle.std.proofs.Common.{◌≡◌, ℕ, zero, suc, true, false, not, ◌&&◌, eqb, List, [], ◌∷◌, length, refl, ap, subst}
use Rattle.std.specs.List.{AllByRecursion}
use Rattle.std.proofs.lemmas.Bool.{and_parts, eqb-true, not-true}
use Rattle.device.specs.Device.{WellFormed}
use Rattle.chains.specs.Layout.{Disk, Placed, Contains, null, member, linked, numbers, first_of}
use Rattle.chains.specs.Reading.{Found, read, then, must, sector_at, usable, walk}
use Rattle.chains.specs.Sound.{DistinctNumbers}
use Rattle.rules.proofs.Inverts.{must_tells, then_tells, read_same, absent, outside_rest, with_links, whole_at}

pub record WalkShown (ss : Disk) (visited : List ℕ) (here k : ℕ) (ps : List Placed) : Type 0 where
  pub count : length ps ≡ k
  pub first : (sector_at ss here).forward ≡ first_of ps
  pub shows : Contains (linked here ps) ss
  pub within : AllByRecursion (λ n. usable ss n ≡ true) (numbers (linked here ps))
  pub apart : DistinctNumbers (numbers (linked here ps))
  pub fresh : AllByRecursion (λ n. member n visited ≡ false) (numbers (linked here ps))
  pub full : AllByRecursion (λ p. length p.bytes ≡ 128) ps

module _ (ss : Disk) (w : AllByRecursion WellFormed ss) where
  one_more : (visited : List ℕ) (here next k : ℕ) (ps : List Placed) → (sector_at ss here).forward ≡ next → (usable ss next && not (member next visited)) ≡ true → (sector_at ss next).back ≡ here →
      WalkShown ss (next ∷ visited) next k ps → WalkShown ss visited here (suc k) (record { at = next; bytes = (sector_at ss next).bytes } ∷ ps)
  one_more visited here next k ps f u b h =
      let t = and_parts (usable ss next) (not (member next visited)) u in
      record {
        count = ap suc h.count;
        first = f;
        shows = (with_links (sector_at ss next) b h.first, h.shows);
        within = (t.0, h.within);
        apart = (absent next visited (numbers (linked next ps)) h.fresh, h.apart);
        fresh = (not-true (member next visited) t.1, outside_rest next visited (numbers (linked next ps)) h.fresh);
        full = ((whole_at ss w next).count, h.full);
      }

  pub walk_tells : (visited : List ℕ) (here k : ℕ) (ps : List Placed) → walk ss visited here k ≡ read ps → WalkShown ss visited here k ps
  walk_tells visited here zero ps e =
      let h = must_tells (eqb (sector_at ss here).forward null) PointerError here (read []) e in
      subst (WalkShown ss visited here 0) (read_same h.1)
      (record { count = refl; first = eqb-true (sector_at ss here).forward null h.0; shows = tt; within = tt; apart = tt; fresh = tt; full = tt })
  walk_tells visited here (suc k) ps e =
      let next : ℕ = (sector_at ss here).forward in
      let one : Placed = record { at = next; bytes = (sector_at ss next).bytes } in
      let rest : Found (List Placed) = then (walk ss (next ∷ visited) next k) (λ ps. read (one ∷ ps)) in
      let h = must_tells (usable ss next && not (member next visited)) PointerError here (must (eqb (sector_at ss next).back here) PointerError next rest) e in
      let g = must_tells (eqb (sector_at ss next).back here) PointerError next rest h.1 in
      let t = then_tells (walk ss (next ∷ visited) next k) (λ ps. read (one ∷ ps)) g.1 in
      subst (WalkShown ss visited here (suc k)) (read_same t.2)
      (one_more visited here next k t.0 refl h.0 (eqb-true (sector_at ss next).back here g.0) (walk_tells (next ∷ visited) next k t.0 t.1))
