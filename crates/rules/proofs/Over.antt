-- A disk with the sectors of a layout written over shows that layout.
use Rattle.std.proofs.Common.{◌≡◌, ℕ, zero, suc, ◌+◌, ◌<◌, ◌≤◌, true, false, not, ◌&&◌, eqb, ltb, leb, List, [], ◌∷◌, ◌++◌, length, get_or, set, sym, refl, ap, ◌∙◌, subst, arith}
use Rattle.std.specs.List.{AllByRecursion}
use Rattle.std.proofs.lemmas.Bool.{or_parts, and_parts, eqb-false, ne_eqb, ltb-true, leb-true}
use Rattle.std.proofs.lemmas.List.{get_or-set_same, get_or-set_other, set-get_or}
use Rattle.std.proofs.ByRecursion.{All-append, All-weaker}
use Rattle.device.specs.Device.{blank}
use Rattle.chains.specs.Layout.{Disk, Layout, NumberedSector, reserved, member, numbers, chains, fixed_sectors, overwritten, Contains}
use Rattle.chains.specs.Sound.{DistinctNumbers, ValidLayout, Sound}
use Rattle.chains.proofs.Over.{length_over}
use Rattle.rules.specs.Model.{Model, is_closed, any}
use Rattle.rules.specs.Matching.{Follows}
use Rattle.rules.proofs.Addresses.{apart_join}
use Rattle.rules.proofs.Counting.{range, apart_range}
use Rattle.rules.proofs.Reopening.{closed_is_sound}

-- what is written leaves the other sectors
pub over_others : (xs : List NumberedSector) (ss : Disk) (n : ℕ) → member n (numbers xs) ≡ false → get_or (overwritten xs ss) n blank ≡ get_or ss n blank
over_others [] ss n h = refl
over_others (a ∷ xs) ss n h =
    let parts = or_parts (eqb n a.number) (member n (numbers xs)) h in
    get_or-set_other (overwritten xs ss) a.number n a.content blank (eqb-false n a.number parts.0) ∙ over_others xs ss n parts.1

shows_beside : (xs : List NumberedSector) (ss : Disk) (a : NumberedSector) → member a.number (numbers xs) ≡ false → Contains xs ss → Contains xs (set ss a.number a.content)
shows_beside [] ss a o h = tt
shows_beside (x ∷ xs) ss a o h =
    let parts = or_parts (eqb a.number x.number) (member a.number (numbers xs)) o in
    (get_or-set_other ss a.number x.number a.content blank (λ e. eqb-false a.number x.number parts.0 (sym e)) ∙ h.0, shows_beside xs ss a parts.1 h.1)

pub over_shows : (xs : List NumberedSector) (ss : Disk) → DistinctNumbers (numbers xs) → AllByRecursion (λ n. n < length ss) (numbers xs) → Contains xs (overwritten xs ss)
over_shows [] ss a h = tt
over_shows (x ∷ xs) ss a h =
    (get_or-set_same (overwritten xs ss) x.number x.content blank (rw (length_over xs ss) h.0), shows_beside xs (overwritten xs ss) x a.0 (over_shows xs ss a.1 h.1))

-- what the disk shows already is written over without a change
pub over_same : (xs : List NumberedSector) (ss : Disk) → Contains xs ss → overwritten xs ss ≡ ss
over_same [] ss h = refl
over_same (x ∷ xs) ss h =
    ap (λ zs. set zs x.number x.content) (over_same xs ss h.1) ∙ (ap (set ss x.number) (sym h.0) ∙ set-get_or ss x.number blank)

pub numbers_fixed : (d : Layout) → numbers (fixed_sectors d) ≡ range 0 36 ++ numbers (chains d.places)
numbers_fixed d = refl

module _ (d : Layout) (p : ValidLayout d) where
  abbrev used : List ℕ
  used = numbers (chains d.places)

  below : (n : ℕ) (ns : List ℕ) → n < reserved → AllByRecursion (λ m. (leb reserved m && ltb m d.size) ≡ true) ns → member n ns ≡ false
  below n [] l h = refl
  below n (m ∷ ns) l h =
      let a : reserved ≤ m = leb-true reserved m (and_parts (leb reserved m) (ltb m d.size) h.0).0 in
      rw (ne_eqb n m (λ e. omega arith)) (below n ns l h.1)

  all_below : (lo k : ℕ) → lo + k ≤ reserved → AllByRecursion (λ n. n < reserved) (range lo k)
  all_below lo zero h = tt
  all_below lo (suc k) h = (omega arith, all_below (lo + 1) k (omega arith))

  pub apart_fixed : DistinctNumbers (numbers (fixed_sectors d))
  apart_fixed =
      subst DistinctNumbers (sym (numbers_fixed d))
      (apart_join (range 0 36) used (apart_range 0 36) (All-weaker (λ n. n < reserved) _ (λ n l. below n used l p.usable) (range 0 36) (all_below 0 36 (omega arith))) p.apart)

  pub within_fixed : AllByRecursion (λ n. n < d.size) (numbers (fixed_sectors d))
  within_fixed =
      let big = leb-true 64 d.size (and_parts (leb 64 d.size) (leb d.size 2464) p.size).0 in
      subst (AllByRecursion (λ n. n < d.size)) (sym (numbers_fixed d))
      (All-append (λ n. n < d.size) (range 0 36) used
      (All-weaker (λ n. n < reserved) (λ n. n < d.size) (λ n l. omega arith) (range 0 36) (all_below 0 36 (omega arith)))
      (All-weaker _ (λ n. n < d.size) (λ n h. ltb-true n d.size (and_parts (leb reserved n) (ltb n d.size) h).1) used p.usable))

  pub shown : (ss : Disk) → length ss ≡ d.size → Contains (fixed_sectors d) (overwritten (fixed_sectors d) ss)
  shown ss e = over_shows (fixed_sectors d) ss apart_fixed (subst (λ s. AllByRecursion (λ n. n < s) (numbers (fixed_sectors d))) (sym e) within_fixed)

-- with every unit closed, the disk written is sound
pub written_sound : (b : Model) (d : Layout) (ss : Disk) → Follows b d → any (λ s. not (is_closed s)) b.units ≡ false → length ss ≡ d.size → Sound d (overwritten (fixed_sectors d) ss)
written_sound b d ss f h e = closed_is_sound b d (overwritten (fixed_sectors d) ss) f h (length_over (fixed_sectors d) ss ∙ e) (shown d f.matches.proper ss e)
