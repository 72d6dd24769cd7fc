-- What a skew does to the sectors of a device.
use Rattle.std.proofs.Common.{◌≡◌, ℕ, zero, suc, ◌+◌, ◌*◌, ◌/◌, ◌%◌, ◌<◌, ◌≤◌, Bool, true, false, cond, not, eqb, ltb, leb, List, [], ◌∷◌, length, get_or, set, sym, refl, ap, ◌∙◌, subst, ⊎_elim, arith}
use Rattle.std.specs.List.{list_all, AllByRecursion}
use Rattle.std.proofs.lemmas.List.FromFn.{length-map-range_with_len, get_or-map-range_with_len}
use Rattle.std.proofs.ByRecursion.{All-get_or, All-from_get_or, Decides-by_and}
use Rattle.std.proofs.lemmas.List.{length-set, get_or-set_same, get_or-set_other, ext_get_or}
use Rattle.std.proofs.lemmas.Bool.{and_parts, cases_order, cases_lt, cases_eq, cond-true, cond-false, lt-ltb, le-ltb, le-leb, lt-leb}
use Rattle.std.proofs.lemmas.Bool.Decides.{Decides-eqb, Decides-not}
use Rattle.device.specs.declared.sector.Sector.{Sector}
use Rattle.device.specs.Device.{Medium, blank, WellFormed, fetched, stored, wrote}
use Rattle.device.specs.Skew.{StandsFor, all_distinct, is_permutation, places, skewed, skewed_medium}

-- two places of a list without repeats hold two numbers
apart : (ps : List ℕ) (i j : ℕ) → all_distinct ps ≡ true → i < j → j < length ps → get_or ps i 0 ≡ get_or ps j 0 → ⊥
apart [] i j t l h e = omega arith
apart (p ∷ ps) zero zero t l h e = omega arith
apart (p ∷ ps) zero (suc j) t l h e =
    let each = (Decides-by_and (λ y. not (eqb p y)) (λ y. p ≡ y → ⊥) (list_all (λ y. not (eqb p y))) (λ y. Decides-not (eqb p y) (Decides-eqb p y)) refl (λ _ _. refl) ps).0 (and_parts (list_all (λ y. not (eqb p y)) ps) (all_distinct ps) t).0 in
    All-get_or (λ y. p ≡ y → ⊥) ps j 0 (omega arith) each e
apart (p ∷ ps) (suc i) zero t l h e = omega arith
apart (p ∷ ps) (suc i) (suc j) t l h e = apart ps i j (and_parts (list_all (λ y. not (eqb p y)) ps) (all_distinct ps) t).1 (omega arith) (omega arith) e

-- what the test of a table says at each two entries
pub only_once : (ps : List ℕ) → is_permutation ps ≡ true → (i j : ℕ) → i < length ps → j < length ps → get_or ps i 0 ≡ get_or ps j 0 → i ≡ j
only_once ps t i j p q e =
    let d = (and_parts (list_all (λ p. ltb p (length ps)) ps) (all_distinct ps) t).1 in
    ⊎_elim (λ (h : i ≡ j). h)
    (⊎_elim (λ (h : i < j). absurd (apart ps i j d h q e)) (λ (h : j < i). absurd (apart ps j i d h p (sym e))))
    (cases_order i j)

pub in_places : (s : ℕ) → s < 32 → get_or places s 0 ≡ 5 * s % 32
in_places s h = get_or-map-range_with_len (λ s. 5 * s % 32) 0 32 s s 0 h (omega arith)

-- two sectors of a track that lie at one place are one
same_place : (s t : ℕ) → s < 32 → t < 32 → 5 * s % 32 ≡ 5 * t % 32 → s ≡ t
same_place s t p q e = only_once places refl s t p q (in_places s p ∙ e ∙ sym (in_places t q))

skewed_moved : (size n : ℕ) → 32 * (n / 32) + 32 ≤ size → skewed size n ≡ 32 * (n / 32) + 5 * (n % 32) % 32
skewed_moved size n h = cond-true (leb (32 * (n / 32) + 32) size) _ _ (le-leb (32 * (n / 32) + 32) size h)

skewed_kept : (size n : ℕ) → size < 32 * (n / 32) + 32 → skewed size n ≡ n
skewed_kept size n h = cond-false (leb (32 * (n / 32) + 32) size) _ _ (lt-leb (32 * (n / 32) + 32) size h)

-- a sector stays in its track
same_track : (size n : ℕ) → skewed size n / 32 ≡ n / 32
same_track size n =
    ⊎_elim (λ (h : size < 32 * (n / 32) + 32). ap (λ p. p / 32) (skewed_kept size n h)) (λ (h : 32 * (n / 32) + 32 ≤ size). omega (arith, skewed_moved size n h))
    (cases_lt size (32 * (n / 32) + 32))

skewed_below : (size n : ℕ) → n < size → skewed size n < size
skewed_below size n l =
    ⊎_elim (λ (h : size < 32 * (n / 32) + 32). omega (arith, skewed_kept size n h)) (λ (h : 32 * (n / 32) + 32 ≤ size). omega (arith, skewed_moved size n h))
    (cases_lt size (32 * (n / 32) + 32))

skewed_past : (size n : ℕ) → size ≤ n → skewed size n ≡ n
skewed_past size n h = skewed_kept size n (omega arith)

-- no two sectors lie at one place
skewed_once : (size j k : ℕ) → skewed size j ≡ skewed size k → j ≡ k
skewed_once size j k e =
    let q : j / 32 ≡ k / 32 = sym (same_track size j) ∙ ap (λ p. p / 32) e ∙ same_track size k in
    ⊎_elim
    (λ (h : size < 32 * (j / 32) + 32). sym (skewed_kept size j h) ∙ e ∙ skewed_kept size k (omega (arith, h, q)))
    (λ (h : 32 * (j / 32) + 32 ≤ size).
    let r : 5 * (j % 32) % 32 ≡ 5 * (k % 32) % 32 = omega (arith, e, q, skewed_moved size j h, skewed_moved size k (omega (arith, h, q))) in
    omega (arith, q, same_place (j % 32) (k % 32) (omega arith) (omega arith) r))
    (cases_lt size (32 * (j / 32) + 32))

-- `m` is the lower medium
module _ (m : Medium) where
  abbrev size : ℕ
  size = length m.sectors

  abbrev lies : ℕ → Sector
  lies n = get_or m.sectors (skewed (length m.sectors) n) blank

  pub length_skewed : length (skewed_medium m).sectors ≡ length m.sectors
  length_skewed = length-map-range_with_len lies 0 size

  get_or_skewed : (n : ℕ) → n < length m.sectors → get_or (skewed_medium m).sectors n blank ≡ get_or m.sectors (skewed (length m.sectors) n) blank
  get_or_skewed n h = get_or-map-range_with_len lies 0 size n n blank h (omega arith)

  pub whole_skewed : AllByRecursion WellFormed m.sectors → AllByRecursion WellFormed (skewed_medium m).sectors
  whole_skewed w =
      All-from_get_or WellFormed (skewed_medium m).sectors blank
      (λ n h.
      let l : n < length m.sectors = omega (arith, h, length_skewed) in
      subst WellFormed (sym (get_or_skewed n l)) (All-get_or WellFormed m.sectors (skewed size n) blank (skewed_below size n l) w))

  test_skewed : (n : ℕ) → ltb (skewed size n) size ≡ ltb n (length (skewed_medium m).sectors)
  test_skewed n =
      ⊎_elim
      (λ (h : n < size). lt-ltb (skewed size n) size (skewed_below size n h) ∙ sym (lt-ltb n (length (skewed_medium m).sectors) (omega (arith, h, length_skewed))))
      (λ (h : size ≤ n). le-ltb (skewed size n) size (omega (arith, h, skewed_past size n h)) ∙ sym (le-ltb n (length (skewed_medium m).sectors) (omega (arith, h, length_skewed))))
      (cases_lt n size)

  stored_skewed : (n : ℕ) → stored m (skewed (length m.sectors) n) ≡ stored (skewed_medium m) n
  stored_skewed n = rw (test_skewed n)

  fetched_skewed : (n : ℕ) → fetched m (skewed (length m.sectors) n) ≡ fetched (skewed_medium m) n
  fetched_skewed n =
      ⊎_elim (λ (h : n < size). rw (test_skewed n, get_or_skewed n h))
      (λ (h : size ≤ n).
      let f : ltb n (length (skewed_medium m).sectors) ≡ false = le-ltb n (length (skewed_medium m).sectors) (omega (arith, h, length_skewed)) in
      rw (test_skewed n, f))
      (cases_lt n size)

  wrote_skewed : (n : ℕ) (s : Sector) → skewed_medium (wrote m (skewed (length m.sectors) n) s) ≡ wrote (skewed_medium m) n s
  wrote_skewed n s =
      let at = skewed size n in
      let new = set m.sectors at s in
      let old = (skewed_medium m).sectors in
      let long : length new ≡ size = length-set m.sectors at s in
      let moved = (skewed_medium (wrote m at s)).sectors in
      let count : length moved ≡ size = length-map-range_with_len (λ k. get_or new (skewed (length new) k) blank) 0 (length new) ∙ long in
      let same : moved ≡ set old n s =
      ext_get_or blank moved (set old n s) (count ∙ sym length_skewed ∙ sym (length-set old n s))
      (λ k l.
      let lk : k < size = omega (arith, l, count) in
      get_or-map-range_with_len (λ k. get_or new (skewed (length new) k) blank) 0 (length new) k k blank (omega (arith, lk, long)) (omega arith)
      ∙ ap (λ z. get_or new (skewed z k) blank) long
      ∙ ⊎_elim
      (λ (e : k ≡ n).
      let ln : n < size = omega (arith, lk, e) in
      ap (λ i. get_or new (skewed size i) blank) e
      ∙ get_or-set_same m.sectors at s blank (skewed_below size n ln)
      ∙ sym (ap (λ i. get_or (set old n s) i blank) e ∙ get_or-set_same old n s blank (omega (arith, ln, length_skewed))))
      (λ (ne : k ≡ n → ⊥).
      get_or-set_other m.sectors at (skewed size k) s blank (λ e. ne (skewed_once size k n e))
      ∙ sym (get_or_skewed k lk)
      ∙ sym (get_or-set_other old n k s blank ne))
      (cases_eq k n))
      in
      ap (λ ss. record { sectors = ss; door = m.door; tab = m.tab }) same

  changed_skewed : (ok : Bool) (n : ℕ) (s : Sector) → skewed_medium (cond ok (wrote m (skewed size n) s) m) ≡ cond ok (wrote (skewed_medium m) n s) (skewed_medium m)
  changed_skewed true n s = wrote_skewed n s
  changed_skewed false n s = refl

  pub stands_for : (n place : ℕ) → place ≡ skewed (length m.sectors) n → StandsFor m n place
  stands_for n place e =
      record {
        read = ap (fetched m) e ∙ fetched_skewed n;
        write = ap (stored m) e ∙ stored_skewed n;
        after = λ ok s. ap (λ p. skewed_medium (cond ok (wrote m p s) m)) e ∙ changed_skewed ok n s;
      }
