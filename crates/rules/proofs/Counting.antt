-- How many sectors the chains use, and how many are left.
use Rattle.std.proofs.Common.{◌≡◌, ℕ, zero, suc, ◌+◌, ◌-◌, ◌<◌, ◌≤◌, Bool, true, false, cond, not, ◌&&◌, ◌||◌, eqb, ltb, leb, List, [], ◌∷◌, map, length, Some, None, sum_by, filter, Option, sym, refl, ap, ◌∙◌, subst, arith}
use Rattle.std.specs.List.{AllByRecursion}
use Rattle.std.proofs.lemmas.Bool.{both_ways, and_left, lt-leb, or_parts, or_from, and_parts, and_from, ltb-true, leb-true, lt-ltb, le-leb, eqb-true, eqb-false, eq-eqb, ne_eqb, not-true}
use Rattle.std.proofs.lemmas.List.{length-append, length-map}
use Rattle.std.proofs.ByRecursion.{kept_by_passes, all_kept_by, All-weaker}
use Rattle.std.proofs.lemmas.List.Filters.{length-filter_both}
use Rattle.std.proofs.lemmas.List.Sums.{sum_by-cons}
use Rattle.freespace.specs.Sets.{counted}
use Rattle.chains.specs.Layout.{Layout, Entry, Placed, reserved, member, numbers, chains, sized}
use Rattle.chains.specs.Sound.{DistinctNumbers, ValidLayout, entries}
use Rattle.rules.specs.Model.{Model, File, free_count}
use Rattle.rules.specs.Matching.{Matches, Unused, EnoughUnused}
use Rattle.rules.specs.Runs.{files_in, file_of}
use Rattle.rules.proofs.Rearranging.{as_long, same_sum}
use Rattle.rules.proofs.Addresses.{Part, ats, addresses, numbers_chains, part_apart}
use Rattle.rules.proofs.Addresses

-- ---- numbers that are apart and all among others are no more than those

dropped : ℕ → List ℕ → List ℕ
dropped x [] = []
dropped x (y ∷ ys) = cond (eqb x y) ys (y ∷ dropped x ys)

length_dropped : (x : ℕ) (ys : List ℕ) → member x ys ≡ true → suc (length (dropped x ys)) ≡ length ys
unfolding dropped
length_dropped x [] h = absurd (both_ways false refl h)
length_dropped x (y ∷ ys) h = step (eqb x y) h (length_dropped x ys)
  where
    step : (t : Bool) → (t || member x ys) ≡ true → (member x ys ≡ true → suc (length (dropped x ys)) ≡ length ys) → suc (length (cond t ys (y ∷ dropped x ys))) ≡ suc (length ys)
    step true k f = refl
    step false k f = ap suc (f k)

member_dropped : (z x : ℕ) (ys : List ℕ) → eqb z x ≡ false → member z ys ≡ true → member z (dropped x ys) ≡ true
unfolding dropped
member_dropped z x [] o h = h
member_dropped z x (y ∷ ys) o h = step (eqb x y) refl (eqb z y) refl h (member_dropped z x ys o)
  where
    step : (t : Bool) → eqb x y ≡ t → (s : Bool) → eqb z y ≡ s → (s || member z ys) ≡ true → (member z ys ≡ true → member z (dropped x ys) ≡ true) → member z (cond t ys (y ∷ dropped x ys)) ≡ true
    step true e true e' k f = absurd (eqb-false z x o (eqb-true z y e' ∙ sym (eqb-true x y e)))
    step true e false e' k f = k
    step false e true e' k f = rw e'
    step false e false e' k f = rw e' (f k)

among_dropped : (x : ℕ) (xs ys : List ℕ) → member x xs ≡ false → AllByRecursion (λ z. member z ys ≡ true) xs → AllByRecursion (λ z. member z (dropped x ys) ≡ true) xs
among_dropped x [] ys o h = tt
among_dropped x (z ∷ xs) ys o h =
    let parts = or_parts (eqb x z) (member x xs) o in
    (member_dropped z x ys (ne_eqb z x (λ e. eqb-false x z parts.0 (sym e))) h.0, among_dropped x xs ys parts.1 h.1)

pub no_more : (xs ys : List ℕ) → DistinctNumbers xs → AllByRecursion (λ x. member x ys ≡ true) xs → length xs ≤ length ys
no_more [] ys a h = omega arith
no_more (x ∷ xs) ys a h =
    omega (arith, length_dropped x ys h.0, no_more xs (dropped x ys) a.1 (among_dropped x xs ys a.0 h.1))

-- ---- the sectors from lo on

abbrev pub range : ℕ → ℕ → List ℕ
range lo zero = []
range lo (suc k) = lo ∷ range (lo + 1) k

length_range : (lo k : ℕ) → length (range lo k) ≡ k
length_range lo zero = refl
length_range lo (suc k) = ap suc (length_range (lo + 1) k)

member_range : (n lo k : ℕ) → lo ≤ n → n < lo + k → member n (range lo k) ≡ true
member_range n lo zero h l = absurd (omega arith)
member_range n lo (suc k) h l = step (eqb n lo) refl (λ g. member_range n (lo + 1) k g (omega arith))
  where
    step : (t : Bool) → eqb n lo ≡ t → (lo + 1 ≤ n → member n (range (lo + 1) k) ≡ true) → (t || member n (range (lo + 1) k)) ≡ true
    step true e f = refl
    step false e f = let ne : n ≡ lo → ⊥ = eqb-false n lo e in f (grind arith)

range_from : (lo k : ℕ) (m : ℕ) → m < lo → member m (range lo k) ≡ false
range_from lo zero m h = refl
range_from lo (suc k) m h = or_from (eqb m lo) (member m (range (lo + 1) k)) (ne_eqb m lo (λ e. omega arith)) (range_from (lo + 1) k m (omega arith))

pub apart_range : (lo k : ℕ) → DistinctNumbers (range lo k)
apart_range lo zero = tt
apart_range lo (suc k) = (range_from (lo + 1) k lo (omega arith), apart_range (lo + 1) k)

within_range : (lo k s : ℕ) → reserved ≤ lo → lo + k ≤ s → AllByRecursion (λ n. (leb reserved n && ltb n s) ≡ true) (range lo k)
within_range lo zero s h l = tt
within_range lo (suc k) s h l = (and_from (leb reserved lo) (ltb lo s) (le-leb reserved lo h) (lt-ltb lo s (omega arith)), within_range (lo + 1) k s (omega arith) (omega arith))

-- ---- how many

length_ats : (ps : List Placed) → length (ats ps) ≡ length (map (λ (p : Placed). p.bytes) ps)
length_ats ps = length-map ps (λ p. p.at) ∙ sym (length-map ps (λ p. p.bytes))

pub length_addresses : (es : List (Option Entry)) → length (addresses es) ≡ length (files_in es) + sum_by (λ f. length f.records) (files_in es)
length_addresses [] = refl
length_addresses (None ∷ es) = length_addresses es
length_addresses (Some f ∷ es) =
    omega (arith, length-append (ats f.records) (addresses es), length_ats f.records, sum_by-cons (λ (f : File). length f.records) (file_of f) (files_in es), length_addresses es)

in_range : (s n : ℕ) → (leb reserved n && ltb n s) ≡ true → member n (range reserved (s - reserved)) ≡ true
in_range s n h =
    let both = and_parts (leb reserved n) (ltb n s) h in
    let a : reserved ≤ n = leb-true reserved n both.0 in
    let b : n < s = ltb-true n s both.1 in
    member_range n reserved (s - reserved) a (omega arith)

-- the chains use no more sectors than there are past the reserved ones
pub addresses_few : (d : Layout) → ValidLayout d → length (addresses d.places) ≤ d.size - reserved
addresses_few d p =
    let xs = addresses d.places in
    let old : DistinctNumbers xs = subst DistinctNumbers (numbers_chains d.places) p.apart in
    let use_able : AllByRecursion (λ n. (leb reserved n && ltb n d.size) ≡ true) xs = subst (AllByRecursion (λ n. (leb reserved n && ltb n d.size) ≡ true)) (numbers_chains d.places) p.usable in
    omega (arith, no_more xs (range reserved (d.size - reserved)) old (All-weaker _ _ (in_range d.size) xs use_able), length_range reserved (d.size - reserved))

each_few : (es : List (Option Entry)) (k : ℕ) → length (addresses es) ≤ k → AllByRecursion (λ f. length f.records ≤ k) (entries es)
each_few [] k h = tt
each_few (None ∷ es) k h = each_few es k h
each_few (Some f ∷ es) k h =
    let e = length-append (ats f.records) (addresses es) in
    let l = length-map f.records (λ (p : Placed). p.at) in
    (omega arith, each_few es k (omega arith))

-- so the count of a file's records fits 16 bits
pub records_few : (d : Layout) → ValidLayout d → AllByRecursion (λ f. length f.records ≤ 2428) (entries d.places)
records_few d p =
    let small = leb-true d.size 2464 (and_parts (leb 64 d.size) (leb d.size 2464) p.size).1 in
    each_few d.places 2428 (omega (arith, addresses_few d p))

-- the model's count of free sectors is that of the sectors outside every chain
module _ (b : Model) (d : Layout) (m : Matches b d) where
  pub used_count : length (addresses d.places) ≡ length b.files + sum_by (λ f. length f.records) b.files
  used_count = omega (arith, length_addresses d.places, as_long m.files, same_sum (λ f. length f.records) m.files)

  pub free_is : free_count b + (reserved + length (addresses d.places)) ≡ b.size
  free_is = omega (arith, used_count, addresses_few d m.proper, m.size, leb-true 64 d.size (and_parts (leb 64 d.size) (leb d.size 2464) m.proper.size).0)

-- ---- the sectors left

part_kept : (p : ℕ → Bool) (xs : List ℕ) → Part (filter p xs) xs
part_kept p [] = Addresses.none
part_kept p (x ∷ xs) = step (p x) (part_kept p xs)
  where
    step : (t : Bool) → Part (filter p xs) xs → Part (cond t (x ∷ filter p xs) (filter p xs)) (x ∷ xs)
    step true q = Addresses.keep x q
    step false q = Addresses.skip x q

abbrev pub unused_of : Layout → List ℕ
unused_of d = filter (λ n. not (member n (addresses d.places))) (range reserved (d.size - reserved))

pub unused_sectors : (d : Layout) → sized d.size ≡ true → Unused d (unused_of d)
unused_sectors d s =
    let small = leb-true 64 d.size (and_parts (leb 64 d.size) (leb d.size 2464) s).0 in
    let test : ℕ → Bool = λ n. not (member n (addresses d.places)) in
    record {
      distinct = part_apart (part_kept test (range reserved (d.size - reserved))) (apart_range reserved (d.size - reserved));
      usable = all_kept_by test _ (range reserved (d.size - reserved)) (within_range reserved (d.size - reserved) d.size (omega arith) (omega arith));
      outside = subst (λ ns. AllByRecursion (λ n. member n ns ≡ false) (unused_of d)) (sym (numbers_chains d.places))
          (All-weaker _ _ (λ n. not-true (member n (addresses d.places))) (unused_of d) (kept_by_passes test (range reserved (d.size - reserved))));
    }

member_kept : (p : ℕ → Bool) (xs : List ℕ) (n : ℕ) → p n ≡ true → member n xs ≡ true → member n (filter p xs) ≡ true
member_kept p [] n h k = k
member_kept p (x ∷ xs) n h k = step (p x) refl (eqb n x) refl k (member_kept p xs n h)
  where
    step : (t : Bool) → p x ≡ t → (s : Bool) → eqb n x ≡ s → (s || member n xs) ≡ true → (member n xs ≡ true → member n (filter p xs) ≡ true) → member n (cond t (x ∷ filter p xs) (filter p xs)) ≡ true
    step true e true e' k f = rw e'
    step true e false e' k f = rw e' (f k)
    step false e true e' k f = absurd (both_ways (p x) e (rw (← eqb-true n x e') h))
    step false e false e' k f = f k

all_member : (xs : List ℕ) (P : ℕ → Type 0) → ((n : ℕ) → member n xs ≡ true → P n) → AllByRecursion P xs
all_member [] P f = tt
all_member (x ∷ xs) P f = (f x (rw (eq-eqb x x refl)), all_member xs P (λ n h. f n (step n (eqb n x) h)))
  where
    step : (n : ℕ) (t : Bool) → member n xs ≡ true → (t || member n xs) ≡ true
    step n true h = refl
    step n false h = h

pub all_both : {X : Type 0} (P Q R : X → Type 0) → ((x : X) → P x → Q x → R x) → (xs : List X) → AllByRecursion P xs → AllByRecursion Q xs → AllByRecursion R xs
all_both P Q R f [] h k = tt
all_both P Q R f (x ∷ xs) h k = (f x h.0 k.0, all_both P Q R f xs h.1 k.1)

-- there are as many as the model says
pub as_many_unused : (b : Model) (d : Layout) → Matches b d → length (unused_of d) ≡ free_count b
as_many_unused b d m =
    let xs = addresses d.places in
    let r = range reserved (d.size - reserved) in
    let p = m.proper in
    let old : DistinctNumbers xs = subst DistinctNumbers (numbers_chains d.places) p.apart in
    let use_able : AllByRecursion (λ n. (leb reserved n && ltb n d.size) ≡ true) xs = subst (AllByRecursion (λ n. (leb reserved n && ltb n d.size) ≡ true)) (numbers_chains d.places) p.usable in
    let used = filter (λ n. member n xs) r in
    let both = length-filter_both (λ n. member n xs) (λ n. not (member n xs)) (λ _. refl) r in
    let le : length used ≤ length xs = no_more used xs (part_apart (part_kept (λ n. member n xs) r) (apart_range reserved (d.size - reserved))) (kept_by_passes (λ n. member n xs) r) in
    let ge : length xs ≤ length used = no_more xs used old
    (all_both (λ n. member n xs ≡ true) (λ n. (leb reserved n && ltb n d.size) ≡ true) (λ n. member n used ≡ true)
    (λ n h k. member_kept (λ n. member n xs) r n h (in_range d.size n k)) xs (all_member xs (λ n. member n xs ≡ true) (λ n h. h)) use_able) in
    omega (arith, length_range reserved (d.size - reserved), free_is b d m, m.size)

pub enough_unused : EnoughUnused
enough_unused b d m = (unused_of d, as_many_unused b d m, unused_sectors d m.proper.size)

-- ---- the same, counted as a set

nothing_counted : (f : ℕ → Bool) (n : ℕ) → ((i : ℕ) → i < n → f i ≡ false) → counted f n ≡ 0
nothing_counted f zero h = refl
nothing_counted f (suc n) h =
    let one : cond {A = ℕ} (f n) 1 0 ≡ 0 = ap (λ (t : Bool). cond {A = ℕ} t 1 0) (h n (omega arith)) in
    let rest : counted f n ≡ 0 = nothing_counted f n (λ i l. h i (omega arith)) in
    omega arith

counted_range : (f p : ℕ → Bool) (lo k : ℕ) → ((i : ℕ) → lo ≤ i → i < lo + k → f i ≡ p i) → counted f (lo + k) ≡ counted f lo + length (filter p (range lo k))
counted_range f p lo zero h = let e : lo + 0 ≡ lo = omega arith in let c : counted f (lo + 0) ≡ counted f lo = ap (counted f) e in omega arith
counted_range f p lo (suc k) h =
    let e : lo + suc k ≡ lo + 1 + k = omega arith in
    let e' : lo + 1 ≡ suc lo = omega arith in
    let whole : counted f (lo + suc k) ≡ counted f (lo + 1 + k) = ap (counted f) e in
    let ih : counted f (lo + 1 + k) ≡ counted f (lo + 1) + length (filter p (range (lo + 1) k)) = counted_range f p (lo + 1) k (λ i g l. h i (omega arith) (omega arith)) in
    let one : counted f (lo + 1) ≡ cond (p lo) 1 0 + counted f lo = ap (counted f) e' ∙ ap (λ t. cond t 1 0 + counted f lo) (h lo (omega arith) (omega arith)) in
    let more : length (filter p (range lo (suc k))) ≡ cond (p lo) 1 0 + length (filter p (range (lo + 1) k)) = step (p lo) in
    omega (arith, whole, ih, one, more)
  where
    step : (t : Bool) → length (cond t (lo ∷ filter p (range (lo + 1) k)) (filter p (range (lo + 1) k))) ≡ cond t 1 0 + length (filter p (range (lo + 1) k))
    step true = omega arith
    step false = omega arith

-- a set that holds exactly the sectors outside every chain counts as many as the model says
pub counts_free : (b : Model) (d : Layout) (free : ℕ → Bool) → Matches b d →
    ((n : ℕ) → free n ≡ (leb reserved n && (ltb n d.size && not (member n (numbers (chains d.places)))))) → counted free d.size ≡ free_count b
counts_free b d free m law =
    let big = leb-true 64 d.size (and_parts (leb 64 d.size) (leb d.size 2464) m.proper.size).0 in
    let p : ℕ → Bool = λ n. not (member n (addresses d.places)) in
    let low : counted free reserved ≡ 0 = nothing_counted free reserved (λ i l. law i ∙ and_left (leb reserved i) _ (lt-leb reserved i l)) in
    let rest : counted free (reserved + (d.size - reserved)) ≡ counted free reserved + length (filter p (range reserved (d.size - reserved))) =
    counted_range free p reserved (d.size - reserved) (λ i g l.
    law i ∙ (ap (λ t. t && (ltb i d.size && not (member i (numbers (chains d.places))))) (le-leb reserved i g) ∙
    (ap (λ t. t && not (member i (numbers (chains d.places)))) (lt-ltb i d.size (omega arith)) ∙
    ap (λ ns. not (member i ns)) (numbers_chains d.places)))) in
    let e : reserved + (d.size - reserved) ≡ d.size = omega arith in
    let all : counted free (reserved + (d.size - reserved)) ≡ counted free d.size = ap (counted free) e in
    let many : length (filter p (range reserved (d.size - reserved))) ≡ free_count b = as_many_unused b d m in
    let sum : counted free reserved + length (filter p (range reserved (d.size - reserved))) ≡ length (filter p (range reserved (d.size - reserved))) = omega (arith, low) in
    sym all ∙ (rest ∙ (sum ∙ many))
