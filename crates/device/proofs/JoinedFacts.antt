-- What two devices joined as one answer, by what their parts answer.
use Rattle.std.proofs.Common.{◌≡◌, ℕ, ◌+◌, ◌-◌, ◌<◌, ◌≤◌, min, Bool, true, false, cond, ◌||◌, List, ◌++◌, length, get_or, take, set, Ok, Result, sym, refl, ap, ◌∙◌, arith}
use lib.Seq.{take-set-lt}
use Rattle.std.specs.List.{AllByRecursion}
use Rattle.std.proofs.ByRecursion.{All-append, All-take}
use Rattle.std.proofs.lemmas.List.{length-take, length-append, get_or-take, get_or_append_left, get_or-append_right, set-append_left, set-append_right}
use Rattle.std.proofs.lemmas.Bool.{or_parts}
use Rattle.device.specs.declared.fault.Fault.{Fault}
use Rattle.device.specs.declared.sector.Sector.{Sector}
use Rattle.device.specs.Device.{Medium, blank, WellFormed, fetched, stored, wrote}
use Rattle.device.specs.Joined.{joined}
use Rattle.device.proofs.DeviceFacts.{fetched_ok, stored_ok}

-- the sectors of both
abbrev joined_sectors : List Sector → List Sector → List Sector
joined_sectors first second = take 65535 (first ++ second)

module _ (a b : List Sector) where
  pub length_joined : length (joined_sectors a b) ≡ min 65535 (length a + length b)
  length_joined = length-take 65535 (a ++ b) ∙ ap (min 65535) (length-append a b)

  pub whole_joined : AllByRecursion WellFormed a → AllByRecursion WellFormed b → AllByRecursion WellFormed (joined_sectors a b)
  whole_joined p q = All-take WellFormed 65535 (a ++ b) (All-append WellFormed a b p q)

  module _ (n : ℕ) (within : n < length (joined_sectors a b)) where
    below : n < 65535
    below = omega (arith, length_joined)

    get_or_first : n < length a → get_or (joined_sectors a b) n blank ≡ get_or a n blank
    get_or_first h = get_or-take 65535 (a ++ b) n blank below ∙ get_or_append_left a b blank n h

    get_or_second : length a ≤ n → get_or (joined_sectors a b) n blank ≡ get_or b (n - length a) blank
    get_or_second h = get_or-take 65535 (a ++ b) n blank below ∙ get_or-append_right a b (length a) n blank refl h

    set_first : (s : Sector) → n < length a → joined_sectors (set a n s) b ≡ set (joined_sectors a b) n s
    set_first s h = ap (take 65535) (sym (set-append_left a b n s h)) ∙ take-set-lt 65535 (a ++ b) n s below

    set_second : (s : Sector) → length a ≤ n → joined_sectors a (set b (n - length a) s) ≡ set (joined_sectors a b) n s
    set_second s h = ap (take 65535) (sym (set-append_right a b (length a) n s refl h)) ∙ take-set-lt 65535 (a ++ b) n s below

-- both after a write of sector n by the part that has it
module _ (a b : Medium) (n : ℕ) (s : Sector) (within : n < length (joined a b).sectors) where
  pub changed_first : n < length a.sectors → (ok : Bool) (a' : Medium) → a' ≡ cond ok (wrote a n s) a → joined a' b ≡ cond ok (wrote (joined a b) n s) (joined a b)
  changed_first h true a' e = ap (λ m. joined m b) e ∙ ap (λ ss. record { sectors = ss; door = a.door || b.door; tab = a.tab || b.tab }) (set_first a.sectors b.sectors n within s h)
  changed_first h false a' e = ap (λ m. joined m b) e

  pub changed_second : length a.sectors ≤ n → (ok : Bool) (b' : Medium) → b' ≡ cond ok (wrote b (n - length a.sectors) s) b → joined a b' ≡ cond ok (wrote (joined a b) n s) (joined a b)
  changed_second h true b' e = ap (λ m. joined a m) e ∙ ap (λ ss. record { sectors = ss; door = a.door || b.door; tab = a.tab || b.tab }) (set_second a.sectors b.sectors n within s h)
  changed_second h false b' e = ap (λ m. joined a m) e

-- an answer of the one part that has sector n is the answer of both, where both doors are closed
module _ (a b : Medium) (n : ℕ) (within : n < length (joined a b).sectors) (closed : (joined a b).door ≡ false) where
  inside : length a.sectors ≤ n → n - length a.sectors < length b.sectors
  inside h = omega (arith, length_joined a.sectors b.sectors)

  pub fetched_first : n < length a.sectors → (r : Result Sector Fault) → r ≡ fetched a n → r ≡ fetched (joined a b) n
  fetched_first h r e =
      e
      ∙ fetched_ok a n h (or_parts a.door b.door closed).0
      ∙ ap Ok (sym (get_or_first a.sectors b.sectors n within h))
      ∙ sym (fetched_ok (joined a b) n within closed)

  pub fetched_second : length a.sectors ≤ n → (r : Result Sector Fault) → r ≡ fetched b (n - length a.sectors) → r ≡ fetched (joined a b) n
  fetched_second h r e =
      e
      ∙ fetched_ok b (n - length a.sectors) (inside h) (or_parts a.door b.door closed).1
      ∙ ap Ok (sym (get_or_second a.sectors b.sectors n within h))
      ∙ sym (fetched_ok (joined a b) n within closed)

  -- and both tabs are off
  module _ (free : (joined a b).tab ≡ false) where
    pub stored_first : n < length a.sectors → (r : Result Unit Fault) → r ≡ stored a n → r ≡ stored (joined a b) n
    stored_first h r e =
        e
        ∙ stored_ok a n h (or_parts a.door b.door closed).0 (or_parts a.tab b.tab free).0
        ∙ sym (stored_ok (joined a b) n within closed free)

    pub stored_second : length a.sectors ≤ n → (r : Result Unit Fault) → r ≡ stored b (n - length a.sectors) → r ≡ stored (joined a b) n
    stored_second h r e =
        e
        ∙ stored_ok b (n - length a.sectors) (inside h) (or_parts a.door b.door closed).1 (or_parts a.tab b.tab free).1
        ∙ sym (stored_ok (joined a b) n within closed free)
