-- From what the survey says to what reading a disk promises.
use Rattle.std.proofs.Common.{◌≡◌, ℕ, ◌≤◌, Bool, true, false, cond, leb, ltb, length, get_or, Ok, Err, Result, sym, refl, ap, ◌∙◌, subst, arith}
use Rattle.std.proofs.lemmas.Bool.{and_parts, leb-true, lt-ltb}
use Rattle.std.specs.List.{AllByRecursion}
use Rattle.device.specs.declared.fault.Code.TheVariants.{BadLabel, NotReady}
use Rattle.device.specs.declared.fault.Fault.{Fault}
use Rattle.device.specs.declared.sector.Sector.{Sector}
use Rattle.device.specs.Device.{Medium, WellFormed, blank, device_fault, fetched}
use Rattle.freespace.specs.Bits.{bit_of}
use Rattle.device.specs.declared.reading.ReadingDevice.{Ghosts}
use Rattle.chains.specs.declared.scan.Scan.{Scan}
use Rattle.chains.specs.declared.survey.Survey.{Survey}
use Rattle.chains.specs.Layout.{Disk, Layout, sized}
use Rattle.chains.specs.Reading.{Found, fault, read, reading}
use Rattle.chains.specs.Survey.{Seen, SumsUp, Tells, next, structure_fault, survey}
use Rattle.chains.specs.Scans.{DiskRead, Scans, Shows, seen_of}
use Rattle.chains.proofs.SurveyTold.{survey_tells}

fails_so : (x : Found Layout) (f : Fault) → Tells SumsUp x (Err f) → Tells Shows x (Err f)
fails_so (fault c n) f t = t
fails_so (read d) f t = t

shows_so : (x : Found Layout) (s : Seen) (v : Survey) → v.files ≡ s.files → bit_of v.used.bits ≡ s.met → Tells SumsUp x (Ok s) → Tells Shows x (Ok v)
shows_so (fault c n) s v files used t = t
shows_so (read d) s v files used t = record { files = files ∙ t.files; used = λ n. ap (λ (f : ℕ → Bool). f n) used ∙ t.met n }

-- an answer that tells what is read, under a name that stays shut: a goal that compares two disks does not read them
unfoldable pub Told : Disk → Result Survey Fault → Type 0
Told ss r = Tells Shows (reading ss) r

module _ {D : Type 0} {G : Ghosts D} (ss : Disk) (whole : AllByRecursion WellFormed ss) (r : Result Unit Fault) (t : Scan D G) (scans : Scans (survey ss) r t) where
  pub found_fault : (f : Fault) (x : Result Survey Fault) → r ≡ Err f → x ≡ Err f → Told ss x
  unfolding Told
  found_fault f x fails passed =
      let told : survey ss ≡ Err f = scans ∙ ap (λ (y : Result Unit Fault). next y (λ _. Ok (seen_of t))) fails in
      subst (λ (y : Result Survey Fault). Tells Shows (reading ss) y) (sym passed)
      (fails_so (reading ss) f (subst (λ (y : Result Seen Fault). Tells SumsUp (reading ss) y) told (survey_tells ss whole)))

  pub found_files : (v : Survey) → r ≡ Ok tt → v.files ≡ (seen_of t).files → bit_of v.used.bits ≡ (seen_of t).met → Told ss (Ok v)
  unfolding Told
  found_files v fine files used =
      let told : survey ss ≡ Ok (seen_of t) = scans ∙ ap (λ (y : Result Unit Fault). next y (λ _. Ok (seen_of t))) fine in
      shows_so (reading ss) (seen_of t) v files used (subst (λ (y : Result Seen Fault). Tells SumsUp (reading ss) y) told (survey_tells ss whole))

-- ---- the size and the door come first

true_is_not_false : {X : Type 0} → true ≡ false → X
true_is_not_false e = let z : ◌≡◌ {A = ℕ} 0 1 = ap (λ (b : Bool). cond b 0 1) e in absurd (omega arith)

err_only_open : {A : Type 0} (b : Bool) (x : A) (f : Fault) → ◌≡◌ {A = Result A Fault} (Err f) (cond b (Err (device_fault NotReady)) (Ok x)) → (b ≡ true) × (f ≡ device_fault NotReady)
err_only_open true x f e = (refl, cc)
err_only_open false x f e = let z : ◌≡◌ {A = ℕ} 0 1 = cc in absurd (omega arith)

ok_only_closed : {A : Type 0} (b : Bool) (x y : A) → ◌≡◌ {A = Result A Fault} (Ok x) (cond b (Err (device_fault NotReady)) (Ok y)) → b ≡ false
ok_only_closed true x y e = let z : ◌≡◌ {A = ℕ} 0 1 = cc in absurd (omega arith)
ok_only_closed false x y e = refl

module _ (m : Medium) (size : ℕ) (counts : size ≡ length m.sectors) where
  size_is : {b : Bool} → b ≡ sized size → sized (length m.sectors) ≡ b
  size_is e = ap (λ (k : ℕ). sized k) (sym counts) ∙ sym e

  pub refuses_size : (f : Fault) → false ≡ sized size → f ≡ structure_fault BadLabel 0 → DiskRead m (Err f)
  refuses_size f unsized e =
      record {
        unfit = λ _. ap (λ (z : Fault). Err z) e;
        open_door = λ s _. true_is_not_false (sym s ∙ size_is unsized);
        found = λ s _. true_is_not_false (sym s ∙ size_is unsized);
      }

  -- sector 0 was asked for
  module _ (fits : true ≡ sized size) (r : Result Sector Fault) (value : r ≡ fetched m 0) where
    least : 64 ≤ length m.sectors
    least = leb-true 64 (length m.sectors) (and_parts (leb 64 (length m.sectors)) (leb (length m.sectors) 2464) (size_is fits)).0

    by_door : r ≡ cond m.door (Err (device_fault NotReady)) (Ok (get_or m.sectors 0 blank))
    by_door = let some : ltb 0 (length m.sectors) ≡ true = let w = least in lt-ltb 0 (length m.sectors) (omega arith) in value ∙ simp some

    pub refuses_door : (f : Fault) (x : Result Survey Fault) → r ≡ Err f → x ≡ Err f → DiskRead m x
    refuses_door f x fails passed =
        let open_with = err_only_open m.door _ f (sym fails ∙ by_door) in
        record {
          unfit = λ s. true_is_not_false (sym (size_is fits) ∙ s);
          open_door = λ _ _. passed ∙ ap (λ (z : Fault). Err z) open_with.1;
          found = λ _ closed. true_is_not_false (sym open_with.0 ∙ closed);
        }

    module _ (s : Sector) (fine : r ≡ Ok s) where
      is_closed : m.door ≡ false
      is_closed = ok_only_closed m.door s _ (sym fine ∙ by_door)

      pub reads_on : (ss : Disk) → ss ≡ m.sectors → (x : Result Survey Fault) → Told ss x → DiskRead m x
      unfolding Told
      reads_on ss same_disk x told =
          record {
            unfit = λ t. true_is_not_false (sym (size_is fits) ∙ t);
            open_door = λ _ opened. true_is_not_false (sym opened ∙ is_closed);
            found = λ _ _. subst (λ (d : Disk). Tells Shows (reading d) x) same_disk told;
          }
