-- The first check that applies, as the model's outcome and as a fault.
use Rattle.std.proofs.Common.{◌≡◌, ℕ, Bool, true, false, cond, List, [], ◌∷◌, Ok, Err, Result, sym, refl, ap, ◌∙◌}
use Rattle.std.proofs.lemmas.Result.{err_from_is_err_and}
use Rattle.std.specs.Result.{IsErrAnd}
use Rattle.device.specs.declared.fault.Fault.{Fault}
use Rattle.rules.specs.Model.{Model, Outcome, Check, refusal, first_refusal_or}
use Rattle.drive.specs.Checks.{plain_fault, first_fault}

-- what a `?` passes on is the fault that came
pub passed_on : {A : Type 0} (x : Result A Fault) (f : Fault) → IsErrAnd x (λ g. g ≡ f) → x ≡ Err f
passed_on x f is =
    let p = err_from_is_err_and {Q = λ g. g ≡ f} x is in
    p.1 ∙ ap Err p.2

-- the model's outcome, by the first fault
abbrev pub by_fault : Model → List ℕ → Outcome → Result Unit Fault → Outcome
by_fault b buf o (Ok u) = o
by_fault b buf o (Err f) = refusal f.code f.layer b buf

pub refusal_by_fault : (b : Model) (buf : List ℕ) (cs : List Check) (o : Outcome) → first_refusal_or b buf cs o ≡ by_fault b buf o (first_fault cs)
refusal_by_fault b buf [] o = refl
refusal_by_fault b buf (c ∷ cs) o = by c.applies (refusal_by_fault b buf cs o)
  where
    by : (x : Bool) → first_refusal_or b buf cs o ≡ by_fault b buf o (first_fault cs) →
        cond x (refusal c.code c.layer b buf) (first_refusal_or b buf cs o) ≡ by_fault b buf o (cond x (Err (plain_fault c.code c.layer)) (first_fault cs))
    by true rest = refl
    by false rest = rest

-- such a fault names no sector
pub no_sector : (cs : List Check) (f : Fault) → first_fault cs ≡ Err f → f.sector ≡ 0xFFFF
no_sector [] f e = absurd cc
no_sector (c ∷ cs) f e = by c.applies (no_sector cs f) e
  where
    by : (x : Bool) → (first_fault cs ≡ Err f → f.sector ≡ 0xFFFF) → cond x (Err (plain_fault c.code c.layer)) (first_fault cs) ≡ Err f → f.sector ≡ 0xFFFF
    by true rest h = let same : plain_fault c.code c.layer ≡ f = cc in sym (ap (λ y. y.sector) same)
    by false rest h = rest h
