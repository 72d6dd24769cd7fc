-- An answer that tells what was found, step by step.
use Rattle.std.proofs.Common.{◌≡◌, ℕ, Bool, true, false, Ok, Err, Result, sym, refl, subst}
use Rattle.device.specs.declared.fault.Code.{Code}
use Rattle.device.specs.declared.fault.Fault.{Fault}
use Rattle.chains.specs.Reading.{Found, fault, read, then, must}
use Rattle.chains.specs.Survey.{Tells, need, next}

-- the same test, with the same code and sector
module _ {A B : Type 0} (P : A → B → Type 0) (c : Code) (n : ℕ) (x : Found A) (y : Result B Fault) where
  pub tells_must : (b : Bool) → Tells P x y → Tells P (must b c n x) (need b c n y)
  tells_must true h = h
  tells_must false h = (refl, refl, refl)

  pub tells_must_by : (a b : Bool) → b ≡ a → Tells P x y → Tells P (must a c n x) (need b c n y)
  tells_must_by a b e h = subst (λ (t : Bool). Tells P (must a c n x) (need t c n y)) (sym e) (tells_must a h)

pub tells_then : {A B C D : Type 0} (P : A → B → Type 0) (Q : C → D → Type 0) (x : Found A) (y : Result B Fault) (f : A → Found C) (g : B → Result D Fault) →
    Tells P x y → ((a : A) (b : B) → P a b → Tells Q (f a) (g b)) → Tells Q (then x f) (next y g)
tells_then P Q (fault c n) (Err e) f g h k = h
tells_then P Q (fault c n) (Ok b) f g h k = absurd h
tells_then P Q (read a) (Err e) f g h k = absurd h
tells_then P Q (read a) (Ok b) f g h k = k a b h

-- what was read put into another form
pub tells_read : {A B C : Type 0} (P : A → B → Type 0) (Q : C → B → Type 0) (x : Found A) (y : Result B Fault) (f : A → C) → Tells P x y → ((a : A) (b : B) → P a b → Q (f a) b) → Tells Q (then x (λ a. read (f a))) y
tells_read P Q (fault c n) (Err e) f h k = h
tells_read P Q (fault c n) (Ok b) f h k = absurd h
tells_read P Q (read a) (Err e) f h k = absurd h
tells_read P Q (read a) (Ok b) f h k = k a b h

-- steps that follow are put under the first
pub then_must : {A B : Type 0} (b : Bool) (c : Code) (n : ℕ) (x : Found A) (f : A → Found B) → must b c n (then x f) ≡ then (must b c n x) f
then_must true c n x f = refl
then_must false c n x f = refl

pub next_need : {A B : Type 0} (b : Bool) (c : Code) (n : ℕ) (y : Result A Fault) (g : A → Result B Fault) → need b c n (next y g) ≡ next (need b c n y) g
next_need true c n y g = refl
next_need false c n y g = refl

pub then_then : {A B C : Type 0} (x : Found A) (f : A → Found B) (g : B → Found C) → then x (λ a. then (f a) g) ≡ then (then x f) g
then_then (fault c n) f g = refl
then_then (read a) f g = refl
