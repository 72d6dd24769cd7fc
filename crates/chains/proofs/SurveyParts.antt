-- The survey of a disk in its four parts.
use Rattle.std.proofs.Common.{◌≡◌, ℕ, Bool, true, false, length, Ok, Err, Result, sym, refl, ap, ◌∙◌}
use Rattle.device.specs.declared.fault.Code.{Code}
use Rattle.device.specs.declared.fault.Code.TheVariants.{BadLabel}
use Rattle.device.specs.declared.fault.Fault.{Fault}
use Rattle.chains.specs.Layout.{Disk}
use Rattle.chains.specs.Reading.{sector_at}
use Rattle.chains.specs.Survey.{Seen, need, next, exact_label, to_be_marked, nothing_seen, directory_on, places_on, map_on, survey}

need_then : (b : Bool) (c : Code) (n : ℕ) (k : Result Seen Fault) → need b c n k ≡ next (need {A = Unit {0}} b c n (Ok tt)) (λ _. k)
need_then true c n k = refl
need_then false c n k = refl

pub survey_is : (ss : Disk) →
    survey ss ≡ next (need {A = Unit {0}} (exact_label (sector_at ss 0).bytes (length ss)) BadLabel 0 (Ok tt)) (λ _.
    next (directory_on ss 32 0) (λ _.
    next (places_on ss 96 0 nothing_seen) (λ s.
    next (map_on ss (to_be_marked (length ss) s.met) 3 0) (λ _. Ok s))))
unfolding survey
survey_is ss = need_then (exact_label (sector_at ss 0).bytes (length ss)) BadLabel 0 _

-- the map's answer is the whole's, where the parts before it were right
pub survey_ends : (ss : Disk) (t : Seen) (m : Result Unit Fault) →
    need {A = Unit {0}} (exact_label (sector_at ss 0).bytes (length ss)) BadLabel 0 (Ok tt) ≡ Ok tt → directory_on ss 32 0 ≡ Ok tt → places_on ss 96 0 nothing_seen ≡ Ok t →
    m ≡ map_on ss (to_be_marked (length ss) t.met) 3 0 → survey ss ≡ next m (λ _. Ok t)
survey_ends ss t m label directory places map =
    survey_is ss
    ∙ (λ i. next (label i) (λ _. next (directory i) (λ _. next (places i) (λ s. next (map_on ss (to_be_marked (length ss) s.met) 3 0) (λ _. Ok s)))))
    ∙ ap (λ (x : Result Unit Fault). next x (λ _. Ok t)) (sym map)

-- and the fault in the places is the whole's
pub survey_stops : (ss : Disk) (f : Fault) →
    need {A = Unit {0}} (exact_label (sector_at ss 0).bytes (length ss)) BadLabel 0 (Ok tt) ≡ Ok tt → directory_on ss 32 0 ≡ Ok tt → places_on ss 96 0 nothing_seen ≡ Err f → survey ss ≡ Err f
survey_stops ss f label directory places =
    survey_is ss ∙ (λ i. next (label i) (λ _. next (directory i) (λ _. next (places i) (λ s. next (map_on ss (to_be_marked (length ss) s.met) 3 0) (λ _. Ok s)))))
