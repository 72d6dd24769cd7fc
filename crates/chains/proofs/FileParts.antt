-- One file of the survey, in the steps in which the code reads it.
use Rattle.std.proofs.Common.{◌≡◌, ℕ, Bool, true, false, not, ◌&&◌, List, Ok, Result, refl, ap, ◌∙◌}
use Rattle.device.specs.declared.fault.Code.TheVariants.{BadEntry, NotInDirectory, PointerError}
use Rattle.device.specs.declared.fault.Fault.{Fault}
use Rattle.device.specs.declared.sector.Sector.{Sector}
use Rattle.chains.specs.Names.{legal}
use Rattle.chains.specs.Layout.{Disk}
use Rattle.chains.specs.Reading.{sector_at, usable}
use Rattle.chains.specs.Survey.{Seen, need, records_on, file_on, well_formed_place, name_in, address_in, named_as, descriptor_shaped}
use Rattle.chains.specs.Files.{records_from, descriptor_from, with_met}

and_joined : (a b c : Bool) → (a && (b && c)) ≡ ((a && b) && c)
and_joined true b c = refl
and_joined false b c = refl

-- the descriptor that was fetched is the place's
pub descriptor_done :
    (ss : Disk) (at : ℕ) (name bs : List ℕ) (s : Seen) (d : Sector) →
    ◌≡◌ {A = Result Sector Fault} (Ok d) (Ok (sector_at ss at)) → true ≡ named_as d bs → true ≡ descriptor_shaped d →
    records_from ss at name s ≡ descriptor_from ss at name bs s
descriptor_done ss at name bs s d got named shaped =
    let there : d ≡ sector_at ss at = cc in
    let right : true ≡ named_as (sector_at ss at) bs = named ∙ ap (λ (x : Sector). named_as x bs) there in
    let fine : true ≡ descriptor_shaped (sector_at ss at) = shaped ∙ ap (λ (x : Sector). descriptor_shaped x) there in
    λ i. need (right i) NotInDirectory at (need (fine i) PointerError at (records_from ss at name s))

-- from the bytes of a place to the descriptor, in the order in which the code goes
pub file_is : (ss : Disk) (s : Seen) (from : ℕ) (bs : List ℕ) →
    file_on ss s from bs ≡
    need ((well_formed_place bs && legal (name_in bs)) && (not (s.names (name_in bs)) && usable ss (address_in bs))) BadEntry from
    (need (not (s.met (address_in bs))) PointerError from
    (descriptor_from ss (address_in bs) (name_in bs) bs (with_met (address_in bs) s)))
unfolding file_on records_on
file_is ss s from bs =
    ap (λ (b : Bool). need b BadEntry from (need (not (s.met (address_in bs))) PointerError from (descriptor_from ss (address_in bs) (name_in bs) bs (with_met (address_in bs) s))))
    (and_joined (well_formed_place bs) (legal (name_in bs)) (not (s.names (name_in bs)) && usable ss (address_in bs)))
