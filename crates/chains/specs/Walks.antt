-- What the code promises of a walk along a chain, in the words of the survey.
use Rattle.std.specs.Prelude.{◌≡◌, ℕ, suc, Bool, Ok, Err, Result}
use Rattle.device.specs.declared.fault.Fault.{Fault}
use Rattle.chains.specs.declared.walk.Link.{Link}
use Rattle.chains.specs.Layout.{Disk}
use Rattle.chains.specs.Reading.{sector_at}
use Rattle.chains.specs.Survey.{WalkEnd, next, walk_on}

-- the link is the forward link of the sector it is from
abbrev pub Leads : Disk → Link → Type 0
Leads ss l = l.to ≡ (sector_at ss l.from).forward

-- one step of a walk along a link, which answers the link after it: any walk that has a step left fails so, or goes on there
abbrev pub Steps : Disk → (ℕ → Bool) → Link → Result Link Fault → (ℕ → Bool) → Type 0
Steps ss met l (Err f) after = (k : ℕ) → walk_on ss met l.from (suc k) ≡ Err f
Steps ss met l (Ok n) after = Leads ss n × ((k : ℕ) → walk_on ss met l.from (suc k) ≡ walk_on ss after n.from k)

-- a walk that was done by code: the same fault, or the sector where it ended and the sectors met by then
abbrev pub Walks : Result WalkEnd Fault → Result ℕ Fault → (ℕ → Bool) → Type 0
Walks w r met = w ≡ next r (λ n. Ok (record { at = n; met = met }))
