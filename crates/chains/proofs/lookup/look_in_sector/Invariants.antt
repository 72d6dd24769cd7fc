use Rattle.std.proofs.Common.{◌≡◌, ◌+◌, drop}
use Rattle.chains.proofs.Lookups.{places_seen}
use Rattle.chains.proofs.lookup.look_in_sector.Given as goal

-- what was found so far with the places that are left is what all of them give
abbrev pub invariant-loop-k : goal.invariant-loop-k
invariant-loop-k l = places_seen l.name l.seen (l.p + l.k) (drop l.k l.places) ≡ places_seen l.name l.initial.seen l.p l.places
