use Rattle.std.proofs.Common.{◌≡◌, ℕ, ◌-◌, false, length, get_or, Some, None}
use Rattle.chains.specs.Layout.{Layout, Entry, first_of}
use Rattle.chains.specs.Changes.{LaidOut}
use Rattle.chains.proofs.Frees.{Freeing}
use Rattle.chains.proofs.freeing.free_chain.Given as goal

abbrev pub invariant-loop : goal.invariant-loop
invariant-loop g l =
    let m = g.D.ReadingDevice.medium l.initial.device in
    let free = g.A.SectorAllocator in
    (g.D.ReadingDevice.medium l.device ≡ m) ×
    (free.span l.allocator ≡ free.span l.initial.allocator) ×
    ((d : Layout) (f : Entry) (p : ℕ) → LaidOut d m.sectors → m.door ≡ false → get_or d.places p None ≡ Some f → l.first ≡ first_of f.records → l.count ≡ length f.records → free.span l.initial.allocator ≡ d.size →
    Freeing d m.sectors f.records (free.member l.initial.allocator) (free.member l.allocator) l.here (l.count - l.counter))
