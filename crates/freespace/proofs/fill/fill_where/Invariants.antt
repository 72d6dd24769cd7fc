use Rattle.std.proofs.Common.{◌≡◌, ℕ, ◌<◌, ◌≤◌, min, false}
use Rattle.freespace.proofs.fill.fill_where.Given as goal

-- the numbers from n on have been asked for, the others are no members, and n does not go below `first`
abbrev pub invariant-loop-n : goal.invariant-loop-n
invariant-loop-n g l =
    let member = g.A.SectorAllocator.member l.allocator in
    (g.A.SectorAllocator.span l.allocator ≡ l.sectors)
    × ((m : ℕ) → l.n ≤ m → m < l.sectors → goal.F-post g l.is_free m (member m))
    × ((m : ℕ) → m < l.n → member m ≡ false)
    × ((m : ℕ) → l.sectors ≤ m → member m ≡ false)
    × (min l.first l.sectors ≤ l.n)
