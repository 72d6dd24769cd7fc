-- From the promise of one call to that of the exchange that asked for it.
use Rattle.std.proofs.Common.{◌≡◌, vec_items, Option, sym, ◌∙◌, subst}
use Rattle.device.specs.declared.reading.ReadingDevice.{Ghosts as Reading}
use Rattle.freespace.specs.declared.allocator.SectorAllocator.{Ghosts as Allocating}
use Rattle.drive.specs.declared.answer.Answer.{Answer}
use Rattle.drive.specs.declared.drive.Drive.{Drive}
use Rattle.drive.specs.declared.request.Request.{Request}
use Rattle.drive.specs.declared.request.Usage.{Usage}
use Rattle.drive.specs.Exchanges.{Replies, answered, numbers_of, request_of, told_of}
use Rattle.drive.specs.Serves.{ServesAlone, Serving}

-- `k` is what the arm of the dispatch knows the request to be
pub replied : {D S : Type 0} (r : Reading D) (a : Allocating S) (q k : Request) (d e : Drive D S) (ans : Answer) (rep : Option Usage) → q ≡ k → ServesAlone r a (request_of k) d ans (numbers_of rep) e → Replies r a q d ans rep e
replied r a q k d e ans rep is s x asks b stands =
    subst (λ z. Serving r a b (record { request = request_of z; buffer = vec_items x.buffer }) d (told_of (answered x ans rep)) e) (sym (asks ∙ is)) (s (vec_items x.buffer) b stands)
