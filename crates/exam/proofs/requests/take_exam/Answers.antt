use Rattle.std.proofs.Common.{◌≡◌, ◌∙◌, ℕ, List, ◌++◌, length, take, drop, ap, sym, subst, map, arith}
use Rattle.std.proofs.Math.Seq.{take-append_seam}
use Rattle.std.proofs.lemmas.List.{length-map}
use Rattle.drive.specs.Exchanges.{RunsThrough, call_of}
use Rattle.drive.specs.declared.request.Exchange.{Exchange}
use Rattle.exam.proofs.requests.take_exam.Goals as goal

-- what is written back into a list of this length
written_back : (n : ℕ) (xs ys : List Exchange) → n ≡ length xs → length ys ≡ length xs → take n (ys ++ drop (length ys) xs) ≡ ys
written_back n xs ys long same = ap (λ k. take k (ys ++ drop (length ys) xs)) (long ∙ sym same) ∙ take-append_seam ys (drop (length ys) xs)

pub returns : goal.returns
returns g c =
    let was = ap length c.as_mut_slice.ensures.value in
    let kept : length c.run-drive.new.exchanges ≡ length c.as_mut_slice.result.now = simp length-map at (ap length c.run-drive.ensures.requests) in
    let back = written_back c.in_ok-exchanges.exchanges.len c.in_ok-exchanges.exchanges.items c.run-drive.new.exchanges (omega arith) (kept ∙ was) in (
      c.as_mut_slice.result.now,
      c.run-drive.result,
      ap (map call_of) c.as_mut_slice.ensures.value ∙ c.in_ok-exchanges.ensures,
      subst (λ ys. RunsThrough g.D.ReadingDevice g.A.SectorAllocator c.args.device c.args.allocator c.as_mut_slice.result.now ys c.run-drive.result) (sym back) c.run-drive.ensures.ran,
      c.release.ensures,
    )
