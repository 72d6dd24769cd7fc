use Rattle.std.proofs.Common.{◌≡◌, ℕ, ◌+◌, ◌-◌, refl, ◌∙◌, subst, inl, inr, arith}
use Rattle.chains.proofs.Frees.{Freeing, all_freed, freed_more, freeing_first, not_both, same_ok}
use Rattle.chains.proofs.freeing.free_chain.Goals as goal

pub loop-init : goal.loop-init
loop-init g c =
    let m = g.D.ReadingDevice.medium c.args.device.now in
    (refl, refl, λ d f p laid shut at_place first count span. freeing_first d m.sectors f p _ c.args.first (c.args.count - 0) laid at_place first (omega arith))

pub loop-preserved : goal.loop-preserved
loop-preserved g c =
    let m = g.D.ReadingDevice.medium c.args.device.now in
    let free = g.A.SectorAllocator in
    let i = c.loop.invariant in
    let left : ℕ = c.args.count - c.loop.counter in (
      c.free_record.ensures.same ∙ i.0,
      c.free_record.ensures.spans ∙ i.1,
      λ d f p laid shut at_place first count span.
          let step = freed_more d m _ f.records _ _ _ c.loop.here left (free.span c.loop.allocator) c.free_record.result laid shut i.0 (i.1 ∙ span)
          c.free_record.ensures.value c.free_record.ensures.after (i.2 d f p laid shut at_place first count span) (omega arith) in
          let one_less : left - 1 ≡ c.args.count - (c.loop.counter + 1) = omega arith in
          subst (λ (k : ℕ). Freeing d m.sectors f.records (free.member c.args.allocator.now) (free.member c.free_record.new.allocator) c.in_ok-here.here k) one_less
          (subst (λ (k : ℕ). Freeing d m.sectors f.records (free.member c.args.allocator.now) (free.member c.free_record.new.allocator) k (left - 1)) (same_ok step.1 c.in_ok-here.was) step.2),
    )

pub returns-in_err-here-clause-freed : goal.returns-in_err-here-clause-freed
returns-in_err-here-clause-freed g c d f p laid shut at_place first count span =
    let m = g.D.ReadingDevice.medium c.args.device.now in
    let i = c.loop.invariant in
    let step = freed_more d m _ f.records _ _ _ c.loop.here (c.args.count - c.loop.counter) (g.A.SectorAllocator.span c.loop.allocator) c.free_record.result laid shut i.0 (i.1 ∙ span)
    c.free_record.ensures.value c.free_record.ensures.after (i.2 d f p laid shut at_place first count span) (omega arith) in
    absurd (not_both step.1 c.in_err-here.was)

pub returns-then-here-clause-freed : goal.returns-then-here-clause-freed
returns-then-here-clause-freed g c d f p laid shut at_place first count span =
    (refl, all_freed d (g.D.ReadingDevice.medium c.args.device.now).sectors laid f.records _ _ c.loop.here _ (c.loop.invariant.2 d f p laid shut at_place first count span) (inr (omega arith)))

pub returns-after-loop-clause-freed : goal.returns-after-loop-clause-freed
returns-after-loop-clause-freed g c d f p laid shut at_place first count span =
    (refl, all_freed d (g.D.ReadingDevice.medium c.args.device.now).sectors laid f.records _ _ c.loop.here (c.args.count - c.loop.counter) (c.loop.invariant.2 d f p laid shut at_place first count span) (inl (omega arith)))
