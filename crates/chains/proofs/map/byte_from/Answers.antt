use Rattle.chains.proofs.MapBytes.{marked_more, unmarked_more}
use Rattle.chains.proofs.map.byte_from.Goals as goal
use Rattle.chains.proofs.map.byte_from.Goals.{then-is_marked, else-is_marked}

pub loop-k-preserved : goal.loop-k-preserved
loop-k-preserved g c =
    let m = g.M.Marks.marked c.args.marks.now in
    elim c.if-is_marked.branch [
      | then-is_marked w ↦ marked_more m c.args.n c.loop-k.k c.loop-k.byte c.loop-k.invariant c.if-is_marked.byte c.loop-k-test.true w.if-is_marked.ensures w.byte-is
      | else-is_marked w ↦ unmarked_more m c.args.n c.loop-k.k c.loop-k.byte c.loop-k.invariant c.if-is_marked.byte w.if-is_marked.ensures w.byte-is
    ]
