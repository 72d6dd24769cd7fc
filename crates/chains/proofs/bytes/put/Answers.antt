use Rattle.std.proofs.Common.{◌≡◌, ℕ, ◌+◌, ◌-◌, List, ◌++◌, length, sym, subst, arith}
use borrow.Rule.Slice.PartMut.{put_mid}
use Rattle.chains.specs.Layout.{padded}
use Rattle.chains.proofs.Labels.{put_text}
use Rattle.chains.proofs.bytes.put.Goals as goal

pub returns-clause-text : goal.returns-clause-text
returns-clause-text c n before a w b =
    let part = c.args.part.now in
    let k = c.args.at + length part - c.args.at in
    subst (λ (ys : List ℕ). put_mid c.args.at k c.args.bytes.now ys ≡ padded n (before ++ part)) (sym c.copy_from_slice.ensures.after)
    (put_text n before part c.args.bytes.now c.args.at k a (omega arith) (omega arith) b)
