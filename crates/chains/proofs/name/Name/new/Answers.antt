use Rattle.std.proofs.Common.{◌-◌, [], length, take, replicate, refl, ap, ◌∙◌, arith}
use Rattle.std.proofs.lemmas.List.{take_at}
use Rattle.chains.proofs.name.Name.new.Goals as goal

pub returns : goal.returns
returns c =
    let bs = c.args.bytes.now in
    ap (take (length bs)) (c.put.ensures.text 32 [] refl (omega arith) refl) ∙ take_at bs (replicate (32 - length bs) 0) (length bs) refl
