use Rattle.std.proofs.Common.{◌≡◌, ℕ, ◌-◌, List, [], ◌∷◌, length, sym, refl, ◌∙◌, arith}
use Rattle.chains.specs.Layout.{padded, word}
use Rattle.chains.proofs.Padding.{padded_more, padded_two, length_padded}
use Rattle.chains.proofs.place.place_bytes.Goals as goal

pub returns : goal.returns
returns c =
    let name : List ℕ = c.args.name.now in
    let size : ℕ = length name in
    let front : List ℕ = size ∷ padded 32 name in
    let long : length front ≡ 33 = omega (arith, length_padded 32 name (omega arith)) in
    let b1 = c.put.ensures.text 40 [] refl (omega arith) refl in
    let b2 = c.put-2.ensures.text 40 (size ∷ []) refl (omega arith) b1 in
    let b3 = c.put_word.ensures 40 front (sym long) (omega arith) (b2 ∙ sym (padded_more 40 (32 - size) (size ∷ name) (omega arith))) in
    b3 ∙ padded_two 40 5 front (word c.args.at) (omega arith)
