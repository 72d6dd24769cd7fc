use Rattle.std.proofs.Common.{◌≡◌, ℕ, ◌-◌, List, [], ◌∷◌, ◌++◌, length, sym, refl, ap, ◌∙◌, arith}
use Rattle.chains.specs.Layout.{null, padded, sector, word}
use Rattle.chains.specs.Descriptors.{described}
use Rattle.chains.proofs.Padding.{padded_more, padded_two, length_padded}
use Rattle.chains.proofs.descriptor.descriptor_sector.Goals as goal

pub returns : goal.returns
unfolding described
returns c =
    let name : List ℕ = c.args.name.now in
    let size : ℕ = length name in
    let fields = c.args.fields in
    let front : List ℕ = word fields.first ++ (word fields.last ++ (word fields.count ++ (0 ∷ size ∷ []))) in
    let long : length (padded 32 name) ≡ 32 = length_padded 32 name (omega arith) in
    let b1 = c.put_word.ensures 128 [] refl (omega arith) refl in
    let b2 = c.put_word-2.ensures 128 (word fields.first) refl (omega arith) b1 in
    let b3 = c.put_word-3.ensures 128 (word fields.first ++ word fields.last) refl (omega arith) b2 in
    let b4 = c.put.ensures.text 128 (word fields.first ++ (word fields.last ++ word fields.count)) refl (omega arith) b3 in
    let b5 = c.put-2.ensures.text 128 front refl (omega arith) b4 in
    ap (λ (bs : List ℕ). sector bs null fields.first) (b5 ∙ sym (padded_more 128 (32 - size) (front ++ name) (omega arith)) ∙ padded_two 128 88 front (padded 32 name) (omega arith))
