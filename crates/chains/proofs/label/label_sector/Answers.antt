use Rattle.std.proofs.Common.{◌≡◌, ℕ, ◌+◌, ◌≤◌, List, [], ◌∷◌, ◌++◌, length, codes, refl, ap, ◌∙◌, arith}
use Rattle.std.proofs.lemmas.List.{length-append}
use Rattle.chains.specs.Layout.{null, sector, padded, decimal}
use Rattle.chains.specs.Fresh.{label_sector}
use Rattle.chains.proofs.Labels.{decimal_short, joined_right, printed_is}
use Rattle.chains.proofs.label.label_sector.Goals as goal

pub returns : goal.returns
unfolding label_sector
returns c =
    let id : List ℕ = c.args.id.now in
    let size : List ℕ = decimal c.args.size in
    let key : List ℕ = 10 ∷ codes "SECTORS=" in
    let few : length size ≤ 4 = decimal_short c.args.size in
    let to_id : List ℕ = codes "ID=" ++ id in
    let to_key : List ℕ = to_id ++ key in
    let to_size : List ℕ = to_key ++ size in
    let id_ends : length to_id ≡ 3 + length id = length-append (codes "ID=") id in
    let key_ends : length to_key ≡ length to_id + 9 = length-append to_id key in
    let size_ends : length to_size ≡ length to_key + length size = length-append to_key size in
    let b1 = c.put-id_at.ensures.text 128 [] refl (omega arith) refl in
    let b2 = c.put-key_at.ensures.text 128 (codes "ID=") (omega arith) (omega arith) b1 in
    let b3 = c.put-size_at.ensures.text 128 to_id (omega arith) (omega arith) b2 in
    let printed : c.as_bytes.result.now ≡ size = c.as_bytes.ensures.value ∙ c.format.ensures.text ∙ printed_is c.args.size c.requires.small in
    let same_length : length c.as_bytes.result.now ≡ length size = ap (λ (xs : List ℕ). length xs) printed in
    let b4 = c.put-end.ensures.text 128 to_key (omega arith) (omega arith) b3 ∙ ap (λ (xs : List ℕ). padded 128 (to_key ++ xs)) printed in
    let b5 = c.put.ensures.text 128 to_size (omega arith) (omega arith) b4 in
    let whole = b5 ∙ ap (λ (xs : List ℕ). padded 128 xs) (joined_right (codes "ID=") id key size (10 ∷ [])) in
    c.unlinked.ensures ∙ ap (λ (xs : List ℕ). sector xs null null) whole
