-- The text of lines, each of one part of a list.
use Rattle.std.proofs.Common.{◌≡◌, ℕ, suc, ◌+◌, ◌*◌, ◌<◌, List, [], ◌∷◌, ◌++◌, map, length, get_or, take, drop, Option, Some, None, Result, Ok, IfOk, IfSome, IsSomeAnd, String, string_bytes, Bor, refl, sym, ap, append-nil, map-id, subst, ◌∙◌, arith}
use Rattle.std.specs.List.{IsSubsliceAt, concat, flat_map, range_with_len}
use Rattle.std.specs.Option.{IsSomeRelated, option_map}
use Rattle.std.proofs.Math.Nat.{mul_comm}
use Rattle.std.proofs.lemmas.List.FromFn.{map-range_with_len_more}
use Rattle.std.proofs.lemmas.Grind.{flat_map-append}
use Rattle.std.proofs.lemmas.Result.{IfOk-at_ok}

-- pieces that are f of the numbers from k on
pieces : {Z : Type 0} (f : ℕ → List ℕ) (ys : List (String Z)) (k : ℕ) → ((j : ℕ) (d : String Z) → j < length ys → string_bytes (get_or ys j d) ≡ f (k + j)) → flat_map string_bytes ys ≡ concat (map f (range_with_len k (length ys)))
pieces f [] k each = refl
pieces f (y ∷ ys) k each =
    let first : string_bytes y ≡ f k = each 0 y (omega arith) ∙ ap f (omega arith) in
    let others = pieces f ys (k + 1) (λ j d h. each (suc j) d (omega arith) ∙ ap f (omega arith)) in
    cc

-- one more part, of number j
pub parts_more : (f : ℕ → List ℕ) (a k j : ℕ) → a + k ≡ j → flat_map f (range_with_len a (k + 1)) ≡ flat_map f (range_with_len a k) ++ f j
parts_more f a k j e =
    let more : range_with_len a (k + 1) ≡ range_with_len a k ++ j ∷ [] = sym (map-id _) ∙ map-range_with_len_more (λ x. x) a k j e ∙ ap (λ xs. xs ++ j ∷ []) (map-id _) in
    ap (flat_map f) more ∙ flat_map-append f (range_with_len a k) (j ∷ []) ∙ ap (λ l. flat_map f (range_with_len a k) ++ l) (append-nil (f j))

-- a collected text grows by the next line
pub more_text : {Z : Type 0} (ys : List (String Z)) (v : String Z) (y : String Z) (w : String Z) → string_bytes v ≡ flat_map string_bytes ys → string_bytes w ≡ string_bytes v ++ flat_map string_bytes (y ∷ []) → string_bytes w ≡ flat_map string_bytes (ys ++ y ∷ [])
more_text ys v y w is more = more ∙ ap (λ bs. bs ++ flat_map string_bytes (y ∷ [])) is ∙ sym (flat_map-append string_bytes ys (y ∷ []))

module _ {Z E : Type 0} (line : ℕ → List ℕ → List ℕ) (Q : ℕ × Bor (List ℕ) → Result (String Z) E → Type 0) (bs : List ℕ) (size : ℕ) where
  -- each line is made of one part
  abbrev pub Makes : Type 0
  Makes = (x : ℕ × Bor (List ℕ)) (y : Result (String Z) E) → Q x y → IfOk y (λ s. string_bytes s ≡ line x.0 x.1.now)

  -- the line of the part at place k
  at_place : Makes → (k : ℕ) (made : Option (Result (String Z) E)) (item : Option (ℕ × Bor (List ℕ))) (part : Option (Bor (List ℕ))) (y : String Z)
      → IsSomeRelated (λ x y. Ok y ≡ x) made y → IfSome made (λ x. IsSomeAnd item (λ i. Q i x)) → IfSome item (λ i. i.0 ≡ k) → part ≡ option_map (λ i. i.1) item
      → IfSome part (λ x. (0 < length x.now) × (k * size < length bs) × IsSubsliceAt size bs (k * size) x.now)
      → string_bytes y ≡ line k (take size (drop (size * k) bs))
  at_place makes k None item part y is call at is_part cut = absurd is
  at_place makes k (Some x) None part y is call at is_part cut = absurd call
  at_place makes k (Some x) (Some i) part y is call at is_part cut =
      let text = IfOk-at_ok (λ s. string_bytes s ≡ line i.0 i.1.now) (sym is) (makes i x call) in
      let cut_here = subst (λ o. IfSome o (λ x. (0 < length x.now) × (k * size < length bs) × IsSubsliceAt size bs (k * size) x.now)) is_part cut in
      text ∙ ap (λ j. line j i.1.now) at ∙ ap (line k) (cut_here.2.0 ∙ ap (λ n. take size (drop n bs)) (mul_comm k size))

  pub text_of_parts : (n : ℕ) (made : ℕ → Option (Result (String Z) E)) (item : ℕ → Option (ℕ × Bor (List ℕ))) (part : ℕ → Option (Bor (List ℕ))) (ys : List (String Z))
      → ((k : ℕ) → IfSome (made k) (λ x. IsSomeAnd (item k) (λ i. Q i x)))
      → ((k : ℕ) → IfSome (item k) (λ i. i.0 ≡ k))
      → ((k : ℕ) → part k ≡ option_map (λ i. i.1) (item k))
      → ((k : ℕ) → IfSome (part k) (λ x. (0 < length x.now) × (k * size < length bs) × IsSubsliceAt size bs (k * size) x.now))
      → ((k : ℕ) (d : String Z) → k < n → IsSomeRelated (λ x y. Ok y ≡ x) (made k) (get_or ys k d))
      → length ys ≡ n → Makes
      → flat_map string_bytes ys ≡ concat (map (λ k. line k (take size (drop (size * k) bs))) (range_with_len 0 n))
  text_of_parts n made item part ys call at is_part cut is long makes =
      let f : ℕ → List ℕ = λ k. line k (take size (drop (size * k) bs)) in
      pieces f ys 0 (λ j d h. at_place makes j (made j) (item j) (part j) (get_or ys j d) (is j d (omega arith)) (call j) (at j) (is_part j) (cut j) ∙ ap f (omega arith))
      ∙ ap (λ m. concat (map f (range_with_len 0 m))) long

-- texts of the elements of xs, one after another
pieces_of : {X Z : Type 0} (f : X → List ℕ) (xs : List X) (ys : List (String Z)) → length ys ≡ length xs → ((k : ℕ) (d : X) (e : String Z) → k < length xs → string_bytes (get_or ys k e) ≡ f (get_or xs k d)) → flat_map string_bytes ys ≡ flat_map f xs
pieces_of f [] [] long each = refl
pieces_of f [] (y ∷ ys) long each = absurd (omega arith)
pieces_of f (x ∷ xs) [] long each = absurd (omega arith)
pieces_of f (x ∷ xs) (y ∷ ys) long each =
    let first : string_bytes y ≡ f x = each 0 x y (omega arith) in
    let others = pieces_of f xs ys (omega arith) (λ k d e h. each (suc k) d e (omega arith)) in
    cc

module _ {X Z E : Type 0} (f : X → List ℕ) (Q : Bor X → Result (String Z) E → Type 0) (xs : List X) where
  abbrev pub Shows : Type 0
  Shows = (x : Bor X) (y : Result (String Z) E) → Q x y → IfOk y (λ s. string_bytes s ≡ f x.now)

  at_element : Shows → (made : Option (Result (String Z) E)) (item : Option (Bor X)) (x : X) (y : String Z)
      → IsSomeRelated (λ r y. Ok y ≡ r) made y → IfSome made (λ r. IsSomeAnd item (λ i. Q i r)) → option_map (λ i. i.now) item ≡ Some x
      → string_bytes y ≡ f x
  at_element shows None item x y is call at = absurd is
  at_element shows (Some r) None x y is call at = absurd call
  at_element shows (Some r) (Some i) x y is call at =
      let now : i.now ≡ x = cc in
      IfOk-at_ok (λ s. string_bytes s ≡ f i.now) (sym is) (shows i r call) ∙ ap f now

  pub text_of_elements : (made : ℕ → Option (Result (String Z) E)) (item : ℕ → Option (Bor X)) (ys : List (String Z))
      → ((k : ℕ) → IfSome (made k) (λ r. IsSomeAnd (item k) (λ i. Q i r)))
      → ((k : ℕ) (d : X) → k < length xs → option_map (λ i. i.now) (item k) ≡ Some (get_or xs k d))
      → ((k : ℕ) (e : String Z) → k < length xs → IsSomeRelated (λ r y. Ok y ≡ r) (made k) (get_or ys k e))
      → length ys ≡ length xs → Shows
      → flat_map string_bytes ys ≡ flat_map f xs
  text_of_elements made item ys call at is long shows =
      pieces_of f xs ys long (λ k d e h. at_element shows (made k) (item k) (get_or xs k d) (get_or ys k e) (is k e h) (call k) (at k d h))
