-- Each call that writes keeps the model and the layout matched.
use Rattle.std.proofs.Common.{◌≡◌, ℕ, ◌-◌, ◌*◌, ◌<◌, max, Bool, true, false, cond, not, ◌&&◌, eqb, leb, List, [], ◌∷◌, length, get_or, take, is_some, Some, None, Option, unwrap_or, sym, refl, ap, ◌∙◌, subst, arith}
use Rattle.std.proofs.lemmas.Bool.{both_ways, ltb-false, leb-false, not-false}
use Rattle.std.proofs.lemmas.List.{length-take-le}
use Rattle.chains.specs.Names.{legal, legal_id}
use Rattle.chains.specs.Layout.{Layout, sized}
use Rattle.rules.specs.Model.{Model, Supplied, Format, Open, Close, Write, WriteCurrent, Delete, Erase, holds, find, records_of, state, name_of, cursor_of, rounded, made, emptied, with_unit, response}
use Rattle.rules.specs.Effects.{layout_after, in_file, with_places, saved}
use Rattle.rules.specs.Matching.{Matches, Unused, none}
use Rattle.rules.proofs.Rearranging.{held_found}
use Rattle.rules.proofs.Edited.{matches_edited}
use Rattle.rules.proofs.Changes.{writes, deletes, empties, rewrites, matches_made, matches_erased, proper_saved, none_taken}
use Rattle.rules.proofs.Accepted.{leaves_write, added_write, write_after, write_count, leaves_delete, delete_after, leaves_current, leaves_open, added_open, leaves_erase, leaves_close, leaves_format}

pub same_files : (b b' : Model) (d : Layout) → Matches b d → b'.size ≡ b.size → b'.files ≡ b.files → Matches b' d
same_files b b' d m size files = record { proper = m.proper; size = m.size ∙ sym size; files = rw files m.files }

either_way : (t : Bool) (x y : Model) (p q : Option Layout) (d : Layout) → (t ≡ true → Matches x (unwrap_or p d)) → (t ≡ false → Matches y (unwrap_or q d)) → Matches (cond t x y) (unwrap_or (cond t p q) d)
either_way true x y p q d f g = f refl
either_way false x y p q d f g = g refl

single : (ns : List ℕ) → length ns ≡ 1 → ns ≡ get_or ns 0 0 ∷ []
single [] h = absurd (omega arith)
single (n ∷ []) h = refl
single (n ∷ (k ∷ ns)) h = absurd (omega arith)

module _ (b : Model) (d : Layout) (buf taken : List ℕ) (m : Matches b d) (given : Supplied) where
  pub on_write : (u n : ℕ) → (response b given (Write u n) buf).refused ≡ false → length taken ≡ (response b given (Write u n) buf).added → Unused d taken →
      Matches (response b given (Write u n) buf).after (unwrap_or (layout_after d b (Write u n) buf taken) d)
  on_write u n r long unused =
      let p = leaves_write b buf u n given r in
      let k : length taken ≡ write_count b buf u n = long ∙ added_write b buf u n given r in
      let fits = ltb-false (length buf) (128 * rounded n) p.checked.1.1.1.1.1.1.0 in
      matches_edited b (response b given (Write u n) buf).after d (name_of (state b u)) _ _ taken (writes (cursor_of (state b u)) taken buf (omega arith)) unused m
      (ap (λ x. x.size) p.after) (ap (λ x. x.files) (p.after ∙ ap (write_after b buf u n) (sym k)))

  pub on_delete : (u n : ℕ) → (response b given (Delete u n) buf).refused ≡ false →
      Matches (response b given (Delete u n) buf).after (unwrap_or (layout_after d b (Delete u n) buf taken) d)
  on_delete u n r =
      let p = leaves_delete b buf u n given r in
      subst (λ x. Matches x (unwrap_or (layout_after d b (Delete u n) buf taken) d)) (sym p.after)
      (either_way (eqb n 0) b (delete_after b buf u n) None _ d (λ _. m)
      (λ _. matches_edited b (delete_after b buf u n) d (name_of (state b u)) _ _ [] (deletes (max (cursor_of (state b u)) 1 - 1) n) (none_taken d) m refl refl))

  pub on_write_current : (u : ℕ) → (response b given (WriteCurrent u) buf).refused ≡ false →
      Matches (response b given (WriteCurrent u) buf).after (unwrap_or (layout_after d b (WriteCurrent u) buf taken) d)
  on_write_current u r =
      let p = leaves_current b buf u given r in
      let fits = ltb-false (length buf) 128 p.checked.1.1.1.1.1.1.0 in
      matches_edited b (response b given (WriteCurrent u) buf).after d (name_of (state b u)) _ _ [] (rewrites (cursor_of (state b u) - 1) (take 128 buf) (length-take-le 128 buf fits)) (none_taken d) m
      (ap (λ x. x.size) p.after) (ap (λ x. x.files) p.after)

  few : (t : Bool) → t ≡ false → (not t && leb 96 (length b.files)) ≡ false → length b.files < 96
  few true e h = absurd (both_ways true e refl)
  few false e h = leb-false 96 (length b.files) h

  pub on_open : (u : ℕ) (n : List ℕ) (k : ℕ) → (response b given (Open u n k) buf).refused ≡ false → length taken ≡ (response b given (Open u n k) buf).added → Unused d taken →
      Matches (response b given (Open u n k) buf).after (unwrap_or (layout_after d b (Open u n k) buf taken) d)
  on_open u n k r long unused =
      let here = is_some (find n b.files) in
      let p = leaves_open b buf u n k given r in
      let l : length taken ≡ cond here 0 1 = long ∙ added_open b buf u n k given r in
      subst (λ x. Matches x (unwrap_or (layout_after d b (Open u n k) buf taken) d)) (sym p.after)
      (either_way here _ (made b u n k) _ _ d
      (λ _. either_way (eqb k 2) (emptied b u n k) (with_unit b u (holds n k (cond (eqb k 3) (length (records_of b n)) 0))) (Some (with_places d (in_file n (λ _. []) d.places))) None d
      (λ _. matches_edited b (emptied b u n k) d n _ _ [] empties (none_taken d) m refl refl)
      (λ _. same_files b (with_unit b u (holds n k (cond (eqb k 3) (length (records_of b n)) 0))) d m refl refl))
      (λ e.
      let one : length taken ≡ 1 = l ∙ ap (λ t. cond t 0 1) e in
      matches_made b (made b u n k) d m n (get_or taken 0 0) (not-false (legal n) p.checked.1.1.1.0) (sym (held_found n b.files) ∙ e)
      (few here e p.checked.1.1.1.1.1.1.1.1.1.0)
      (subst (Unused d) (single taken one) unused) refl refl))

  pub on_erase : (n : List ℕ) → (response b given (Erase n) buf).refused ≡ false →
      Matches (response b given (Erase n) buf).after (unwrap_or (layout_after d b (Erase n) buf taken) d)
  on_erase n r =
      let after = (leaves_erase b buf given n r).after in
      matches_erased b (response b given (Erase n) buf).after d n m (ap (λ x. x.size) after) (ap (λ x. x.files) after)

  saved_if : (t : Bool) → Matches b (unwrap_or (cond t (Some (saved d)) None) d)
  saved_if true = record { proper = proper_saved d m.proper; size = m.size; files = m.files }
  saved_if false = m

  pub on_close : (u : ℕ) → (response b given (Close u) buf).refused ≡ false →
      Matches (response b given (Close u) buf).after (unwrap_or (layout_after d b (Close u) buf taken) d)
  on_close u r =
      let after = (leaves_close b buf u given r).after in
      same_files b (response b given (Close u) buf).after (unwrap_or (layout_after d b (Close u) buf taken) d) (saved_if b.changed) (ap (λ x. x.size) after) (ap (λ x. x.files) after)

-- FORMAT, whatever stood before
pub on_format : (b : Model) (d : Layout) (buf taken : List ℕ) (given : Supplied) (id : List ℕ) → (response b given (Format id) buf).refused ≡ false →
    Matches (response b given (Format id) buf).after (unwrap_or (layout_after d b (Format id) buf taken) d)
on_format b d buf taken given id r =
    let p = leaves_format b buf given id r in
    record {
      proper = record {
        size = not-false (sized b.size) p.checked.1.1.1.0;
        id = not-false (legal_id id) p.checked.1.1.1.1.0;
        reserved_links = refl;
        map = refl;
        places = refl;
        names = tt;
        distinct = tt;
        usable = tt;
        apart = tt;
        records = tt;
      };
      size = sym (ap (λ x. x.size) p.after);
      files = rw (ap (λ x. x.files) p.after) none;
    }
