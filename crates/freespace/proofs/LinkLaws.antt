-- Laws of an ascending chain: f is the table, as a function of the place.
use Rattle.std.proofs.Common.{◌≡◌, ℕ, ◌+◌, ◌-◌, ◌<◌, ◌≤◌, Bool, true, false, cond, not, eqb, ltb, ◌⊎◌, List, length, set, sym, refl, ap, ◌∙◌, inl, inr, ⊎_elim, arith, length-set, get_or-set_other, get_or-set_same}
use Rattle.std.proofs.lemmas.Bool.{cases_eq, cases_lt, eq-eqb, ne_eqb, cond-true, cond-false, lt-ltb}
use Rattle.freespace.specs.Links.{link, linked, Chained}

pub chained_none : (f : ℕ → ℕ) (span : ℕ) → f 0 ≡ span + 1 → ((p : ℕ) → (p ≡ 0 → ⊥) → f p ≡ 0) → Chained f span
chained_none f span first rest =
    let each : (p : ℕ) → (p < f p) ⊎ (f p ≡ 0) = λ p. ⊎_elim (λ (e : p ≡ 0). inl (rw (e, first) (omega arith))) (λ (ne : p ≡ 0 → ⊥). inr (rest p ne)) (cases_eq p 0) in
    record {
      head = omega arith;
      ascends = λ p on. omega (arith, each p);
      within = λ p. ⊎_elim (λ (e : p ≡ 0). rw (e, first) (omega arith)) (λ (ne : p ≡ 0 → ⊥). rw (rest p ne) (omega arith)) (cases_eq p 0);
      leads = λ p on in'. ⊎_elim (λ (e : p ≡ 0). let h = ap f e ∙ first in absurd (omega arith)) (λ (ne : p ≡ 0 → ⊥). let h = rest p ne in absurd (omega arith)) (cases_eq p 0);
      passes = λ p q h. rest q (λ e. omega arith);
    }

-- one of three: m is a, m is b, or neither
either : {P : Type 0} (m a b : ℕ) → (m ≡ a → P) → (m ≡ b → P) → ((m ≡ a → ⊥) → (m ≡ b → ⊥) → P) → P
either m a b at_a at_b other = ⊎_elim at_a (λ na. ⊎_elim at_b (λ nb. other na nb) (cases_eq m b)) (cases_eq m a)

module _ (f : ℕ → ℕ) (span : ℕ) (ch : Chained f span) where
  -- two places of the chain do not both pass over n
  one_passes : (p q n : ℕ) → (q ≡ p → ⊥) → p < n → n ≤ f p → q < n → n ≤ f q → ⊥
  one_passes p q n ne lp hp lq hq =
      ⊎_elim
      (λ (l : q < p). let z = ch.passes q p (l, omega arith) in omega arith)
      (λ (l : p ≤ q). let z = ch.passes p q (omega arith, omega arith) in omega arith)
      (cases_lt q p)

  -- g is f with place n linked in after p
  module _ (g : ℕ → ℕ) (p n : ℕ) (low : p < n) (high : n < f p) (at_p : g p ≡ n) (at_n : g n ≡ f p) (other : (q : ℕ) → (q ≡ p → ⊥) → (q ≡ n → ⊥) → g q ≡ f q) where
    still : (q : ℕ) → 0 < f q → 0 < g q
    still q on = either q p n (λ e. rw (e, at_p) (omega arith)) (λ e. rw (e, at_n) (omega arith)) (λ np nn. rw (other q np nn) on)

    pub chained_in : Chained g span
    chained_in =
        record {
          head = still 0 ch.head;
          ascends =
              λ q on.
              either q p n (λ e. rw (e, at_p) low) (λ e. rw (e, at_n) high)
              (λ np nn. let e = other q np nn in let l = ch.ascends q (omega arith) in omega arith);
          within =
              λ q.
              let l = ch.within p in
              either q p n (λ e. rw (e, at_p) (omega arith)) (λ e. rw (e, at_n) l) (λ np nn. rw (other q np nn) (ch.within q));
          leads =
              λ q on in'.
              either q p n
              (λ e. rw (e, at_p, at_n) (omega arith))
              (λ e. let h = ap g e ∙ at_n in let i = still (f p) (ch.leads p (omega arith) (omega arith)) in rw (e, at_n) i)
              (λ np nn. let e = other q np nn in rw e (still (f q) (ch.leads q (omega arith) (omega arith))));
          passes =
              λ q r h.
              let far : (f r ≡ 0) → (r ≡ n → ⊥) → g r ≡ 0 = λ z ne. other r (λ e. let y = ap f e in omega arith) ne ∙ z in
              either q p n
              (λ e. let b = ap g e ∙ at_p in far (ch.passes p r (omega arith, omega arith)) (λ y. omega arith))
              (λ e. let b = ap g e ∙ at_n in far (ch.passes p r (omega arith, omega arith)) (λ y. omega arith))
              (λ np nn.
              let b = other q np nn in
              far (ch.passes q r (omega arith, omega arith)) (λ y. one_passes p q n np low (omega arith) (omega arith) (omega arith)));
        }

  -- g is f with the place after p unlinked
  module _ (g : ℕ → ℕ) (p n : ℕ) (is : n ≡ f p) (on : 0 < f p) (in' : n ≤ span) (at_p : g p ≡ f n) (at_n : g n ≡ 0) (other : (q : ℕ) → (q ≡ p → ⊥) → (q ≡ n → ⊥) → g q ≡ f q) where
    beyond : n < f n
    beyond = let l = ch.leads p on (omega arith) in let e = ap f is in ch.ascends n (omega arith)

    above : p < n
    above = omega (arith, ch.ascends p on)

    remains : (q : ℕ) → (q ≡ n → ⊥) → 0 < f q → 0 < g q
    remains q ne live = let b = beyond in ⊎_elim (λ (e : q ≡ p). rw (e, at_p) (omega arith)) (λ (np : q ≡ p → ⊥). rw (other q np ne) live) (cases_eq q p)

    pub chained_out : Chained g span
    chained_out =
        let a = above in
        let b = beyond in
        record {
          head = remains 0 (λ e. omega arith) ch.head;
          ascends =
              λ q live.
              either q p n (λ e. rw (e, at_p) (omega arith)) (λ e. let z = ap g e ∙ at_n in absurd (omega arith))
              (λ np nn. let e = other q np nn in let l = ch.ascends q (omega arith) in omega arith);
          within =
              λ q.
              either q p n (λ e. rw (e, at_p) (ch.within n)) (λ e. rw (e, at_n) (omega arith)) (λ np nn. rw (other q np nn) (ch.within q));
          leads =
              λ q live low.
              either q p n
              (λ e. let h = ap g e ∙ at_p in rw (e, at_p) (remains (f n) (λ y. omega arith) (ch.leads n (omega arith) (omega arith))))
              (λ e. let z = ap g e ∙ at_n in absurd (omega arith))
              (λ np nn.
              let e = other q np nn in
              let l = ch.ascends q (omega arith) in
              rw e (remains (f q) (λ y. one_passes p q n np a (omega arith) (omega arith) (omega arith)) (ch.leads q (omega arith) (omega arith))));
          passes =
              λ q r h.
              let far : (f r ≡ 0) → g r ≡ 0 =
              λ z. ⊎_elim (λ (e : r ≡ n). ap g e ∙ at_n) (λ (ne : r ≡ n → ⊥). other r (λ e. let y = ap f e in omega arith) ne ∙ z) (cases_eq r n) in
              either q p n
              (λ e.
              let b = ap g e ∙ at_p in
              ⊎_elim
              (λ (y : r ≡ n). ap g y ∙ at_n)
              (λ (ne : r ≡ n → ⊥). far (⊎_elim (λ (l : r < n). ch.passes p r (omega arith, omega arith)) (λ (l : n ≤ r). ch.passes n r (omega arith, omega arith)) (cases_lt r n)))
              (cases_eq r n))
              (λ e. let z = ap g e ∙ at_n in absurd (omega arith))
              (λ np nn. let b = other q np nn in far (ch.passes q r (omega arith, omega arith)));
        }

-- two places of a table are written, one after the other
module _ (next : List ℕ) (a b x y : ℕ) (in_a : a < length next) (in_b : b < length next) (ne : a ≡ b → ⊥) where
  abbrev written : List ℕ
  written = set (set next a x) b y

  at_second : link written b ≡ y
  at_second = get_or-set_same (set next a x) b y 0 (omega (arith, length-set next a x))

  at_first : link written a ≡ x
  at_first = get_or-set_other (set next a x) b a y 0 ne ∙ get_or-set_same next a x 0 in_a

  elsewhere : (q : ℕ) → (q ≡ a → ⊥) → (q ≡ b → ⊥) → link written q ≡ link next q
  elsewhere q na nb = get_or-set_other (set next a x) b q y 0 nb ∙ get_or-set_other next a q x 0 na

-- a table that has n too where v is true, and else has it no more
pub record Changed (old new : List ℕ) (span n : ℕ) (v : Bool) : Type 0 where
  pub chain : Chained (link new) span
  pub was : linked old n ≡ not v
  pub is : (m : ℕ) → linked new m ≡ cond (eqb m n) v (linked old m)

-- the place of n changes, and another one, p, that is in the chain before and after
changed_members : (old new : List ℕ) (p n : ℕ) (v : Bool) → linked new n ≡ v → 0 < link old p → 0 < link new p → ((q : ℕ) → (q ≡ p → ⊥) → (q ≡ n + 1 → ⊥) → link new q ≡ link old q) → (m : ℕ) → linked new m ≡ cond (eqb m n) v (linked old m)
changed_members old new p n v here on_old on_new other m =
    ⊎_elim
    (λ (e : m ≡ n). ap (linked new) e ∙ here ∙ sym (cond-true (eqb m n) v (linked old m) (eq-eqb m n e)))
    (λ (ne : m ≡ n → ⊥).
    ⊎_elim
    (λ (e : m + 1 ≡ p). rw e (lt-ltb 0 (link new p) on_new ∙ sym (lt-ltb 0 (link old p) on_old)))
    (λ (np : m + 1 ≡ p → ⊥). ap (ltb 0) (other (m + 1) np (λ e. ne (omega arith))))
    (cases_eq (m + 1) p)
    ∙ sym (cond-false (eqb m n) v (linked old m) (ne_eqb m n ne)))
    (cases_eq m n)

module _ (next : List ℕ) (span : ℕ) (ch : Chained (link next) span) (long : span < length next) (p : ℕ) where
  pub linked_in : (n : ℕ) → p ≤ n → n + 1 < link next p → Changed next (set (set next (n + 1) (link next p)) p (n + 1)) span n true
  linked_in n low high =
      let w = ch.within p in
      let in_p : p < length next = omega arith in
      let in_n : n + 1 < length next = omega arith in
      let ne : n + 1 ≡ p → ⊥ = λ e. omega arith in
      let at_p = at_second next (n + 1) p (link next p) (n + 1) in_n in_p ne in
      let at_n = at_first next (n + 1) p (link next p) (n + 1) in_n in_p ne in
      let other = elsewhere next (n + 1) p (link next p) (n + 1) in_n in_p ne in
      record {
        chain = chained_in (link next) span ch _ p (n + 1) (omega arith) high at_p at_n (λ q np nn. other q nn np);
        was = ap (ltb 0) (ch.passes p (n + 1) (omega arith, high));
        is = changed_members next _ p n true (lt-ltb 0 _ (rw at_n (omega arith))) (omega arith) (rw at_p (omega arith)) (λ q np nn. other q nn np);
      }

  module _ (on : 0 < link next p) (in' : link next p ≤ span) where
    pub unlinked : Changed next (set (set next p (link next (link next p))) (link next p) 0) span (link next p - 1) false
    unlinked =
        let g = link next p in
        let live : 0 < link next g = ch.leads p on in' in
        let up = ch.ascends p on in
        let is : g ≡ g - 1 + 1 = omega arith in
        let in_p : p < length next = omega arith in
        let in_g : g < length next = omega arith in
        let ne : p ≡ g → ⊥ = λ e. omega arith in
        let at_g = at_second next p g (link next g) 0 in_p in_g ne in
        let at_p = at_first next p g (link next g) 0 in_p in_g ne in
        let other = elsewhere next p g (link next g) 0 in_p in_g ne in
        record {
          chain = chained_out (link next) span ch _ p g refl on in' at_p at_g other;
          was = lt-ltb 0 (link next (g - 1 + 1)) (rw (sym is) live);
          is = changed_members next _ p (g - 1) false (ap (λ q. ltb 0 (link (written next p g (link next g) 0 in_p in_g ne) q)) (sym is) ∙ ap (ltb 0) at_g) on (rw at_p live) (λ q np ng. other q np (λ e. ng (e ∙ is)));
        }
