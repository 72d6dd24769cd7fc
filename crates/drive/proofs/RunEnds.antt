-- A run, one exchange more at its end.
use Rattle.std.proofs.Common.{◌≡◌, ℕ, ◌+◌, ◌<◌, ◌≤◌, List, [], ◌∷◌, ◌++◌, map, length, get_or, take, drop, set, sym, refl, ap, ◌∙◌, subst, arith}
use Rattle.std.proofs.lemmas.List.{length-set, map-append, take_all, take_more, take_more_set, drop_more, drop-drop, drop-set-lt}
use Rattle.device.specs.declared.reading.ReadingDevice.{Ghosts as Reading}
use Rattle.freespace.specs.declared.allocator.SectorAllocator.{Ghosts as Allocating}
use Rattle.rules.specs.Model.{Model, Outcome}
use Rattle.rules.specs.Runs.{View, Call, Step, Run, none, more, told}
use Rattle.rules.specs.Served.{outcome}
use Rattle.drive.specs.declared.drive.Drive.{Drive}
use Rattle.drive.specs.declared.request.Exchange.{Exchange}
use Rattle.drive.specs.Serves.{model_of, view}
use Rattle.drive.specs.Exchanges.{call_of, told_of, ServingAll, ServesExchange, ServesAll, ServedTo, SameRequests, RunsIfFresh}

run_more : {b c : Model} {v v' v'' : View} {qs : List Call} {os : List Outcome} {q : Call} {o : Outcome} → Run b v qs os c v' → Step c v' q o v'' → Run b v (qs ++ q ∷ []) (os ++ o ∷ []) o.after v''
run_more none s = more s none
run_more (more t r) s = more t (run_more r s)

-- a loop has served i of the exchanges xs, which are ys by now: what is left is as it was
left_more : {X : Type 0} (xs ys : List X) (i : ℕ) (y : X) → drop i ys ≡ drop i xs → drop (i + 1) (set ys i y) ≡ drop (i + 1) xs
left_more {X} xs ys i y e =
    drop-set-lt (i + 1) ys i y (omega arith) ∙ (sym (drop-drop 1 i ys) ∙ (ap (λ (l : List X). drop 1 l) e ∙ drop-drop 1 i xs))

item_same : {X : Type 0} (xs ys : List X) (i : ℕ) (d : X) → i < length xs → i < length ys → drop i ys ≡ drop i xs → get_or ys i d ≡ get_or xs i d
item_same {X} xs ys i d lx ly e = ap (λ (l : List X). get_or l 0 d) (sym (drop_more ys i d ly) ∙ (e ∙ drop_more xs i d lx))

module _ (xs ys : List Exchange) (i : ℕ) (z y : Exchange) (lx : i < length xs) (ly : i < length ys) (left : drop i ys ≡ drop i xs) where
  taken : {Y : Type 0} (f : Exchange → Y) → map f (take (i + 1) xs) ≡ map f (take i xs) ++ f (get_or ys i z) ∷ []
  taken f = ap (map f) (take_more xs i z lx ∙ ap (λ w. take i xs ++ w ∷ []) (sym (item_same xs ys i z lx ly left))) ∙ map-append f (take i xs) (get_or ys i z ∷ [])

  placed : {Y : Type 0} (f : Exchange → Y) → map f (take (i + 1) (set ys i y)) ≡ map f (take i ys) ++ f y ∷ []
  placed f = ap (map f) (take_more_set ys i y ly) ∙ map-append f (take i ys) (y ∷ [])

  served_more : {D S : Type 0} (r : Reading D) (a : Allocating S) (b : Model) (d e e' : Drive D S) → ServingAll r a b (map call_of (take i xs)) d (map told_of (take i ys)) e → ServesExchange r a e (get_or ys i z) y e' → ServingAll r a b (map call_of (take (i + 1) xs)) d (map told_of (take (i + 1) (set ys i y))) e'
  served_more r a b d e e' s serve =
      let n = serve s.last s.represents in
      let o = outcome s.last (view r a e) (call_of (get_or ys i z)) in
      record {
        outcomes = s.outcomes ++ o ∷ [];
        answered = map-append told s.outcomes (o ∷ []) ∙ (ap (λ l. l ++ told o ∷ []) s.answered ∙ (ap (λ t. map told_of (take i ys) ++ t ∷ []) n.answered ∙ sym (placed told_of)));
        last = o.after;
        run = subst (λ l. Run b (view r a d) l (s.outcomes ++ o ∷ []) o.after (view r a e')) (sym (taken call_of)) (run_more s.run n.step);
        represents = n.represents;
      }

  requests_more : SameRequests (take i xs) (take i ys) → y.request ≡ (get_or ys i z).request → SameRequests (take (i + 1) xs) (take (i + 1) (set ys i y))
  requests_more same here =
      placed (λ x. x.request) ∙ (ap (λ l. l ++ y.request ∷ []) same ∙ (ap (λ w. map (λ x. x.request) (take i xs) ++ w ∷ []) here ∙ sym (taken (λ x. x.request))))

pub none_served : {D S : Type 0} (r : Reading D) (a : Allocating S) (xs : List Exchange) (d : Drive D S) → ServedTo r a 0 xs d xs d
none_served r a xs d = record { left = refl; long = refl; served = λ b rep. record { outcomes = []; answered = refl; last = b; run = none; represents = rep }; requests = refl }

-- one more
pub served_next : {D S : Type 0} (r : Reading D) (a : Allocating S) (i : ℕ) (xs : List Exchange) (d : Drive D S) (ys : List Exchange) (e e' : Drive D S) (z y : Exchange) → i < length ys →
    ServedTo r a i xs d ys e → ServesExchange r a e (get_or ys i z) y e' → y.request ≡ (get_or ys i z).request → ServedTo r a (i + 1) xs d (set ys i y) e'
served_next r a i xs d ys e e' z y within s serve same =
    let inside : i < length xs = omega (arith, s.long) in
    record {
      left = left_more xs ys i y s.left;
      long = length-set ys i y ∙ s.long;
      served = λ b rep. served_more xs ys i z y inside within s.left r a b d e e' (s.served b rep) serve;
      requests = requests_more xs ys i z y inside within s.left s.requests same;
    }

-- all of them
pub all_served : {D S : Type 0} (r : Reading D) (a : Allocating S) (i : ℕ) (xs : List Exchange) (d : Drive D S) (ys : List Exchange) (e : Drive D S) → length xs ≤ i → ServedTo r a i xs d ys e → ServesAll r a d xs ys e
all_served r a i xs d ys e past s =
    subst (λ l. ServesAll r a d l ys e) (take_all i xs past) (subst (λ l. ServesAll r a d (take i xs) l e) (take_all i ys (omega (arith, s.long))) s.served)

-- from a new drive it is a run, whole
pub run_from_new : {D S : Type 0} (r : Reading D) (a : Allocating S) (d : Drive D S) (xs ys : List Exchange) (e : Drive D S) → ServesAll r a d xs ys e → RunsIfFresh r a d xs ys e
run_from_new r a d xs ys e s device allocator new =
    let all = s (model_of (r.medium device)) new.represents in
    (all.last, (all.outcomes, all.answered, subst (λ v. Run (model_of (r.medium device)) v (map call_of xs) all.outcomes all.last (view r a e)) new.seen all.run), all.represents)
