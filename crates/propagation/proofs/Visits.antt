use Rattle.std.proofs.Common.{arith, ◌≡◌, ◌≢◌, ◌==◌, ℕ, zero, suc, ◌+◌, ◌-◌, ◌*◌, ◌/◌, ◌%◌, ◌<◌, ◌≤◌, List, [], ◌∷◌, length, get_or, Bool, true, false, ◌||◌}
use Rattle.std.proofs.Common.{refl, sym, ap, ◌∙◌, subst, if◌then◌else◌, Some, None, ◌⊎◌, inl, inr}
use Rattle.std.proofs.lemmas.Bool.Decides.{nat_tests}
use Rattle.clause_base.specs.Literal.{opposite}
use Rattle.clause_base.specs.Clause.{IsClause, IsRising, has_literal}
use Rattle.clause_base.proofs.published.ClauseLemmas.{rising-tail}
use Rattle.cdcl_tables.proofs.published.Mirrors.{half_opposite}
use Rattle.cdcl_tables.specs.declared.chains.Node.{Node}
use Rattle.cdcl_tables.specs.declared.chains.Place.{Place}
use Rattle.cdcl_tables.specs.Linked.{blocking_of, has, placed}
use Rattle.cdcl_tables.specs.Walk.{IsWalk}
use Rattle.propagation.specs.own.Asks.{IsUnit}
use Rattle.propagation.specs.Pending.{AreFalseBut, is_free}
use Rattle.cdcl_defs.specs.State.{clause_at}
use Rattle.propagation.specs.own.Visit.{literal_at, IsReal, IsNodeKept, IsSettled, MovesToFree, Grows, AllSettled, IsAtRest, IsVisiting}
use Rattle.propagation.proofs.published.Assigns.{AreTwoWatched, equal_of, apart_of, opposite_twice}

-- a literal of a clause is below the codes
pub has_below : (xs : List ℕ) (codes l : ℕ) → ((p : ℕ) → p < length xs → get_or xs p 0 < codes) → has_literal xs l ≡ true → l < codes
has_below [] codes l h e = absurd (let w : ⊥ = cc in w)
has_below (x ∷ xs) codes l h e = by (x == l) refl e (has_below xs codes l (λ p g. h (suc p) (omega (arith, g)))) (h 0 (omega arith))
  where
    by : (b : Bool) → (x == l) ≡ b → (b || has_literal xs l) ≡ true → (has_literal xs l ≡ true → l < codes) → x < codes → l < codes
    by true f e on g = let t : x ≡ l = grind (arith, nat_tests) in omega (arith, t, g)
    by false f e on g = on e

-- a node is not the other one of its slot
pub beside_apart : (node : ℕ) → opposite node ≡ node → ⊥
beside_apart node = by (node % 2 == 0) refl
  where
    by : (b : Bool) → (node % 2 == 0) ≡ b → (if b then node + 1 else node - 1) ≡ node → ⊥
    by true f e = absurd (omega (arith, e))
    by false f e = let t : node % 2 ≢ 0 = grind (arith, nat_tests) in absurd (omega (arith, t, e))

-- two nodes whose other nodes are one node are one
pub one_beside : (k node : ℕ) → opposite k ≡ opposite node → k ≡ node
one_beside k node e = sym (opposite_twice k) ∙ ap opposite e ∙ opposite_twice node

-- where one node's blocking literal has changed, the others watch what they did
pub others_stay : (nodes nodes' : List Node) (node k : ℕ) → ((x : ℕ) → (x ≡ opposite node → ⊥) → blocking_of nodes' x ≡ blocking_of nodes x)
    → (k ≡ node → ⊥) → literal_at nodes' k ≡ literal_at nodes k
others_stay nodes nodes' node k others ne = others (opposite k) (λ e. ne (one_beside k node e))

-- so each node watches what it did, or a literal that is not false
pub moves_own : (cl : List (List ℕ)) (nodes nodes' : List Node) (node free : ℕ) (on : ℕ → Bool)
    → ((x : ℕ) → (x ≡ opposite node → ⊥) → blocking_of nodes' x ≡ blocking_of nodes x) → literal_at nodes' node ≡ free → is_free on free ≡ true
    → MovesToFree cl nodes nodes' on
moves_own cl nodes nodes' node free on others own is k rk = by (k == node) refl
  where
    by : (p : Bool) → (k == node) ≡ p → (literal_at nodes' k ≡ literal_at nodes k) ⊎ (is_free on (literal_at nodes' k) ≡ true)
    by true f =
        let e : k ≡ node = grind (arith, nat_tests) in
        inr (ap (λ (x : ℕ). is_free on (literal_at nodes' x)) e ∙ ap (is_free on) own ∙ is)
    by false f = let ne : k ≢ node = grind (arith, nat_tests) in inl (others_stay nodes nodes' node k others ne)

pub settled_grows : (on set set' : ℕ → Bool) (xs : List ℕ) (c : ℕ) → Grows set set' → IsSettled on set xs c → IsSettled on set' xs c
settled_grows on set set' xs c g h = record { not_loose = h.not_loose; in_set = λ p. g c (h.in_set p) }

pub grows_insert : (set set' : ℕ → Bool) (n : ℕ) → ((k : ℕ) → set' k ≡ (k == n || set k)) → Grows set set'
grows_insert set set' n h k e = h k ∙ by (k == n)
  where
    by : (b : Bool) → (b || set k) ≡ true
    by true = refl
    by false = e

pub own_insert : (set set' : ℕ → Bool) (n : ℕ) → ((k : ℕ) → set' k ≡ (k == n || set k)) → set' n ≡ true
own_insert set set' n h = let t : (n == n) ≡ true = grind (arith, nat_tests) in h n ∙ ap (λ (b : Bool). b || set n) t

-- the place of a literal of a clause
pub record Standing (xs : List ℕ) (l : ℕ) : Type 0 where
  pub place : ℕ
  pub inside : place < length xs
  pub is : get_or xs place 0 ≡ l

pub stands_at : (xs : List ℕ) (l : ℕ) → has_literal xs l ≡ true → Standing xs l
stands_at [] l h = absurd (let w : ⊥ = cc in w)
stands_at (x ∷ xs) l h = by (x == l) refl h (stands_at xs l)
  where
    by : (b : Bool) → (x == l) ≡ b → (b || has_literal xs l) ≡ true → (has_literal xs l ≡ true → Standing xs l) → Standing (x ∷ xs) l
    by true f e on = record { place = 0; inside = omega arith; is = grind (arith, nat_tests) }
    by false f e on = let s = on e in record { place = suc s.place; inside = omega (arith, s.inside); is = s.is }

-- no literal stands twice in a clause
rises : (x : ℕ) (xs : List ℕ) (p : ℕ) → IsRising (x ∷ xs) → p < length xs → x < get_or xs p 0
rises x [] p r h = absurd (omega (arith, h))
rises x (y ∷ xs) zero r h = r.0
rises x (y ∷ xs) (suc p) r h = let m = rises y xs p r.1 (omega (arith, h)) in omega (arith, m, r.0)

pub once : (xs : List ℕ) (p q : ℕ) → IsRising xs → p < length xs → q < length xs → get_or xs p 0 ≡ get_or xs q 0 → p ≡ q
once [] p q r h g e = absurd (omega (arith, h))
once (x ∷ xs) zero zero r h g e = refl
once (x ∷ xs) zero (suc q) r h g e = let m = rises x xs q r (omega (arith, g)) in absurd (omega (arith, m, e))
once (x ∷ xs) (suc p) zero r h g e = let m = rises x xs p r (omega (arith, h)) in absurd (omega (arith, m, e))
once (x ∷ xs) (suc p) (suc q) r h g e = ap suc (once xs p q (rising-tail x xs r) (omega (arith, h)) (omega (arith, g)) e)

-- a literal of a clause is its unit literal where all others are false
pub unit_beside : (trail xs : List ℕ) (l : ℕ) → IsClause xs → has_literal xs l ≡ true → AreFalseBut trail xs l → IsUnit (has_literal trail) xs l
unit_beside trail xs l lawful h none =
    let s = stands_at xs l h in
    record {
      place = s.place;
      inside = s.inside;
      own = s.is;
      others = λ p g ne. none p g (λ e. ne (once xs p s.place lawful.rising g s.inside (e ∙ sym s.is)));
    }

some_same : (a b : ℕ) → Some a ≡ Some b → a ≡ b
some_same a b e = cc

-- past the node at the place of a walk
ahead_of : (nd node : ℕ) (rest : List ℕ) (A : Type 0) → (node ≡ nd → ⊥) → (has (nd ∷ rest) node ≡ true) ⊎ A → (has rest node ≡ true) ⊎ A
ahead_of nd node rest A ne (inr a) = inr a
ahead_of nd node rest A ne (inl h) = inl (by (node == nd) refl h)
  where
    by : (b : Bool) → (node == nd) ≡ b → (b || has rest node) ≡ true → has rest node ≡ true
    by true f e = let t : node ≡ nd = grind (arith, nat_tests) in absurd (ne t)
    by false f e = e

-- the node stays, and its clause is settled
pub visited_stay : (cl : List (List ℕ)) (resume_at : List ℕ) (heads : List ℕ) (nodes : List Node) (codes : ℕ) (kept : List Bool) (on set set' : ℕ → Bool)
    (code nd : ℕ) (rest : List ℕ) (place next : Place) (v : IsVisiting cl resume_at heads nodes codes kept on set code (nd ∷ rest) place)
    → IsWalk heads nodes v.listed.on code rest next → Grows set set' → (IsNodeKept kept nd → IsSettled on set' (clause_at cl (nd / 2)) (nd / 2))
    → IsVisiting cl resume_at heads nodes codes kept on set' code rest next
visited_stay cl resume_at heads nodes codes kept on set set' code nd rest place next v walk grows own = record {
  listed = v.listed;
  walk = walk;
  settled = λ node e m. by node e m (node == nd) refl;
}
  where
    wider : (node : ℕ) → (has rest node ≡ true) ⊎ IsSettled on set (clause_at cl (node / 2)) (node / 2)
        → (has rest node ≡ true) ⊎ IsSettled on set' (clause_at cl (node / 2)) (node / 2)
    wider node (inl h) = inl h
    wider node (inr h) = inr (settled_grows on set set' (clause_at cl (node / 2)) (node / 2) grows h)

    by : (node : ℕ) → v.listed.on node ≡ Some code → IsNodeKept kept node → (b : Bool) → (node == nd) ≡ b
        → (has rest node ≡ true) ⊎ IsSettled on set' (clause_at cl (node / 2)) (node / 2)
    by node e m true f =
        let t : nd ≡ node = grind (arith, nat_tests) in
        inr (subst (λ (x : ℕ). IsSettled on set' (clause_at cl (x / 2)) (x / 2)) t (own (subst (λ (x : ℕ). IsNodeKept kept x) (sym t) m)))
    by node e m false f =
        let ne : node ≢ nd = grind (arith, nat_tests) in
        wider node (ahead_of nd node rest (IsSettled on set (clause_at cl (node / 2)) (node / 2)) ne (v.settled node e m))

none_some : (code : ℕ) → None ≡ Some code → ⊥
none_some code e = let w : ⊥ = cc in w

-- the node of a clause that is not kept is on no chain any more
pub visited_drop : (cl : List (List ℕ)) (resume_at : List ℕ) (heads heads' : List ℕ) (nodes nodes' : List Node) (codes : ℕ) (kept : List Bool) (on set : ℕ → Bool)
    (code nd : ℕ) (rest : List ℕ) (place next : Place) (v : IsVisiting cl resume_at heads nodes codes kept on set code (nd ∷ rest) place)
    → IsWalk heads' nodes' (placed nd None v.listed.on) code rest next → length heads' ≡ length heads → length nodes' ≡ length nodes
    → ((k : ℕ) → blocking_of nodes' k ≡ blocking_of nodes k) → get_or kept (nd / 2) false ≡ false
    → IsVisiting cl resume_at heads' nodes' codes kept on set code rest next
visited_drop cl resume_at heads heads' nodes nodes' codes kept on set code nd rest place next v walk lh ln same off = record {
  listed = record {
    on = placed nd None v.listed.on;
    linked = walk.linked;
    long = v.listed.long;
    codes = lh ∙ v.listed.codes;
    many = omega (arith, ln, v.listed.many);
    real = λ k l e. real_by k l (k == nd) e;
    there = λ k rk m. there_by k rk m (k == nd) refl;
    blockings = λ k rk. ap (λ (x : ℕ). has_literal (clause_at cl (k / 2)) x) (same k) ∙ v.listed.blockings k rk;
    apart = λ k rk e. v.listed.apart k rk (sym (same k) ∙ e ∙ same (opposite k));
  };
  walk = walk;
  settled = λ k e m. settled_by k m (k == nd) refl e;
}
  where
    real_by : (k l : ℕ) (b : Bool) → (if b then None else v.listed.on k) ≡ Some l → IsReal cl k
    real_by k l true e = absurd (none_some l e)
    real_by k l false e = v.listed.real k l e

    not_kept : (k : ℕ) → IsNodeKept kept k → k ≡ nd → ⊥
    not_kept k m t = let z : true ≡ false = sym m ∙ ap (λ (x : ℕ). get_or kept (x / 2) false) t ∙ off in let w : ⊥ = cc in w

    there_by : (k : ℕ) → IsReal cl k → IsNodeKept kept k → (b : Bool) → (k == nd) ≡ b → (if b then None else v.listed.on k) ≡ Some (literal_at nodes' k)
    there_by k rk m true f = let t : k ≡ nd = grind (arith, nat_tests) in absurd (not_kept k m t)
    there_by k rk m false f = v.listed.there k rk m ∙ ap (λ (x : ℕ). Some x) (sym (same (opposite k)))

    settled_by : (k : ℕ) → IsNodeKept kept k → (b : Bool) → (k == nd) ≡ b → (if b then None else v.listed.on k) ≡ Some code
        → (has rest k ≡ true) ⊎ IsSettled on set (clause_at cl (k / 2)) (k / 2)
    settled_by k m true f e = absurd (none_some code e)
    settled_by k m false f e =
        let ne : k ≢ nd = grind (arith, nat_tests) in ahead_of nd k rest (IsSettled on set (clause_at cl (k / 2)) (k / 2)) ne (v.settled k e m)

-- the node is on the chain of the literal that its clause watches from now on, which is the blocking literal of the other node
pub visited_move : (cl : List (List ℕ)) (resume_at resume_at' heads heads' : List ℕ) (nodes nodes' : List Node) (codes : ℕ) (kept : List Bool) (on set : ℕ → Bool)
    (code nd to : ℕ) (rest : List ℕ) (place next : Place) (v : IsVisiting cl resume_at heads nodes codes kept on set code (nd ∷ rest) place)
    → IsWalk heads' nodes' (placed nd (Some to) (placed nd None v.listed.on)) code rest next → length heads' ≡ length heads → length nodes' ≡ length nodes
    → length resume_at' ≡ length resume_at → blocking_of nodes' (opposite nd) ≡ to
    → ((k : ℕ) → (k ≡ opposite nd → ⊥) → blocking_of nodes' k ≡ blocking_of nodes k) → has_literal (clause_at cl (nd / 2)) to ≡ true
    → (to ≡ blocking_of nodes nd → ⊥) → (to ≡ code → ⊥) → IsVisiting cl resume_at' heads' nodes' codes kept on set code rest next
visited_move cl resume_at resume_at' heads heads' nodes nodes' codes kept on set code nd to rest place next v walk lh ln lf own others has_to beside other = record {
  listed = record {
    on = placed nd (Some to) (placed nd None v.listed.on);
    linked = walk.linked;
    long = omega (arith, lf, v.listed.long);
    codes = lh ∙ v.listed.codes;
    many = omega (arith, ln, v.listed.many);
    real = λ k l e. real_by k l (k == nd) refl e;
    there = λ k rk m. there_by k rk m (k == nd) refl;
    blockings = λ k rk. notes_by k rk (k == opposite nd) refl;
    apart = λ k rk e. apart_by k rk (k == nd) refl (k == opposite nd) refl e;
  };
  walk = walk;
  settled = λ k e m. settled_by k m (k == nd) refl e;
}
  where
    here : IsReal cl nd
    here = v.listed.real nd code v.walk.ahead.0

    stays : blocking_of nodes' nd ≡ blocking_of nodes nd
    stays = others nd (λ e. beside_apart nd (sym e))

    real_by : (k l : ℕ) (b : Bool) → (k == nd) ≡ b → (if b then Some to else if b then None else v.listed.on k) ≡ Some l → IsReal cl k
    real_by k l true f e = let t : nd ≡ k = grind (arith, nat_tests) in subst (λ (x : ℕ). IsReal cl x) t here
    real_by k l false f e = v.listed.real k l e

    there_by : (k : ℕ) → IsReal cl k → IsNodeKept kept k → (b : Bool) → (k == nd) ≡ b
        → (if b then Some to else if b then None else v.listed.on k) ≡ Some (literal_at nodes' k)
    there_by k rk m true f =
        let t : nd ≡ k = grind (arith, nat_tests) in ap (λ (x : ℕ). Some x) (sym own ∙ ap (λ (x : ℕ). literal_at nodes' x) t)
    there_by k rk m false f =
        let ne : k ≢ nd = grind (arith, nat_tests) in v.listed.there k rk m ∙ ap (λ (x : ℕ). Some x) (sym (others_stay nodes nodes' nd k others ne))

    notes_by : (k : ℕ) → IsReal cl k → (b : Bool) → (k == opposite nd) ≡ b → has_literal (clause_at cl (k / 2)) (blocking_of nodes' k) ≡ true
    notes_by k rk true f =
        let t : k ≡ opposite nd = equal_of k (opposite nd) f in
        ap (λ (x : ℕ). has_literal (clause_at cl x) (blocking_of nodes' k)) (ap (λ (x : ℕ). x / 2) t ∙ half_opposite nd)
        ∙ ap (λ (x : ℕ). has_literal (clause_at cl (nd / 2)) x) (ap (λ (x : ℕ). blocking_of nodes' x) t ∙ own) ∙ has_to
    notes_by k rk false f =
        ap (λ (x : ℕ). has_literal (clause_at cl (k / 2)) x) (others k (apart_of k (opposite nd) f)) ∙ v.listed.blockings k rk

    apart_by : (k : ℕ) → IsReal cl k → (a : Bool) → (k == nd) ≡ a → (b : Bool) → (k == opposite nd) ≡ b
        → blocking_of nodes' k ≡ blocking_of nodes' (opposite k) → ⊥
    apart_by k rk true f b g e =
        let t : k ≡ nd = equal_of k nd f in
        beside (sym own ∙ ap (λ (x : ℕ). blocking_of nodes' (opposite x)) (sym t) ∙ sym e ∙ ap (λ (x : ℕ). blocking_of nodes' x) t ∙ stays)
    apart_by k rk false f true g e =
        let t : k ≡ opposite nd = equal_of k (opposite nd) g in
        let back : opposite k ≡ nd = ap opposite t ∙ opposite_twice nd in
        beside (sym own ∙ ap (λ (x : ℕ). blocking_of nodes' x) (sym t) ∙ e ∙ ap (λ (x : ℕ). blocking_of nodes' x) back ∙ stays)
    apart_by k rk false f false g e =
        let ne = apart_of k nd f in
        v.listed.apart k rk (sym (others k (apart_of k (opposite nd) g)) ∙ e ∙ others (opposite k) (λ q. ne (one_beside k nd q)))

    settled_by : (k : ℕ) → IsNodeKept kept k → (b : Bool) → (k == nd) ≡ b → (if b then Some to else if b then None else v.listed.on k) ≡ Some code
        → (has rest k ≡ true) ⊎ IsSettled on set (clause_at cl (k / 2)) (k / 2)
    settled_by k m true f e = absurd (other (some_same to code e))
    settled_by k m false f e =
        let ne : k ≢ nd = grind (arith, nat_tests) in ahead_of nd k rest (IsSettled on set (clause_at cl (k / 2)) (k / 2)) ne (v.settled k e m)

-- a walk that is not at the end stands at a node
pub visited_node : (cl : List (List ℕ)) (resume_at : List ℕ) (heads : List ℕ) (nodes : List Node) (codes : ℕ) (kept : List Bool) (on set : ℕ → Bool)
    (code : ℕ) (rest : List ℕ) (place : Place) → IsVisiting cl resume_at heads nodes codes kept on set code rest place → (place.node ≡ 4294967295 → ⊥)
    → (more : List ℕ) × IsVisiting cl resume_at heads nodes codes kept on set code (place.node ∷ more) place
visited_node cl resume_at heads nodes codes kept on set code [] place v ne = absurd (ne v.walk.node)
visited_node cl resume_at heads nodes codes kept on set code (x ∷ more) place v ne =
    (more, subst (λ (y : ℕ). IsVisiting cl resume_at heads nodes codes kept on set code (y ∷ more) place) (sym v.walk.node) v)

-- a walk that is at the end has nothing ahead
pub visited_end : (cl : List (List ℕ)) (resume_at : List ℕ) (heads : List ℕ) (nodes : List Node) (codes : ℕ) (kept : List Bool) (on set : ℕ → Bool)
    (code : ℕ) (rest : List ℕ) (place : Place) → IsVisiting cl resume_at heads nodes codes kept on set code rest place → place.node ≡ 4294967295
    → IsVisiting cl resume_at heads nodes codes kept on set code [] place
visited_end cl resume_at heads nodes codes kept on set code [] place v e = v
visited_end cl resume_at heads nodes codes kept on set code (x ∷ more) place v e =
    let real = v.listed.real x code v.walk.ahead.0 in absurd (omega (arith, e, v.walk.node, real.below, v.listed.many, v.walk.linked.few))

-- at the end of the chain all clauses are settled that watch its literal
pub all_settled : (cl : List (List ℕ)) (resume_at : List ℕ) (heads : List ℕ) (nodes : List Node) (codes : ℕ) (kept : List Bool) (on set : ℕ → Bool)
    (code : ℕ) (place : Place) → IsVisiting cl resume_at heads nodes codes kept on set code [] place → AllSettled cl nodes on set code kept
all_settled cl resume_at heads nodes codes kept on set code place v k rk m e = by (v.settled k (v.listed.there k rk m ∙ ap (λ (x : ℕ). Some x) e) m)
  where
    by : (has [] k ≡ true) ⊎ IsSettled on set (clause_at cl (k / 2)) (k / 2) → IsSettled on set (clause_at cl (k / 2)) (k / 2)
    by (inl h) = absurd (let w : ⊥ = cc in w)
    by (inr h) = h

pub moves_on : (cl : List (List ℕ)) (a b c : List Node) (on : ℕ → Bool) → MovesToFree cl a b on → MovesToFree cl b c on → MovesToFree cl a c on
moves_on cl a b c on f g k rk = by (f k rk) (g k rk)
  where
    by : (literal_at b k ≡ literal_at a k) ⊎ (is_free on (literal_at b k) ≡ true)
        → (literal_at c k ≡ literal_at b k) ⊎ (is_free on (literal_at c k) ≡ true)
        → (literal_at c k ≡ literal_at a k) ⊎ (is_free on (literal_at c k) ≡ true)
    by (inl p) (inl q) = inl (q ∙ p)
    by (inr p) (inl q) = inr (ap (λ (x : ℕ). is_free on x) q ∙ p)
    by p (inr q) = inr q

even_beside : (c : ℕ) → opposite (2 * c) ≡ 2 * c + 1
even_beside c = let e : 2 * c % 2 ≡ 0 = omega arith in let g : (2 * c % 2 == 0) ≡ true = grind (arith, nat_tests) in ap (λ (b : Bool). if b then 2 * c + 1 else 2 * c - 1) g

-- the two literals that a clause watches stand at two of its places
pub two_watched : (cl : List (List ℕ)) (resume_at heads : List ℕ) (nodes : List Node) (codes : ℕ) (kept : List Bool) → IsAtRest cl resume_at heads nodes codes kept
    → AreTwoWatched cl nodes
two_watched cl resume_at heads nodes codes kept r c below long = record {
  first = one.place;
  second = other.place;
  first_in = one.inside;
  second_in = other.inside;
  apart = λ e. r.apart (2 * c) (real (2 * c) (omega arith)) (
      ap (λ (x : ℕ). blocking_of nodes x) (sym back) ∙ sym other.is ∙ ap (λ (p : ℕ). get_or (clause_at cl c) p 0) (sym e) ∙ one.is);
  first_is = one.is;
  second_is = other.is;
}
  where
    back : opposite (2 * c + 1) ≡ 2 * c
    back = ap opposite (sym (even_beside c)) ∙ opposite_twice (2 * c)

    real : (node : ℕ) → node / 2 ≡ c → IsReal cl node
    real node h = record { below = omega (arith, h, below); long = subst (λ (x : ℕ). 2 ≤ length (clause_at cl x)) (sym h) long }

    stands : (node : ℕ) → node / 2 ≡ c → Standing (clause_at cl c) (literal_at nodes node)
    stands node h =
        let half : opposite node / 2 ≡ c = half_opposite node ∙ h in
        stands_at (clause_at cl c) (literal_at nodes node)
        (ap (λ (x : ℕ). has_literal (clause_at cl x) (literal_at nodes node)) (sym half) ∙ r.blockings (opposite node) (real (opposite node) half))

    one : Standing (clause_at cl c) (literal_at nodes (2 * c))
    one = stands (2 * c) (omega arith)

    other : Standing (clause_at cl c) (literal_at nodes (2 * c + 1))
    other = stands (2 * c + 1) (omega arith)
