use Rattle.std.proofs.Common.{arith, ◌≡◌, ◌≢◌, ◌==◌, ℕ, ◌<◌, ◌≤◌, List, [], ◌∷◌, ◌++◌, length, set, get_or, Bool, true, false, ◌||◌}
use Rattle.std.proofs.Common.{refl, sym, ap, ◌∙◌, subst, if◌then◌else◌, Option, Some, None, length-set, get_or-set_same, get_or-set_other, length-append}
use Rattle.std.proofs.lemmas.Bool.Decides.{nat_tests}
use Rattle.std.proofs.lemmas.List.{append_assoc, get_or_read}
use Rattle.cdcl_tables.specs.declared.chains.Node.{Node}
use Rattle.cdcl_tables.specs.declared.chains.Place.{Place}
use Rattle.cdcl_tables.specs.Linked.{no_node, next_of, has, IsChain, HasNoneTwice, IsLinked, placed}
use Rattle.cdcl_tables.specs.Walk.{first_of, last_from, AreOn, steps, left_from, IsWalk, StandsAt}
use Rattle.cdcl_tables.proofs.Linking.{or_false, or_right, chain-set, chain_short, steps_is, has_not, chosen, with_chain, linked_link}

-- a chain from a number on is known by the nodes
chain_same : (nodes : List Node) (a : ℕ) (xs ys : List ℕ) → length nodes ≤ 4294967295 → IsChain nodes a xs → IsChain nodes a ys → xs ≡ ys
chain_same nodes a [] [] few h g = refl
chain_same nodes a [] (y ∷ ys) few h g = absurd (omega (arith, h, g.0, g.1, few))
chain_same nodes a (x ∷ xs) [] few h g = absurd (omega (arith, g, h.0, h.1, few))
chain_same nodes a (x ∷ xs) (y ∷ ys) few h g =
    let e : x ≡ y = sym h.0 ∙ g.0 in
    let r = chain_same nodes (next_of nodes x) xs ys few h.2 (subst (λ (z : ℕ). IsChain nodes (next_of nodes z) ys) (sym e) g.2) in
    ap (λ (z : ℕ). z ∷ xs) e ∙ ap (λ (zs : List ℕ). y ∷ zs) r

chain_head : (nodes : List Node) (a : ℕ) (xs : List ℕ) → IsChain nodes a xs → a ≡ first_of xs
chain_head nodes a [] h = h
chain_head nodes a (x ∷ xs) h = h.0

chain_part : (nodes : List Node) (a : ℕ) (done rest : List ℕ) → IsChain nodes a (done ++ rest) → IsChain nodes (first_of rest) rest
chain_part nodes a [] rest h = subst (λ (y : ℕ). IsChain nodes y rest) (chain_head nodes a rest h) h
chain_part nodes a (x ∷ done) rest h = chain_part nodes (next_of nodes x) done rest h.2

has_after : (done rest : List ℕ) (k : ℕ) → has rest k ≡ true → has (done ++ rest) k ≡ true
has_after [] rest k h = h
has_after (x ∷ done) rest k h = or_right (k == x) (has (done ++ rest) k) (has_after done rest k h)

all_on : (on : ℕ → Option ℕ) (code : ℕ) (xs : List ℕ) → ((k : ℕ) → has xs k ≡ true → on k ≡ Some code) → AreOn on code xs
all_on on code [] h = tt
all_on on code (x ∷ xs) h =
    let t : (x == x) ≡ true = grind (arith, nat_tests) in
    (h x (ap (λ (b : Bool). b || has xs x) t), all_on on code xs (λ k e. h k (or_right (k == x) (has xs k) e)))

pub walk_of : (heads : List ℕ) (nodes : List Node) (on : ℕ → Option ℕ) (code : ℕ) (done rest : List ℕ) (place : Place) → IsLinked heads nodes on
    → code < length heads → IsChain nodes (get_or heads code 0) (done ++ rest) → place.before ≡ last_from 4294967295 done → place.node ≡ first_of rest
    → IsWalk heads nodes on code rest place
unfolding left_from
walk_of heads nodes on code done rest place m h c b n =
    let q : m.chain code ≡ done ++ rest = chain_same nodes (get_or heads code 0) (m.chain code) (done ++ rest) m.few (m.linked code h) c in
    let once : HasNoneTwice (done ++ rest) = subst HasNoneTwice q (m.once code h) in
    let part = chain_part nodes (get_or heads code 0) done rest c in
    let short = chain_short nodes (get_or heads code 0) (done ++ rest) c once in
    let few : length rest ≤ length nodes = omega (arith, short, length-append done rest) in
    let left = ap (λ (y : ℕ). steps nodes (length nodes) y) n ∙ steps_is nodes (length nodes) (first_of rest) rest m.few part few in
    let ahead = all_on on code rest (λ k e. m.only code k h (ap (λ (xs : List ℕ). has xs k) q ∙ has_after done rest k e)) in
    search (left, ahead)

pub walk_first : (heads : List ℕ) (nodes : List Node) (on : ℕ → Option ℕ) (code : ℕ) (place : Place) → code < length heads → place.before ≡ 4294967295
    → place.node ≡ get_or heads code 0 → IsLinked heads nodes on → StandsAt heads nodes on code place
walk_first heads nodes on code place h b n m = record {
  rest = m.chain code;
  walk = walk_of heads nodes on code [] (m.chain code) place m h (m.linked code h) b (n ∙ chain_head nodes (get_or heads code 0) (m.chain code) (m.linked code h));
  whole = λ k e. (m.whole code k e).1;
}

last_snoc : (a : ℕ) (done : List ℕ) (x : ℕ) → last_from a (done ++ x ∷ []) ≡ x
last_snoc a [] x = refl
last_snoc a (y ∷ done) x = last_snoc y done x

pub walk_after : (heads : List ℕ) (nodes : List Node) (on : ℕ → Option ℕ) (code x : ℕ) (rest : List ℕ) (place next : Place) → next.before ≡ x
    → next.node ≡ next_of nodes x → IsWalk heads nodes on code (x ∷ rest) place → IsWalk heads nodes on code rest next
walk_after heads nodes on code x rest place next b n w =
    let part = chain_part nodes (get_or heads code 0) w.done (x ∷ rest) w.chain in
    walk_of heads nodes on code (w.done ++ x ∷ []) rest next w.linked w.inside
    (subst (λ (xs : List ℕ). IsChain nodes (get_or heads code 0) xs) (sym (append_assoc w.done (x ∷ []) rest)) w.chain)
    (b ∙ sym (last_snoc 4294967295 w.done x)) (n ∙ chain_head nodes (next_of nodes x) rest part.2)

or_swap : (a b c : Bool) → (a || (b || c)) ≡ (b || (a || c))
or_swap true true c = refl
or_swap true false c = refl
or_swap false b c = refl

has_middle : (done rest : List ℕ) (x k : ℕ) → has (done ++ x ∷ rest) k ≡ (k == x || has (done ++ rest) k)
has_middle [] rest x k = refl
has_middle (y ∷ done) rest x k = ap (λ (b : Bool). (k == y) || b) (has_middle done rest x k) ∙ or_swap (k == y) (k == x) (has (done ++ rest) k)

once_without : (done rest : List ℕ) (x : ℕ) → HasNoneTwice (done ++ x ∷ rest) → HasNoneTwice (done ++ rest) × (has (done ++ rest) x ≡ false)
once_without [] rest x h = (h.1, h.0)
once_without (y ∷ done) rest x h =
    let r = once_without done rest x h.1 in
    let o = or_false (y == x) (has (done ++ rest) y) (sym (has_middle done rest x y) ∙ h.0) in
    let ne : (x == y) ≡ false = (let d : y ≢ x = grind (arith, nat_tests) in grind (arith, nat_tests)) in
    ((o.1, r.0), ap (λ (b : Bool). b || has (done ++ rest) x) ne ∙ r.1)

-- the chains without a node of one of them
pub linked_without : (heads heads' : List ℕ) (nodes nodes' : List Node) (on : ℕ → Option ℕ) (code nd : ℕ) (done rest : List ℕ) (m : IsLinked heads nodes on)
    → code < length heads → m.chain code ≡ done ++ nd ∷ rest → length heads' ≡ length heads → length nodes' ≡ length nodes
    → IsChain nodes' (get_or heads' code 0) (done ++ rest)
    → ((i : ℕ) → i < length heads → i ≢ code → IsChain nodes' (get_or heads' i 0) (m.chain i))
    → IsLinked heads' nodes' (placed nd None on)
linked_without heads heads' nodes nodes' on code nd done rest m h q lh ln own others =
    let o = once_without done rest nd (subst HasNoneTwice q (m.once code h)) in
    record {
      chain = with_chain code (done ++ rest) m.chain;
      linked = λ i b. chosen (λ ys. IsChain nodes' (get_or heads' i 0) ys) (i == code) (done ++ rest) (m.chain i)
          (λ f. let g : code ≡ i = grind (arith, nat_tests) in subst (λ (j : ℕ). IsChain nodes' (get_or heads' j 0) (done ++ rest)) g own)
          (λ f. let g : i ≢ code = grind (arith, nat_tests) in others i (omega (arith, b, lh)) g);
      once = λ i b. chosen HasNoneTwice (i == code) (done ++ rest) (m.chain i) (λ f. o.0) (λ f. m.once i (omega (arith, b, lh)));
      only = λ i j b g. only_by o.1 i j (omega (arith, b, lh)) (i == code) refl (j == nd) refl g;
      whole = λ i j g. whole_by i j (j == nd) refl g;
      few = omega (arith, m.few, ln);
    }
  where
    on_nd : on nd ≡ Some code
    on_nd =
        let t : (nd == nd) ≡ true = grind (arith, nat_tests) in
        m.only code nd h (ap (λ (xs : List ℕ). has xs nd) q ∙ has_middle done rest nd nd ∙ ap (λ (b : Bool). b || has (done ++ rest) nd) t)

    only_by : has (done ++ rest) nd ≡ false → (i j : ℕ) → i < length heads → (p : Bool) → (i == code) ≡ p → (r : Bool) → (j == nd) ≡ r
        → has (if p then done ++ rest else m.chain i) j ≡ true → (if r then None else on j) ≡ Some i
    only_by o i j b true f true g e =
        let u : j ≡ nd = grind (arith, nat_tests) in
        let z : true ≡ false = sym e ∙ ap (has (done ++ rest)) u ∙ o in absurd (let w : ⊥ = cc in w)
    only_by o i j b true f false g e =
        let u : code ≡ i = grind (arith, nat_tests) in
        m.only code j h (ap (λ (xs : List ℕ). has xs j) q ∙ has_middle done rest nd j ∙ or_right (j == nd) (has (done ++ rest) j) e) ∙ ap (λ (y : ℕ). Some y) u
    only_by o i j b false f true g e =
        let u : nd ≡ j = grind (arith, nat_tests) in
        let v : i ≢ code = grind (arith, nat_tests) in
        let z : Some code ≡ Some i = sym on_nd ∙ ap on u ∙ m.only i j b e in
        let y : code ≡ i = cc in absurd (v (sym y))
    only_by o i j b false f false g e = m.only i j b e

    whole_by : (i j : ℕ) → (r : Bool) → (j == nd) ≡ r → (if r then None else on j) ≡ Some i
        → (i < length heads') × (has (with_chain code (done ++ rest) m.chain i) j ≡ true)
    whole_by i j true g e = absurd (let w : ⊥ = cc in w)
    whole_by i j false g e =
        let w = m.whole i j e in (
          omega (arith, w.0, lh),
          chosen (λ ys. has ys j ≡ true) (i == code) (done ++ rest) (m.chain i)
              (λ f. let u : code ≡ i = grind (arith, nat_tests) in
              ap (λ (b : Bool). b || has (done ++ rest) j) (sym g) ∙ sym (has_middle done rest nd j) ∙ ap (λ (xs : List ℕ). has xs j) (sym q)
              ∙ ap (λ (y : ℕ). has (m.chain y) j) u ∙ w.1)
              (λ f. w.1),
        )

last_in : (x : ℕ) (xs zs : List ℕ) → has (x ∷ (xs ++ zs)) (last_from x xs) ≡ true
last_in x [] zs = let t : (x == x) ≡ true = grind (arith, nat_tests) in ap (λ (b : Bool). b || has zs x) t
last_in x (y ∷ ys) zs = or_right (last_from y ys == x) (has (y ∷ (ys ++ zs)) (last_from y ys)) (last_in y ys zs)

-- a chain without one of its nodes, of which the one before it knows the one after it
chain_skip : (nodes : List Node) (a x : ℕ) (xs rest : List ℕ) (n : ℕ) (v : Node) → IsChain nodes a (x ∷ (xs ++ n ∷ rest)) → HasNoneTwice (x ∷ (xs ++ n ∷ rest))
    → v.next ≡ next_of nodes n → IsChain (set nodes (last_from x xs) v) a (x ∷ (xs ++ rest))
chain_skip nodes a x [] rest n v h o e =
    let own : get_or (set nodes x v) x no_node ≡ v = get_or-set_same nodes x v no_node h.1 in
    let out = or_false (x == n) (has rest x) o.0 in
    let c = chain-set nodes x v (next_of nodes n) rest h.2.2 out.1 in
    (h.0, omega (arith, h.1, length-set nodes x v), subst (λ (y : ℕ). IsChain (set nodes x v) y rest) (sym (ap (λ (y : Node). y.next) own ∙ e)) c)
chain_skip nodes a x (y ∷ ys) rest n v h o e =
    let l = last_from y ys in
    let ne : x ≢ l = (λ (t : x ≡ l). let z : true ≡ false = sym (last_in y ys (n ∷ rest)) ∙ ap (has (y ∷ (ys ++ n ∷ rest))) (sym t) ∙ o.0 in let w : ⊥ = cc in w) in
    let same : get_or (set nodes l v) x no_node ≡ get_or nodes x no_node = get_or-set_other nodes l x v no_node ne in
    let c = chain_skip nodes (next_of nodes x) y ys rest n v h.2 o.1 e in (
      h.0,
      omega (arith, h.1, length-set nodes l v),
      subst (λ (z : ℕ). IsChain (set nodes l v) z (y ∷ (ys ++ rest))) (ap (λ (z : Node). z.next) (sym same)) c,
    )

-- a node at the place of a walk is one of the nodes
pub walk_below : (heads : List ℕ) (nodes : List Node) (on : ℕ → Option ℕ) (code x : ℕ) (rest : List ℕ) (place : Place)
    → IsWalk heads nodes on code (x ∷ rest) place → x < length nodes
walk_below heads nodes on code x rest place w = (chain_part nodes (get_or heads code 0) w.done (x ∷ rest) w.chain).1

last_below : (nodes : List Node) (a x : ℕ) (xs zs : List ℕ) → IsChain nodes a (x ∷ (xs ++ zs)) → last_from x xs < length nodes
last_below nodes a x [] zs h = h.1
last_below nodes a x (y ∷ ys) zs h = last_below nodes (next_of nodes x) y ys zs h.2

-- and so is the one before it, if there is one
pub before_below : (heads : List ℕ) (nodes : List Node) (on : ℕ → Option ℕ) (code : ℕ) (rest : List ℕ) (place : Place) → IsWalk heads nodes on code rest place
    → (place.before ≡ 4294967295 → ⊥) → place.before < length nodes
before_below heads nodes on code rest place w ne = by w.done w.chain w.before
  where
    by : (done : List ℕ) → IsChain nodes (get_or heads code 0) (done ++ rest) → place.before ≡ last_from 4294967295 done → place.before < length nodes
    by [] c b = absurd (ne b)
    by (y ∷ ys) c b = omega (arith, b, last_below nodes (get_or heads code 0) y ys rest c)

-- the first node of a chain is taken out
pub walk_drop_first : (heads : List ℕ) (nodes : List Node) (on : ℕ → Option ℕ) (code x : ℕ) (rest : List ℕ) (place next : Place)
    → IsWalk heads nodes on code (x ∷ rest) place → place.before ≡ 4294967295 → next.before ≡ 4294967295 → next.node ≡ next_of nodes x
    → IsWalk (set heads code next.node) nodes (placed x None on) code rest next
walk_drop_first heads nodes on code x rest place next w first b n = by w.done w.chain w.before
  where
    by : (done : List ℕ) → IsChain nodes (get_or heads code 0) (done ++ x ∷ rest) → place.before ≡ last_from 4294967295 done
        → IsWalk (set heads code next.node) nodes (placed x None on) code rest next
    by (y ∷ ys) c e = absurd (omega (arith, e, first, last_below nodes (get_or heads code 0) y ys (x ∷ rest) c, w.linked.few))
    by [] c e =
        let heads' = set heads code next.node in
        let q : w.linked.chain code ≡ x ∷ rest = chain_same nodes (get_or heads code 0) (w.linked.chain code) (x ∷ rest) w.linked.few (w.linked.linked code w.inside) c in
        let h : get_or heads' code 0 ≡ next_of nodes x = get_or-set_same heads code next.node 0 w.inside ∙ n in
        let own : IsChain nodes (get_or heads' code 0) rest = subst (λ (y : ℕ). IsChain nodes y rest) (sym h) c.2 in
        let m = linked_without heads heads' nodes nodes on code x [] rest w.linked w.inside q (length-set heads code next.node) refl own
        (λ i l ne. subst (λ (y : ℕ). IsChain nodes y (w.linked.chain i)) (sym (get_or-set_other heads code i next.node 0 ne)) (w.linked.linked i l)) in
        walk_of heads' nodes (placed x None on) code [] rest next m (omega (arith, w.inside, length-set heads code next.node)) own b (n ∙ chain_head nodes (next_of nodes x) rest c.2)

-- another node is taken out, of which the one before it knows the one after it from now on
pub walk_drop : (heads : List ℕ) (nodes : List Node) (on : ℕ → Option ℕ) (code x : ℕ) (v : Node) (rest : List ℕ) (place next : Place)
    → IsWalk heads nodes on code (x ∷ rest) place → (place.before ≡ 4294967295 → ⊥) → next.before ≡ place.before → next.node ≡ next_of nodes x
    → v.next ≡ next_of nodes x → IsWalk heads (set nodes place.before v) (placed x None on) code rest next
walk_drop heads nodes on code x v rest place next w more b n vn = by w.done w.chain w.before
  where
    by : (done : List ℕ) → IsChain nodes (get_or heads code 0) (done ++ x ∷ rest) → place.before ≡ last_from 4294967295 done
        → IsWalk heads (set nodes place.before v) (placed x None on) code rest next
    by [] c e = absurd (more e)
    by (y ∷ ys) c e =
        let nodes' = set nodes place.before v in
        let ln = length-set nodes place.before v in
        let q : w.linked.chain code ≡ y ∷ (ys ++ x ∷ rest) = chain_same nodes (get_or heads code 0) (w.linked.chain code) (y ∷ (ys ++ x ∷ rest))
        w.linked.few (w.linked.linked code w.inside) c in
        let once : HasNoneTwice (y ∷ (ys ++ x ∷ rest)) = subst HasNoneTwice q (w.linked.once code w.inside) in
        let own : IsChain nodes' (get_or heads code 0) (y ∷ (ys ++ rest)) = subst (λ (z : ℕ). IsChain (set nodes z v) (get_or heads code 0) (y ∷ (ys ++ rest))) (sym e)
        (chain_skip nodes (get_or heads code 0) y ys rest x v c once vn) in
        let on_before : on place.before ≡ Some code = w.linked.only code place.before w.inside
        (ap (λ (xs : List ℕ). has xs place.before) q ∙ ap (λ (z : ℕ). has (y ∷ (ys ++ x ∷ rest)) z) e ∙ last_in y ys (x ∷ rest)) in
        let m = linked_without heads heads nodes nodes' on code x (y ∷ ys) rest w.linked w.inside q refl ln own
        (λ i l ne. chain-set nodes place.before v (get_or heads i 0) (w.linked.chain i) (w.linked.linked i l) (elsewhere on_before i l ne (has (w.linked.chain i) place.before) refl)) in
        walk_of heads nodes' (placed x None on) code (y ∷ ys) rest next m w.inside own (b ∙ e)
        (n ∙ chain_head nodes (next_of nodes x) rest (chain_part nodes (get_or heads code 0) (y ∷ ys) (x ∷ rest) c).2)
      where
        elsewhere : on place.before ≡ Some code → (i : ℕ) → i < length heads → (i ≡ code → ⊥) → (t : Bool) → has (w.linked.chain i) place.before ≡ t
            → has (w.linked.chain i) place.before ≡ false
        elsewhere o i l ne true f = let z : Some code ≡ Some i = sym o ∙ w.linked.only i place.before l f in let u : i ≡ code = cc in absurd (ne u)
        elsewhere o i l ne false f = f

-- a walk along another chain than the one that a node is put on
pub walk_link : (heads : List ℕ) (nodes : List Node) (on : ℕ → Option ℕ) (nd l : ℕ) (v : Node) (i : ℕ) (rest : List ℕ) (place : Place) → l < length heads
    → nd < length nodes → on nd ≡ None → v.next ≡ get_or heads l 0 → (i ≡ l → ⊥) → IsWalk heads nodes on i rest place
    → IsWalk (set heads l nd) (set nodes nd v) (placed nd (Some l) on) i rest place
walk_link heads nodes on nd l v i rest place h k o n ne w =
    let q : w.linked.chain i ≡ w.done ++ rest = chain_same nodes (get_or heads i 0) (w.linked.chain i) (w.done ++ rest) w.linked.few (w.linked.linked i w.inside) w.chain in
    let off : has (w.done ++ rest) nd ≡ false = ap (λ (xs : List ℕ). has xs nd) (sym q) ∙ has_not heads nodes on w.linked nd i o w.inside in
    let c = chain-set nodes nd v (get_or heads i 0) (w.done ++ rest) w.chain off in
    walk_of (set heads l nd) (set nodes nd v) (placed nd (Some l) on) i w.done rest place (linked_link heads nodes on nd l v h k o n w.linked)
    (omega (arith, w.inside, length-set heads l nd))
    (subst (λ (y : ℕ). IsChain (set nodes nd v) y (w.done ++ rest)) (sym (get_or-set_other heads l i nd 0 ne)) c) w.before w.node

-- a node is written that has the same one after it
next_same : (nodes : List Node) (nd : ℕ) (v : Node) → nd < length nodes → v.next ≡ next_of nodes nd → (k : ℕ) → next_of (set nodes nd v) k ≡ next_of nodes k
next_same nodes nd v h e k = by (k == nd) refl
  where
    by : (b : Bool) → (k == nd) ≡ b → next_of (set nodes nd v) k ≡ next_of nodes k
    by true f =
        let t : k ≡ nd = grind (arith, nat_tests) in
        ap (next_of (set nodes nd v)) t ∙ ap (λ (y : Node). y.next) (get_or-set_same nodes nd v no_node h) ∙ e ∙ ap (next_of nodes) (sym t)
    by false f = let t : k ≢ nd = grind (arith, nat_tests) in ap (λ (y : Node). y.next) (get_or-set_other nodes nd k v no_node t)

chain_note : (nodes : List Node) (nd : ℕ) (v : Node) → nd < length nodes → v.next ≡ next_of nodes nd → (a : ℕ) (xs : List ℕ) → IsChain nodes a xs
    → IsChain (set nodes nd v) a xs
chain_note nodes nd v h e a [] c = c
chain_note nodes nd v h e a (x ∷ xs) c =
    (c.0, omega (arith, c.1, length-set nodes nd v), subst (λ (y : ℕ). IsChain (set nodes nd v) y xs) (sym (next_same nodes nd v h e x)) (chain_note nodes nd v h e (next_of nodes x) xs c.2))

pub linked_note : (heads : List ℕ) (nodes : List Node) (on : ℕ → Option ℕ) (nd : ℕ) (v : Node) → nd < length nodes → v.next ≡ next_of nodes nd
    → IsLinked heads nodes on → IsLinked heads (set nodes nd v) on
linked_note heads nodes on nd v h e m = record {
  chain = m.chain;
  linked = λ l b. chain_note nodes nd v h e (get_or heads l 0) (m.chain l) (m.linked l b);
  once = m.once;
  only = m.only;
  whole = m.whole;
  few = omega (arith, m.few, length-set nodes nd v);
}

pub walk_note : (heads : List ℕ) (nodes : List Node) (on : ℕ → Option ℕ) (nd : ℕ) (v : Node) (code : ℕ) (rest : List ℕ) (place : Place) → nd < length nodes
    → v.next ≡ next_of nodes nd → IsWalk heads nodes on code rest place → IsWalk heads (set nodes nd v) on code rest place
walk_note heads nodes on nd v code rest place h e w =
    walk_of heads (set nodes nd v) on code w.done rest place (linked_note heads nodes on nd v h e w.linked) w.inside
    (chain_note nodes nd v h e (get_or heads code 0) (w.done ++ rest) w.chain) w.before w.node

pub placed_none : (nd : ℕ) (on : ℕ → Option ℕ) → placed nd None on nd ≡ None
placed_none nd on = let t : (nd == nd) ≡ true = grind (arith, nat_tests) in ap (λ (b : Bool). if b then None else on nd) t

-- a node as it was read
pub next_read : (nodes : List Node) (nd : ℕ) (v : Node) → nd < length nodes → v ≡ get_or nodes nd v → v.next ≡ next_of nodes nd
next_read nodes nd v h e = ap (λ (y : Node). y.next) (get_or_read nodes nd v h e no_node)
