use Rattle.std.proofs.Common.{arith, ◌≡◌, ◌≢◌, ◌==◌, eqb, ℕ, zero, suc, ◌<◌, ◌≤◌, List, [], ◌∷◌, length, set, get_or, Bool, true, false, ◌||◌, refl}
use Rattle.std.proofs.Common.{sym, ap, ◌∙◌, subst, if◌then◌else◌, Option, Some, None, length-set, get_or-set_same, get_or-set_other, ◌++◌}
use Rattle.std.proofs.Common.{length-append}
use Rattle.std.specs.List.{AllByRecursion, IsDistinct}
use Rattle.std.proofs.lemmas.Bool.Decides.{nat_tests}
use Rattle.std.proofs.lemmas.Map.Keys.{IsDistinct-cons}
use Rattle.std.proofs.lemmas.Map.Steps.{length-le_from_distinct_below}
use Rattle.cdcl_tables.specs.declared.chains.Node.{Node}
use Rattle.std.proofs.lemmas.List.{get_or_append_left}
use Rattle.cdcl_tables.specs.Linked.{no_node, next_of, has, IsChain, HasNoneTwice, IsLinked, placed}
use Rattle.cdcl_tables.specs.Walk.{steps}

pub or_false : (a b : Bool) → (a || b) ≡ false → (a ≡ false) × (b ≡ false)
or_false true b h = cc
or_false false b h = (refl, h)

pub or_right : (a b : Bool) → b ≡ true → (a || b) ≡ true
or_right true b h = refl
or_right false b h = h

-- a write to a node beside a chain
pub chain-set : (nodes : List Node) (nd : ℕ) (v : Node) (a : ℕ) (xs : List ℕ) → IsChain nodes a xs → has xs nd ≡ false → IsChain (set nodes nd v) a xs
chain-set nodes nd v a [] h e = h
chain-set nodes nd v a (x ∷ xs) h e =
    let o = or_false (nd == x) (has xs nd) e in
    let ne : x ≢ nd = grind (arith, nat_tests) in
    let n : get_or (set nodes nd v) x no_node ≡ get_or nodes x no_node = get_or-set_other nodes nd x v no_node ne in
    (h.0, omega (arith, h.1, length-set nodes nd v), subst (λ (y : ℕ). IsChain (set nodes nd v) y xs) (ap (λ (y : Node). y.next) (sym n)) (chain-set nodes nd v (next_of nodes x) xs h.2 o.1))

distinct_nil : IsDistinct eqb []
unfolding IsDistinct
distinct_nil = tt

once_distinct : (xs : List ℕ) → HasNoneTwice xs → IsDistinct eqb xs
once_distinct [] h = distinct_nil
once_distinct (x ∷ xs) h = IsDistinct-cons eqb x xs (apart xs h.0) (once_distinct xs h.1)
  where
    apart : (ys : List ℕ) → has ys x ≡ false → AllByRecursion (λ y. eqb x y ≡ false) ys
    apart [] e = tt
    apart (y ∷ ys) e = let o = or_false (x == y) (has ys x) e in (o.0, apart ys o.1)

chain_below : (nodes : List Node) (a : ℕ) (xs : List ℕ) → IsChain nodes a xs → (q : ℕ) → has xs q ≡ true → q < length nodes
chain_below nodes a [] h q e = cc
chain_below nodes a (x ∷ xs) h q e = by (q == x) refl (chain_below nodes (next_of nodes x) xs h.2 q)
  where
    by : (b : Bool) → (q == x) ≡ b → (has xs q ≡ true → q < length nodes) → q < length nodes
    by true f on = let t : q ≡ x = grind (arith, nat_tests) in omega (arith, h.1, t)
    by false f on = on (ap (λ (b : Bool). b || has xs q) (sym f) ∙ e)

-- a chain is no longer than there are nodes
pub chain_short : (nodes : List Node) (a : ℕ) (xs : List ℕ) → IsChain nodes a xs → HasNoneTwice xs → length xs ≤ length nodes
chain_short nodes a xs h o = length-le_from_distinct_below xs (length nodes) (once_distinct xs o) (chain_below nodes a xs h)

pub steps_is : (nodes : List Node) (n a : ℕ) (xs : List ℕ) → length nodes ≤ 4294967295 → IsChain nodes a xs → length xs ≤ n → steps nodes n a ≡ length xs
steps_is nodes zero a [] f h l = refl
steps_is nodes (suc n) a [] f h l = let e : (a == 4294967295) ≡ true = grind (arith, nat_tests) in rw e
steps_is nodes zero a (x ∷ xs) f h l = absurd (omega arith)
steps_is nodes (suc n) a (x ∷ xs) f h l =
    let ne : a ≢ 4294967295 = omega (arith, h.0, h.1, f) in
    let e : (a == 4294967295) ≡ false = grind (arith, nat_tests) in
    let k = steps_is nodes n (next_of nodes x) xs f h.2 (omega arith) in
    let m : steps nodes n (next_of nodes a) ≡ length xs = ap (λ (y : ℕ). steps nodes n (next_of nodes y)) h.0 ∙ k in
    rw e (ap (λ (y : ℕ). suc y) m)

abbrev pub with_chain : ℕ → List ℕ → (ℕ → List ℕ) → ℕ → List ℕ
with_chain l xs f k = if k == l then xs else f k

-- what holds of a chosen list holds of both
pub chosen : (P : List ℕ → Type 0) (b : Bool) (xs ys : List ℕ) → (b ≡ true → P xs) → (b ≡ false → P ys) → P (if b then xs else ys)
chosen P true xs ys f g = f refl
chosen P false xs ys f g = g refl

pub has_not : (heads : List ℕ) (nodes : List Node) (on : ℕ → Option ℕ) (m : IsLinked heads nodes on) (nd l : ℕ) → on nd ≡ None → l < length heads
    → has (m.chain l) nd ≡ false
has_not heads nodes on m nd l o h = by (has (m.chain l) nd) refl
  where
    by : (b : Bool) → has (m.chain l) nd ≡ b → b ≡ false
    by true f = let g : on nd ≡ Some l = m.only l nd h f in let z : None ≡ Some l = sym o ∙ g in cc
    by false f = refl

pub linked_link : (heads : List ℕ) (nodes : List Node) (on : ℕ → Option ℕ) (nd l : ℕ) (v : Node) → l < length heads → nd < length nodes → on nd ≡ None
    → v.next ≡ get_or heads l 0 → IsLinked heads nodes on
    → IsLinked (set heads l nd) (set nodes nd v) (placed nd (Some l) on)
linked_link heads nodes on nd l v h k o n m =
    let lh = length-set heads l nd in
    let ln = length-set nodes nd v in
    let own : get_or (set nodes nd v) nd no_node ≡ v = get_or-set_same nodes nd v no_node k in
    record {
      chain = with_chain l (nd ∷ m.chain l) m.chain;
      linked = λ i b. chosen (λ xs. IsChain (set nodes nd v) (get_or (set heads l nd) i 0) xs) (i == l) (nd ∷ m.chain l) (m.chain i)
          (λ t. let e : i ≡ l = grind (arith, nat_tests) in (
            ap (λ (j : ℕ). get_or (set heads l nd) j 0) e ∙ get_or-set_same heads l nd 0 h,
            omega (arith, ln, k),
            subst (λ (y : ℕ). IsChain (set nodes nd v) y (m.chain l)) (sym (ap (λ (y : Node). y.next) own ∙ n))
                (chain-set nodes nd v (get_or heads l 0) (m.chain l) (m.linked l h) (has_not heads nodes on m nd l o h)),
          ))
          (λ t. let ne : i ≢ l = grind (arith, nat_tests) in
          let b' : i < length heads = omega (arith, b, lh) in
          subst (λ (y : ℕ). IsChain (set nodes nd v) y (m.chain i)) (sym (get_or-set_other heads l i nd 0 ne))
          (chain-set nodes nd v (get_or heads i 0) (m.chain i) (m.linked i b') (has_not heads nodes on m nd i o b')));
      once = λ i b. let b' : i < length heads = omega (arith, b, lh) in
          chosen HasNoneTwice (i == l) (nd ∷ m.chain l) (m.chain i) (λ t. (has_not heads nodes on m nd l o h, m.once l h)) (λ t. m.once i b');
      only = λ i j b e. let b' : i < length heads = omega (arith, b, lh) in only_by i j b' (i == l) refl (j == nd) refl e;
      whole = λ i j e. whole_by i j (j == nd) refl e;
      few = omega (arith, m.few, ln);
    }
  where
    only_by : (i j : ℕ) → i < length heads → (p : Bool) → (i == l) ≡ p → (q : Bool) → (j == nd) ≡ q
        → has (if p then nd ∷ m.chain l else m.chain i) j ≡ true → (if q then Some l else on j) ≡ Some i
    only_by i j b true f true g e = let t : i ≡ l = grind (arith, nat_tests) in ap (λ (x : ℕ). Some x) (sym t)
    only_by i j b true f false g e =
        let t : i ≡ l = grind (arith, nat_tests) in
        m.only l j h (ap (λ (c : Bool). c || has (m.chain l) j) (sym g) ∙ e) ∙ ap (λ (x : ℕ). Some x) (sym t)
    only_by i j b false f true g e =
        let t : j ≡ nd = grind (arith, nat_tests) in
        let a : on nd ≡ Some i = ap on (sym t) ∙ m.only i j b e in
        let z : None ≡ Some i = sym o ∙ a in absurd (let w : ⊥ = cc in w)
    only_by i j b false f false g e = m.only i j b e

    whole_by : (i j : ℕ) → (q : Bool) → (j == nd) ≡ q → (if q then Some l else on j) ≡ Some i
        → (i < length (set heads l nd)) × (has (with_chain l (nd ∷ m.chain l) m.chain i) j ≡ true)
    whole_by i j true g e =
        let t : l ≡ i = cc in
        let f : (i == l) ≡ true = grind (arith, nat_tests) in
        (omega (arith, h, t, length-set heads l nd), rw (f, g))
    whole_by i j false g e =
        let w = m.whole i j e in (
          omega (arith, w.0, length-set heads l nd),
          chosen (λ xs. has xs j ≡ true) (i == l) (nd ∷ m.chain l) (m.chain i)
              (λ f. let t : i ≡ l = grind (arith, nat_tests) in or_right (j == nd) (has (m.chain l) j) (ap (λ (x : ℕ). has (m.chain x) j) (sym t) ∙ w.1)) (λ f. w.1),
        )

no_chain : (l k : ℕ) → (o : Option ℕ) → o ≡ None → o ≡ Some l → ⊥
no_chain l k o e f = let z : None ≡ Some l = sym e ∙ f in let w : ⊥ = cc in w

-- heads that are all ends have no nodes
pub linked_none : (heads : List ℕ) → ((l : ℕ) → l < length heads → get_or heads l 0 ≡ 4294967295) → IsLinked heads [] (λ k. None)
linked_none heads e = record {
  chain = λ l. [];
  linked = λ l b. e l b;
  once = λ l b. tt;
  only = λ l k b f. absurd (let w : ⊥ = cc in w);
  whole = λ l k f. absurd (no_chain l k None refl f);
  few = omega arith;
}

chain-more : (nodes more : List Node) (a : ℕ) (xs : List ℕ) → IsChain nodes a xs → IsChain (nodes ++ more) a xs
chain-more nodes more a [] h = h
chain-more nodes more a (x ∷ xs) h =
    let same : next_of nodes x ≡ next_of (nodes ++ more) x = ap (λ (y : Node). y.next) (sym (get_or_append_left nodes more no_node x h.1)) in
    (h.0, omega (arith, h.1, length-append nodes more), subst (λ (y : ℕ). IsChain (nodes ++ more) y xs) same (chain-more nodes more (next_of nodes x) xs h.2))

-- more nodes, on no chain
pub linked_more : (heads : List ℕ) (nodes more : List Node) (on : ℕ → Option ℕ) → length (nodes ++ more) ≤ 4294967295 → IsLinked heads nodes on
    → IsLinked heads (nodes ++ more) on
linked_more heads nodes more on few m = record {
  chain = m.chain;
  linked = λ l b. chain-more nodes more (get_or heads l 0) (m.chain l) (m.linked l b);
  once = m.once;
  only = m.only;
  whole = m.whole;
  few = few;
}
