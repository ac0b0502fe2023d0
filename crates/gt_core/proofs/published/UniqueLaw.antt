use Rattle.std.proofs.Common.{arith, ◌≡◌, ◌==◌, ℕ, ◌<◌, List, [], ◌∷◌, ◌++◌, length, Bool, true, false, refl, sym, ◌∙◌, subst, ◌⊎◌, inl, inr, eqb}
use Rattle.std.specs.List.{list_any, IsDistinct}
use Rattle.std.proofs.lemmas.Bool.{cases_lt}
use Rattle.std.proofs.lemmas.Map.Steps.{length-le_from_distinct_below, le-length_from_below}
use Rattle.gt_core.specs.Literal.{is_in}
use Rattle.gt_core.specs.Task.{Task, action_numbers}
use Rattle.gt_core.specs.Interference.{has_edge}
use Rattle.gt_core.specs.Published.{IsComponent, IsListed, IsPublished, Pairwise, order_of, HasEachOnce}
use Rattle.gt_core.proofs.published.Basics.{each_at, or_split, or_left, or_right, apart, any_same, same_if, same_test, test_same}
use Rattle.gt_core.proofs.published.Literals.{in_among, among_in, among_range, below_range}
use Rattle.gt_core.proofs.published.Pairwise.{flat_among}
use Rattle.gt_core.proofs.published.PublishedLaw.{components_of_list, published_apart, published_all}

-- There is one published order at most, and it has every action once.

-- a number of a rising list is its first, or greater
first_or_more : (x : ℕ) (xs : List ℕ) (y : ℕ) → Pairwise (λ a b. a < b) (x ∷ xs) → is_in (x ∷ xs) y ≡ true → (x ≡ y) ⊎ (x < y)
first_or_more x xs y p i = elim (or_split (x == y) (is_in xs y) i) [
  | inl e ↦ inl (test_same x y e)
  | inr j ↦ inr (each_at (λ b. x < b) xs y p.0 (in_among xs y j))
]

here_in : (x : ℕ) (xs : List ℕ) → is_in (x ∷ xs) x ≡ true
here_in x xs = or_left (x == x) (is_in xs x) (same_test x x refl)

first_same : (x y : ℕ) → (x ≡ y) ⊎ (x < y) → (y ≡ x) ⊎ (y < x) → x ≡ y
first_same x y (inl e) h = e
first_same x y (inr l) (inl e) = sym e
first_same x y (inr l) (inr g) = absurd (omega arith)

-- what stands after the first of one rising list stands after the first of another, where they begin alike
after_first : (x y : ℕ) (xs ys : List ℕ) → x ≡ y → Pairwise (λ a b. a < b) (x ∷ xs) → ((z : ℕ) → is_in (x ∷ xs) z ≡ true → is_in (y ∷ ys) z ≡ true) → (z : ℕ) → is_in xs z ≡ true → is_in ys z ≡ true
after_first x y xs ys e p h z i = elim (or_split (y == z) (is_in ys z) (h z (or_right (x == z) (is_in xs z) i))) [
  | inl s ↦ absurd (let lt : x < z = each_at (λ b. x < b) xs z p.0 (in_among xs z i) in let same : y ≡ z = test_same y z s in omega arith)
  | inr j ↦ j
]

-- rising lists of the same numbers are equal
pub rising_same : (xs ys : List ℕ) → Pairwise (λ a b. a < b) xs → Pairwise (λ a b. a < b) ys → ((x : ℕ) → is_in xs x ≡ true → is_in ys x ≡ true) → ((x : ℕ) → is_in ys x ≡ true → is_in xs x ≡ true) → xs ≡ ys
rising_same [] [] p q to from = refl
rising_same [] (y ∷ ys) p q to from = absurd (let e : false ≡ true = from y (here_in y ys) in cc)
rising_same (x ∷ xs) [] p q to from = absurd (let e : false ≡ true = to x (here_in x xs) in cc)
rising_same (x ∷ xs) (y ∷ ys) p q to from =
    let same = first_same x y (first_or_more x xs y p (from y (here_in y ys))) (first_or_more y ys x q (to x (here_in x xs))) in
    let rest = rising_same xs ys p.1 q.1 (after_first x y xs ys same p to) (after_first y x ys xs (sym same) q from) in
    λ i. same i ∷ rest i

module _ (edge : ℕ → ℕ → Bool) (actions : List ℕ) where
  component_same : (m n : ℕ) (ks ls : List ℕ) → m ≡ n → IsComponent edge actions (m ∷ ks) → IsComponent edge actions (n ∷ ls) → m ∷ ks ≡ n ∷ ls
  component_same m n ks ls e one two =
      rising_same (m ∷ ks) (n ∷ ls) one.rising two.rising
      (λ x i. two.whole m x (or_left (n == m) (is_in ls m) (same_test n m (sym e))) (one.of_actions x i) (one.each_way m x (here_in m ks) i))
      (λ x i. one.whole n x (or_left (m == n) (is_in ks n) (same_test m n e)) (two.of_actions x i) (two.each_way n x (here_in n ls) i))

  pub listed_same : (taken : List ℕ) (cs ds : List (List ℕ)) → IsListed edge actions taken cs → IsListed edge actions taken ds → cs ≡ ds
  listed_same taken [] [] h g = refl
  listed_same taken [] ([] ∷ ds) h g = absurd g
  listed_same taken [] ((n ∷ ls) ∷ ds) h g = absurd (apart (is_in taken n) (h n (g.0.component.of_actions n (here_in n ls))) g.0.new)
  listed_same taken ([] ∷ cs) ds h g = absurd h
  listed_same taken ((m ∷ ks) ∷ cs) [] h g = absurd (apart (is_in taken m) (g m (h.0.component.of_actions m (here_in m ks))) h.0.new)
  listed_same taken ((m ∷ ks) ∷ cs) ([] ∷ ds) h g = absurd g
  listed_same taken ((m ∷ ks) ∷ cs) ((n ∷ ls) ∷ ds) h g =
      let name : m ≡ n = elim (cases_lt m n) [
        | inl lt ↦ absurd (g.0.least m ks lt h.0.component h.0.new h.0.ready)
        | inr ge ↦ elim (cases_lt n m) [
          | inl lt ↦ absurd (h.0.least n ls lt g.0.component g.0.new g.0.ready)
          | inr le ↦ omega arith
        ]
      ] in
      let first = component_same m n ks ls name h.0.component g.0.component in
      let rest = listed_same (taken ++ n ∷ ls) cs ds (subst (λ (xs : List ℕ). IsListed edge actions (taken ++ xs) cs) first h.1) g.1 in
      λ i. first i ∷ rest i

pub published_same : (task : Task) (clauses : List (ℕ × ℕ)) (components others : List (List ℕ)) → IsPublished task clauses components → IsPublished task clauses others → components ≡ others
published_same task clauses components others h g = listed_same (has_edge task clauses) (action_numbers task) [] components others h g

-- a test of equality, either way round
turned : (x y : ℕ) → (x == y) ≡ (y == x)
turned x y = same_if (x == y) (y == x) (λ e. same_test y x (sym (test_same x y e))) (λ e. same_test x y (sym (test_same y x e)))

listed_is : (q : ℕ) (xs : List ℕ) → list_any (eqb q) xs ≡ is_in xs q
listed_is q xs = any_same (λ y. q == y) (λ y. y == q) xs (λ y a. turned q y)

pairwise_distinct : (xs : List ℕ) → Pairwise (λ a b. (a == b) ≡ false) xs → IsDistinct eqb xs
unfolding IsDistinct
pairwise_distinct [] p = tt
pairwise_distinct (x ∷ xs) p = (p.0, pairwise_distinct xs p.1)

pub each_once : (task : Task) (clauses : List (ℕ × ℕ)) (components : List (List ℕ)) → IsPublished task clauses components → HasEachOnce task components
each_once task clauses components published = record {
  has = has;
  only = only;
  once = apart_all;
  long = omega (
    arith,
    length-le_from_distinct_below (order_of components) (length task.actions) (pairwise_distinct (order_of components) apart_all) (λ q i. only q (sym (listed_is q (order_of components)) ∙ i)),
    le-length_from_below (order_of components) (length task.actions) (λ q lt. listed_is q (order_of components) ∙ has q lt),
  );
}
  where
    has : (a : ℕ) → a < length task.actions → is_in (order_of components) a ≡ true
    has a lt =
        among_in (order_of components) a (published_all task clauses components published a (among_in (action_numbers task) a (among_range (length task.actions) 0 a (omega arith) (omega arith))))

    only : (a : ℕ) → is_in (order_of components) a ≡ true → a < length task.actions
    only a i =
        let r = flat_among (λ ks. ks) components a (in_among (order_of components) a i) in
        let c = components_of_list (has_edge task clauses) (action_numbers task) [] components published r.0 r.1 in
        below_range (length task.actions) a (in_among (action_numbers task) a (c.of_actions a (among_in r.0 a r.2)))

    apart_all : Pairwise (λ a b. (a == b) ≡ false) (order_of components)
    apart_all = published_apart task clauses components published
