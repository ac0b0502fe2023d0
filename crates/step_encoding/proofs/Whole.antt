use Rattle.std.proofs.Common.{arith, ◌≡◌, ◌==◌, ℕ, zero, suc, ◌+◌, ◌*◌, ◌/◌, ◌<◌, ◌≤◌, List, [], ◌∷◌, ◌++◌, map, length, drop, get_or, Bool, true, false, refl, sym, ap, ◌∙◌, subst, All}
use Rattle.std.specs.List.{filter, flat_map, AllByRecursion}
use Rattle.std.proofs.lemmas.List.{drop_more}
use Rattle.std.proofs.Math.Nat.{mul-le-mul_left, mul_comm}
use Rattle.gt_core.specs.Literal.{range}
use Rattle.gt_core.specs.Task.{Task}
use Rattle.gt_core.specs.Lawful.{conditional_in, is_task}
use Rattle.formula_defs.specs.Layout.{Layout, width, variables}
use Rattle.gt_core.specs.Published.{Pairwise, order_of}
use Rattle.gt_core.proofs.published.PublishedLaw.{published_apart, component_apart}
use Rattle.gt_core.proofs.published.Basics.{each_from}
use Rattle.gt_core.proofs.published.Within.{lawful}
use Rattle.clause_base.specs.Clause.{HasVariablesBelow}
use Rattle.formula_defs.specs.Clause.{Literal}
use Rattle.formula_defs.specs.Variables.{layout_of, chain_variables_in}
use Rattle.formula_defs.specs.Formula.{step_clauses, pair_clauses, initial_clauses, goal_clauses}
use Rattle.formula_defs.specs.Coded.{coded, literals_in, formula_of}
use Rattle.formula_defs.specs.Shift.{moved_code, one_step, one_time}
use Rattle.formula_defs.proofs.published.CodedLaw.{coded-append}
use Rattle.formula_defs.proofs.published.InRange.{IsInRange}
use Rattle.formula_defs.proofs.published.ShiftLaw.{step_moved, known_moved}
use Rattle.formula_defs.proofs.published.SizeLaw.{size_law, chains_within_size}
use Rattle.formula_defs.proofs.published.Within.{step_within, known_within}
use Rattle.step_laws.specs.Form.{OrderedTask, IsOrderedTask}
use Rattle.step_encoding.specs.Limits.{most_literals}
use Rattle.step_laws.proofs.published.Ranges.{member_below}
use Rattle.std.proofs.lemmas.List.Elements.{filter-append}
use Rattle.horizon_rates.specs.Limits.{last_horizon}
use Rattle.gt_core.specs.Limits.{most_facts, most_actions, most_conditional}

-- The whole formula from its parts.

numbers_twice : (xs ys zs : List ℕ) → (xs ++ ys) ++ zs ≡ xs ++ (ys ++ zs)
numbers_twice [] ys zs = refl
numbers_twice (x ∷ xs) ys zs = ap (λ (r : List ℕ). x ∷ r) (numbers_twice xs ys zs)

-- one more component's true members
pub group_added : (p : ℕ → Bool) (order : List (List ℕ)) (before after : List ℕ) (i : ℕ) (d group members : List ℕ) (items : List (List ℕ)) → items ≡ order → i < length items → group ≡ get_or items i d → members ≡ group → after ≡ before ++ filter p members → filter p (order_of order) ≡ before ++ filter p (order_of (drop i order)) → filter p (order_of order) ≡ after ++ filter p (order_of (drop (i + 1) order))
group_added p order before after i d group members items e lt is m a h =
    let lt2 : i < length order = rw e at lt in
    let is2 : group ≡ get_or order i d = is ∙ ap (λ (x : List (List ℕ)). get_or x i d) e in
    let more : drop i order ≡ get_or order i d ∷ drop (i + 1) order = drop_more order i d lt2 in
    h ∙ ap (λ (x : List (List ℕ)). before ++ filter p (order_of x)) more
    ∙ ap (λ (x : List ℕ). before ++ x) (filter-append p (get_or order i d) (order_of (drop (i + 1) order)))
    ∙ sym (numbers_twice before (filter p (get_or order i d)) (filter p (order_of (drop (i + 1) order))))
    ∙ ap (λ (x : List ℕ). x ++ filter p (order_of (drop (i + 1) order))) (ap (λ (x : List ℕ). before ++ filter p x) (sym (m ∙ is2)) ∙ sym a)

from_all : {A : Type 0} (P : A → Type 0) (xs : List A) → All P xs → AllByRecursion P xs
from_all P [] h = tt
from_all P (x ∷ xs) h = (h zero x (omega arith), from_all P xs (λ k d lt. h (suc k) d (omega arith)))

one_below : (m : ℕ) (g : ℕ → ℕ) (c : List ℕ) → AllByRecursion (λ l. l / 2 < m) (map g c) → AllByRecursion (λ l. g l / 2 < m) c
one_below m g [] h = tt
one_below m g (l ∷ c) h = (h.0, one_below m g c h.1)

all_below : (m : ℕ) (g : ℕ → ℕ) (cs : List (List ℕ)) → AllByRecursion (HasVariablesBelow m) (map (map g) cs) → AllByRecursion (λ c. AllByRecursion (λ l. g l / 2 < m) c) cs
all_below m g [] h = tt
all_below m g (c ∷ cs) h = (one_below m g c (from_all (λ l. l / 2 < m) (map g c) h.0), all_below m g cs h.1)

module _ (task : Task) (pairs : List (ℕ × ℕ)) (places : List (List ℕ × ℕ)) (in_range : IsInRange task pairs places) (z : Layout) (n : ℕ) (e : z ≡ layout_of task places n) where
  abbrev zn : Layout
  zn = layout_of task places n

  moved_same : (w s f w' s' f' : ℕ) (cs ds : List (List ℕ)) → w ≡ w' → s ≡ s' → f ≡ f' → cs ≡ ds → map (map (moved_code w s f)) cs ≡ map (map (moved_code w' s' f')) ds
  moved_same w s f w' s' f' cs ds a b c d =
      ap (λ (x : ℕ). map (map (moved_code x s f)) cs) a ∙ ap (λ (x : ℕ). map (map (moved_code w' x f)) cs) b
      ∙ ap (λ (x : ℕ). map (map (moved_code w' s' x)) cs) c ∙ ap (λ (x : List (List ℕ)). map (map (moved_code w' s' f')) x) d

  -- the clauses of a step are the one step's, moved
  pub step_added : (t w s f : ℕ) (cs : List (List ℕ)) → t < n → w ≡ width z → s ≡ t * width z → f ≡ n * width z + t * z.facts → cs ≡ one_step task places → map (map (moved_code w s f)) cs ≡ coded (step_clauses z task places t)
  step_added t w s f cs lt a b c d =
      moved_same w s f (width zn) (t * width zn) (n * width zn + t * task.facts) cs (one_step task places)
      (a ∙ ap width e) (b ∙ ap (λ (x : Layout). t * width x) e) (c ∙ ap (λ (x : Layout). n * width x + t * x.facts) e) d
      ∙ sym (step_moved task pairs places n in_range t lt)
      ∙ ap (λ (x : Layout). coded (step_clauses x task places t)) (sym e)

  -- and their variables are below
  pub step_fits : (t w s f m : ℕ) (cs : List (List ℕ)) → t < n → w ≡ width z → s ≡ t * width z → f ≡ n * width z + t * z.facts → m ≡ variables z → cs ≡ one_step task places → AllByRecursion (λ c. AllByRecursion (λ l. moved_code w s f l / 2 < m) c) cs
  step_fits t w s f m cs lt a b c v d =
      let same : coded (step_clauses zn task places t) ≡ map (map (moved_code w s f)) cs = ap (λ (x : Layout). coded (step_clauses x task places t)) (sym e) ∙ sym (step_added t w s f cs lt a b c d) in
      let top : variables zn ≡ m = sym (v ∙ ap variables e) in
      let h = step_within task pairs places n in_range t lt in
      all_below m (moved_code w s f) cs (subst (λ (x : List (List ℕ)). AllByRecursion (HasVariablesBelow m) x) same (subst (λ (x : ℕ). AllByRecursion (HasVariablesBelow x) (coded (step_clauses zn task places t))) top h))

  -- the known pairs of a time are the one time's, moved
  pub time_added : (t w s f : ℕ) (cs : List (List ℕ)) → w ≡ 0 → s ≡ 0 → f ≡ n * width z + t * z.facts → cs ≡ one_time pairs → map (map (moved_code w s f)) cs ≡ coded (pair_clauses z pairs t)
  time_added t w s f cs a b c d =
      moved_same w s f 0 0 (n * width zn + t * task.facts) cs (one_time pairs)
      a b (c ∙ ap (λ (x : Layout). n * width x + t * x.facts) e) d
      ∙ sym (known_moved task pairs places n in_range t)
      ∙ ap (λ (x : Layout). coded (pair_clauses x pairs t)) (sym e)

  pub time_fits : (t w s f m : ℕ) (cs : List (List ℕ)) → t ≤ n → w ≡ 0 → s ≡ 0 → f ≡ n * width z + t * z.facts → m ≡ variables z → cs ≡ one_time pairs → AllByRecursion (λ c. AllByRecursion (λ l. moved_code w s f l / 2 < m) c) cs
  time_fits t w s f m cs le a b c v d =
      let same : coded (pair_clauses zn pairs t) ≡ map (map (moved_code w s f)) cs = ap (λ (x : Layout). coded (pair_clauses x pairs t)) (sym e) ∙ sym (time_added t w s f cs a b c d) in
      let top : variables zn ≡ m = sym (v ∙ ap variables e) in
      let h = known_within task pairs places n in_range t le in
      all_below m (moved_code w s f) cs (subst (λ (x : List (List ℕ)). AllByRecursion (HasVariablesBelow m) x) same (subst (λ (x : ℕ). AllByRecursion (HasVariablesBelow x) (coded (pair_clauses zn pairs t))) top h))

-- no action stands twice in an order
pub distinct_fit : (form : OrderedTask) → IsOrderedTask form → Pairwise (λ a b. (a == b) ≡ false) (order_of form.components)
distinct_fit form is = published_apart form.task form.known.clauses form.components is.published

pub apart_fit : (form : OrderedTask) → IsOrderedTask form → AllByRecursion (λ ks. Pairwise (λ a b. (a == b) ≡ false) ks) form.components
apart_fit form is = each_from _ form.components (component_apart form.task form.known.clauses form.components is.published)

-- the members of all components are actions of the layout
pub members_fit : (form : OrderedTask) → IsOrderedTask form → (actions : ℕ) → actions ≡ length form.task.actions → AllByRecursion (λ ks. AllByRecursion (λ a. a < actions) ks) form.components
members_fit form is actions e =
    each_from _ form.components (λ ks i. each_from _ ks (λ a j. let lt = member_below form is ks i a j in omega (arith, lt, e)))

coded_flat : {A : Type 0} (f : A → List (List Literal)) (xs : List A) → coded (flat_map f xs) ≡ flat_map (λ x. coded (f x)) xs
coded_flat f [] = refl
coded_flat f (x ∷ xs) = coded-append (f x) (flat_map f xs) ∙ ap (λ (r : List (List ℕ)). coded (f x) ++ r) (coded_flat f xs)

-- the clauses of a formula are those of its ends, of its steps and of its times
pub whole_parts : (task : Task) (pairs : List (ℕ × ℕ)) (places : List (List ℕ × ℕ)) (n : ℕ) → (formula_of task pairs places n).clauses ≡ coded (initial_clauses (layout_of task places n) task) ++ (coded (goal_clauses (layout_of task places n) task) ++ (flat_map (λ t. coded (step_clauses (layout_of task places n) task places t)) (range n) ++ flat_map (λ t. coded (pair_clauses (layout_of task places n) pairs t)) (range (n + 1))))
whole_parts task pairs places n =
    let z = layout_of task places n in
    let steps = flat_map (step_clauses z task places) (range n) in
    let times = flat_map (pair_clauses z pairs) (range (n + 1)) in
    coded-append (initial_clauses z task) (goal_clauses z task ++ (steps ++ times))
    ∙ ap (λ (r : List (List ℕ)). coded (initial_clauses z task) ++ r) (coded-append (goal_clauses z task) (steps ++ times)
    ∙ ap (λ (r : List (List ℕ)). coded (goal_clauses z task) ++ r) (coded-append steps times
    ∙ ap (λ (r : List (List ℕ)). r ++ coded times) (coded_flat (step_clauses z task places) (range n))
    ∙ ap (λ (r : List (List ℕ)). flat_map (λ t. coded (step_clauses z task places t)) (range n) ++ r) (coded_flat (pair_clauses z pairs) (range (n + 1)))))

product_le : (a b s t : ℕ) → a ≤ b → s ≤ t → a * s ≤ b * t
product_le a b s t h k =
    let m = mul-le-mul_left s h in
    let n = mul-le-mul_left b k in
    let x = mul_comm a s in
    let y = mul_comm b s in
    omega (arith, m, n, x, y)

-- where a formula has few literals, its variables have codes in 32 bits
pub layout_fits : (task : Task) (pairs : List (ℕ × ℕ)) (places : List (List ℕ × ℕ)) → is_task task ≡ true → IsInRange task pairs places → (n : ℕ) → n ≤ last_horizon → literals_in (formula_of task pairs places n).clauses ≤ most_literals → variables (layout_of task places n) ≤ 2147483647
layout_fits task pairs places is in_range n le small =
    let law = size_law task pairs places n in_range in
    let l = lawful task is in
    let x = chains_within_size task places in
    let a = product_le n last_horizon (length task.actions) most_actions le l.actions in
    let b = product_le n last_horizon (conditional_in task.actions) most_conditional le l.conditional in
    let c = product_le n n (chain_variables_in task places) (literals_in (one_step task places)) (omega arith) x in
    let d = product_le (n + 1) 256 task.facts most_facts (omega arith) l.facts in
    sum_fits n (length task.actions) (conditional_in task.actions) (chain_variables_in task places) ((n + 1) * task.facts) (n * literals_in (one_step task places)) a b c (bound _ _ _ _ _ law small) d
  where
    bound : (size f g s k : ℕ) → size ≡ f + g + s + k → size ≤ most_literals → s ≤ most_literals
    bound size f g s k e h = omega arith

    sum_fits : (n a c x f s : ℕ) → n * a ≤ last_horizon * most_actions → n * c ≤ last_horizon * most_conditional → n * x ≤ s → s ≤ most_literals → f ≤ 256 * most_facts → n * (a + c + x) + f ≤ 2147483647
    sum_fits n a c x f s h i j k l = omega arith
