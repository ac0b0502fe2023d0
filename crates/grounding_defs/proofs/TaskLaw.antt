-- Within the limits, what grounding gives is a lawful task.
use Rattle.std.proofs.Common.{arith, ◌≡◌, ℕ, ◌+◌, ◌*◌, ◌<◌, ◌≤◌, List, [], ◌∷◌, Bool, true, false, refl, sym, cond, subst, map, length, IsTrue, Option, Some, None}
use Rattle.std.specs.Prelude.{nat_lt, filter_map}
use Rattle.std.specs.List.{list_all, filter, cons_option, AllByRecursion}
use Rattle.std.proofs.lemmas.Bool.{and_parts, and_from, lt-ltb, le-leb, eq-eqb, ltb-true}
use Rattle.std.proofs.lemmas.List.{length-map}
use Rattle.gt_core.specs.Lawful.{are_rising, is_literal_set, effect_less, follows, are_effects, is_action, is_within}
use Rattle.gt_core.specs.Task.{Effect}
use Rattle.gt_core.proofs.published.Basics.{each_at, each_from}
use Rattle.pd_model.specs.State.{is_in}
use Rattle.pd_model.specs.declared.atoms.Atom.{Atom}
use Rattle.pd_model.specs.declared.calls.Call.{Call}
use Rattle.pd_model.specs.declared.parts.Parts.{Parts}
use Rattle.grounding_defs.specs.Instance.{GroundLiteral, Holds, Fixed, Change, Instance, instance_of, goal_of}
use Rattle.grounding_defs.specs.Sorted.{IsSorted, sorted_set}
use Rattle.grounding_defs.specs.Simplify.{fact_literal, number_of, simplified, is_left, effect_of, action_of}
use Rattle.grounding_defs.specs.Grounded.{Grounded}
use Rattle.grounding_defs.specs.Found.{grounded_by}
use Rattle.grounding_defs.specs.Limits.{Bounds, IsBounded, race_bounds}
use Rattle.grounding_defs.specs.Laws.{GroundedIsTask, GroundedIsWithin}
use Rattle.grounding_defs.proofs.published.Orders.{numbers, effects}
use Rattle.grounding_defs.proofs.published.Sets.{each_sorted, is_sorted}
use Rattle.grounding_defs.proofs.published.Places.{literal_below}
use Rattle.grounding_defs.proofs.Whole.{made}

-- sorted numbers within bounds rise
rising : (top low : ℕ) (ls : List ℕ) → AllByRecursion (λ l. low ≤ l) ls → AllByRecursion (λ l. l < top) ls → IsSorted nat_lt ls → are_rising top low ls ≡ true
rising top low [] above below s = refl
rising top low (l ∷ ls) above below s =
    and_from _ _ (le-leb low l above.0)
    (and_from _ _ (lt-ltb l top below.0)
    (rising top (l + 1) ls (each_from (λ m. l + 1 ≤ m) ls (λ m a. let lt : l < m = ltb-true l m (each_at (λ n. IsTrue (nat_lt l n)) ls m s.0 a) in omega (arith, lt))) below.1 s.1))

-- a number, if there is one, is below another
abbrev AnyBelow : ℕ → Option ℕ → Type 0
AnyBelow top None = Unit {0}
AnyBelow top (Some l) = l < top

-- the numbers of literals are those of facts
number_below : (facts : List Atom) (xs : List GroundLiteral) → AllByRecursion (λ l. l < 2 * length facts) (filter_map (number_of facts) xs)
number_below facts [] = tt
number_below facts (x ∷ xs) = join (number_of facts x) (filter_map (number_of facts) xs) (one x) (number_below facts xs)
  where
    join : (o : Option ℕ) (ls : List ℕ) → AnyBelow (2 * length facts) o → AllByRecursion (λ l. l < 2 * length facts) ls → AllByRecursion (λ l. l < 2 * length facts) (cons_option o ls)
    join None ls b rest = rest
    join (Some l) ls b rest = (b, rest)

    one : (x : GroundLiteral) → AnyBelow (2 * length facts) (number_of facts x)
    one (Holds a want) = by (is_in a facts) refl
      where
        by : (fact : Bool) → is_in a facts ≡ fact → AnyBelow (2 * length facts) (cond fact (Some (fact_literal facts a want)) None)
        by true h = literal_below facts a want h
        by false h = tt
    one (Fixed truth) = tt

is_set : (facts : List Atom) (xs : List GroundLiteral) → is_literal_set (length facts) (simplified facts xs) ≡ true
is_set facts xs = rising (2 * length facts) 0 (simplified facts xs) (each_from (λ l. 0 ≤ l) (simplified facts xs) (λ l a. omega arith)) (each_sorted nat_lt numbers (λ l. l < 2 * length facts) (filter_map (number_of facts) xs) (number_below facts xs)) (is_sorted nat_lt numbers (filter_map (number_of facts) xs))

-- an effect whose literals are of so many facts
record IsOf (facts : ℕ) (e : Effect) : Type 0 where
  literal : e.literal < 2 * facts
  condition : is_literal_set facts e.condition ≡ true

abbrev Follows : Option Effect → List Effect → Type 0
Follows last es = AllByRecursion (λ e. follows last e ≡ true) es

in_order : (facts : ℕ) (last : Option Effect) (es : List Effect) → Follows last es → AllByRecursion (IsOf facts) es → IsSorted effect_less es → are_effects facts last es ≡ true
in_order facts last [] after all s = refl
in_order facts last (e ∷ es) after all s =
    and_from _ _ after.0 (and_from _ _ (lt-ltb e.literal (2 * facts) all.0.literal) (and_from _ _ all.0.condition (in_order facts (Some e) es s.0 all.1 s.1)))

left_are_of : (p : Parts) (facts : List Atom) (changes : List Change) → AllByRecursion (IsOf (length facts)) (map (effect_of facts) (filter (is_left p facts) changes))
left_are_of p facts [] = tt
left_are_of p facts (e ∷ changes) = by (is_left p facts e) refl (left_are_of p facts changes)
  where
    by : (left : Bool) → is_left p facts e ≡ left → AllByRecursion (IsOf (length facts)) (map (effect_of facts) (filter (is_left p facts) changes)) → AllByRecursion (IsOf (length facts)) (map (effect_of facts) (cond left (e ∷ filter (is_left p facts) changes) (filter (is_left p facts) changes)))
    by true h rest = (record { literal = literal_below facts e.atom e.adds (and_parts (is_in e.atom facts) _ h).0; condition = is_set facts e.condition }, rest)
    by false h rest = rest

action_is : (p : Parts) (facts : List Atom) (i : Instance) → is_action (length facts) (action_of p facts i) ≡ true
action_is p facts i =
    let left = map (effect_of facts) (filter (is_left p facts) i.changes) in
    let es = sorted_set effect_less left in
    and_from _ _ (is_set facts i.precondition)
    (in_order (length facts) None es (each_from (λ e. follows None e ≡ true) es (λ e a. refl)) (each_sorted effect_less effects (IsOf (length facts)) left (left_are_of p facts i.changes)) (is_sorted effect_less effects left))

actions_are : (p : Parts) (facts : List Atom) (calls : List Call) → list_all (is_action (length facts)) (map (λ c. action_of p facts (instance_of p c)) calls) ≡ true
actions_are p facts [] = refl
actions_are p facts (c ∷ calls) = and_from _ _ (action_is p facts (instance_of p c)) (actions_are p facts calls)

task_is : (bounds : Bounds) (p : Parts) (facts : List Atom) (calls : List Call) → IsBounded bounds p (grounded_by p facts calls) → is_within bounds.task (grounded_by p facts calls).task ≡ true
task_is bounds p facts calls within =
    let long : length (map (λ c. action_of p facts (instance_of p c)) calls) ≤ bounds.task.actions = subst (λ (n : ℕ). n ≤ bounds.task.actions) (sym (length-map calls (λ c. action_of p facts (instance_of p c)))) within.actions in
    and_from _ _ (le-leb _ bounds.task.facts within.facts)
    (and_from _ _ (le-leb _ bounds.task.actions long)
    (and_from _ _ (le-leb _ bounds.task.conditional within.effects)
    (and_from _ _ (eq-eqb _ _ (length-map facts (λ a. is_in a p.init)))
    (and_from _ _ (is_set facts (goal_of p))
    (actions_are p facts calls)))))

pub grounded_is_within : GroundedIsWithin
grounded_is_within bounds p g is within =
    subst (λ (h : Grounded). is_within bounds.task h.task ≡ true) (made p g is) (task_is bounds p g.facts g.calls (subst (IsBounded bounds p) (sym (made p g is)) within))

pub grounded_is_task : GroundedIsTask
grounded_is_task p g is within = grounded_is_within race_bounds p g is within
