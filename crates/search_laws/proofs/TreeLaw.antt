-- Each state of a tree is reached.
use Rattle.std.proofs.Common.{arith, ◌≡◌, ℕ, zero, suc, ◌+◌, ◌<◌, List, [], ◌∷◌, ◌++◌, length, map, Bool, true, refl, sym, ap, ◌∙◌, subst, Some}
use Rattle.std.specs.Prelude.{slice_get, slice_index}
use Rattle.gt_core.specs.Literal.{state_of, range, range_from}
use Rattle.gt_core.specs.Task.{Task, initial_state}
use Rattle.gt_core.specs.Lawful.{is_task}
use Rattle.gt_core.specs.Execution.{Runs, run, next_of_one, next_values}
use Rattle.gt_core.proofs.published.Within.{lawful}
use Rattle.gt_core.proofs.published.SequenceLaw.{Agree, run_agrees, run_joined, can_run_joined}
use Rattle.gt_core.specs.Reached.{IsReached}
use Rattle.search_laws.specs.Tree.{IsTree, TreeIsReached}
use Rattle.search_laws.proofs.published.SearchLaw.{at_range}

-- truth values by a test, and the same by one that agrees with it
pub map_range : (p q : ℕ → Bool) (first n : ℕ) → ((f : ℕ) → f < first + n → p f ≡ q f) → map p (range_from first n) ≡ map q (range_from first n)
map_range p q first zero h = refl
map_range p q first (suc n) h =
    let here = h first (omega arith) in
    let rest = map_range p q (first + 1) n (λ f lt. h f (omega (arith, lt))) in
    λ i. here i ∷ rest i

-- a list is what its values as a state are
values_from : (values : List Bool) (p : ℕ → Bool) (first n : ℕ) → length values ≡ n → ((k : ℕ) → k < n → p (first + k) ≡ state_of values k) → values ≡ map p (range_from first n)
values_from [] p first zero long h = refl
values_from [] p first (suc n) long h = cc
values_from (v ∷ values) p first zero long h = cc
values_from (v ∷ values) p first (suc n) long h =
    let z : first ≡ first + 0 = omega arith in
    let here : v ≡ p first = sym (ap p z ∙ h 0 (omega arith)) in
    let rest = values_from values p (first + 1) n (omega (arith, long)) (λ k lt. (let e : (first + 1) + k ≡ first + suc k = omega arith in ap p e) ∙ h (suc k) (omega (arith, lt))) in
    λ i. here i ∷ rest i

pub values_of : (values : List Bool) (n : ℕ) → length values ≡ n → values ≡ map (state_of values) (range n)
values_of values n long = values_from values (state_of values) 0 n long (λ k lt. let e : 0 + k ≡ k = omega arith in ap (state_of values) e)

-- the state of the truth values of a test agrees with it
pub agrees : (task : Task) (p : ℕ → Bool) (s : List Bool) → s ≡ map p (range task.facts) → Agree task (state_of s) p
agrees task p s is f lt = ap (λ (xs : List Bool). state_of xs f) is ∙ at_range p 0 task.facts f lt ∙ (let z : 0 + f ≡ f = omega arith in ap p z)

pub reached_first : (task : Task) → is_task task ≡ true → IsReached task task.initial
reached_first task is = record { actions = []; runs = tt; leads = values_of task.initial task.facts (lawful task is).initial }

pub reached_next : (task : Task) → is_task task ≡ true → (s t : List Bool) (a : ℕ) → IsReached task s → Runs task (state_of s) a → t ≡ next_values task (state_of s) a → IsReached task t
reached_next task is s t a reached runs leads =
    let start = initial_state task in
    let u = run task start reached.actions in
    let same = agrees task u s reached.leads in
    let moved = run_agrees task is (a ∷ []) (state_of s) u same (runs, tt) in
    record {
      actions = reached.actions ++ a ∷ [];
      runs = can_run_joined task start reached.actions (a ∷ []) reached.runs moved.0;
      leads = leads
          ∙ map_range (next_of_one task (state_of s) a) (next_of_one task u a) 0 task.facts (λ f lt. moved.1 f (omega (arith, lt)))
          ∙ ap (λ (v : ℕ → Bool). map v (range task.facts)) (sym (run_joined task start reached.actions (a ∷ [])));
    }

module _ (task : Task) (states : List (List Bool)) (parents actions : List ℕ) (is : is_task task ≡ true) (tree : IsTree task states parents actions) where
  reached_below : (n k : ℕ) → k < n → (s : List Bool) → slice_get states k ≡ Some s → IsReached task s
  reached_below zero k lt s at = absurd (omega (arith, lt))
  reached_below (suc n) zero lt s at =
      let e : task.initial ≡ s = let o : Some task.initial ≡ Some s = sym tree.first ∙ at in cc in
      subst (IsReached task) e (reached_first task is)
  reached_below (suc n) (suc k) lt s at =
      let from = tree.next k s at in
      let earlier = from.earlier in
      reached_next task is from.source s (slice_index actions (suc k)) (reached_below n (slice_index parents (suc k)) (omega (arith, lt, earlier)) from.source from.is) from.runs from.leads

pub tree_reached : TreeIsReached
tree_reached task states parents actions is tree k s at = reached_below task states parents actions is tree (k + 1) k (omega arith) s at
