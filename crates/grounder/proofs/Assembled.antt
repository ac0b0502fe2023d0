-- What was found makes a grounded task.
use Rattle.std.proofs.Common.{◌≡◌, ◌≤◌, List, length, sym, ◌∙◌, subst}
use Rattle.std.specs.Prelude.{not}
use Rattle.std.specs.List.{filter}
use Rattle.gt_core.specs.Task.{Task}
use Rattle.pd_model.specs.State.{is_in}
use Rattle.pd_model.specs.declared.atoms.Atom.{Atom}
use Rattle.pd_model.specs.declared.calls.Call.{Call}
use Rattle.pd_model.specs.declared.parts.Parts.{Parts}
use Rattle.grounding_defs.specs.Sorted.{atom_less, IsSorted}
use Rattle.grounding_defs.specs.Grounded.{IsGrounded}
use Rattle.grounding_defs.specs.Simplify.{task_of}
use Rattle.grounding_defs.specs.Found.{is_constant, facts_of, actions_of, grounded_by}
use Rattle.gt_core.specs.Limits.{most_actions}
use Rattle.grounding_defs.specs.Laws.{LeastIsGrounded}
use Rattle.grounder.specs.own.Found.{AreFound}
use Rattle.grounder.specs.own.Putting.{HasExactly}

-- the facts are what the constant atoms leave
pub left_facts : (p : Parts) (reached : List Atom) (kept : List Call) (constant facts : List Atom) → HasExactly (is_constant p reached kept) constant
    → facts ≡ filter (λ a. not (is_in a constant)) reached → facts ≡ facts_of p reached kept
left_facts p reached kept constant facts exact are = are ∙ (λ i. filter (λ a. not (exact a i)) reached)

pub found_grounded : LeastIsGrounded → (p : Parts) (facts : List Atom) (kept : List Call) → AreFound p facts kept → IsGrounded p (grounded_by p facts (actions_of p facts kept))
found_grounded law p facts kept found =
    subst (λ (xs : List Atom). IsGrounded p (grounded_by p xs (actions_of p xs kept))) (sym found.facts_are) (law p found.reached kept found.least found.atoms_sorted found.calls_sorted)

pub found_sorted : LeastIsGrounded → (p : Parts) (facts : List Atom) (kept : List Call) → AreFound p facts kept → IsSorted atom_less facts
found_sorted law p facts kept found = (found_grounded law p facts kept found).facts_sorted

-- the same, with the actions among the kept calls, where what is known is of a task that is the same
pub found_is : LeastIsGrounded → (p q : Parts) (found facts : List Atom) (kept calls : List Call) → q ≡ p → facts ≡ found → AreFound p found kept → calls ≡ actions_of q facts kept
    → IsGrounded p (grounded_by p facts calls)
found_is law p q found facts kept calls same known are able =
    let all = subst (λ (xs : List Atom). AreFound p xs kept) (sym known) are in
    let actions = subst (λ (r : Parts). calls ≡ actions_of r facts kept) same able in
    subst (λ (cs : List Call). IsGrounded p (grounded_by p facts cs)) (sym actions) (found_grounded law p facts kept all)

-- the task is the one that was made
pub with_task : (p : Parts) (facts : List Atom) (calls : List Call) (task : Task) → IsGrounded p (grounded_by p facts calls) → task ≡ task_of p facts calls
    → IsGrounded p (record { facts = facts; calls = calls; task = task })
with_task p facts calls task is e = subst (λ (t : Task). IsGrounded p (record { facts = facts; calls = calls; task = t })) (sym e) is

-- the count of the actions that were listed
pub few_actions : (q : Parts) (facts : List Atom) (kept calls : List Call) → calls ≡ actions_of q facts kept → length (actions_of q facts kept) ≤ most_actions → length calls ≤ most_actions
few_actions q facts kept calls same few = subst (λ (cs : List Call). length cs ≤ most_actions) (sym same) few
