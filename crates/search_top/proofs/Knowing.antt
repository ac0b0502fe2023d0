-- What is known of a task by its invariants, and of the literals and actions of which a text tells.
use Rattle.std.proofs.Common.{◌≡◌, ◌<◌, ◌*◌, ◌/◌, ℕ, ◌+◌, List, length, drop, true, false, Some, refl, ap, sym, subst, arith}
use Rattle.std.specs.Prelude.{slice_get}
use Rattle.gt_core.specs.Literal.{is_in}
use Rattle.gt_core.specs.Clauses.{KnownClauses, IsKnownClauses}
use Rattle.gt_core.specs.Task.{Task, initial_state}
use Rattle.gt_core.specs.Lawful.{is_task}
use Rattle.gt_core.proofs.published.Within.{lawful, literals_within}
use Rattle.gt_core.proofs.published.Basics.{each_at}
use Rattle.two_invariants.specs.Closed.{AreInvariants}
use Rattle.never_check.specs.Exclusions.{IsExclusion}
use Rattle.never_check.specs.declared.excluded.Exclusion.{Exclusion}
use Rattle.never_check.specs.declared.excluded.Exclusion.TheVariants as by
use Rattle.gt_core.proofs.published.Literals.{in_among}
use Rattle.grounding_defs.specs.Grounded.{Grounded, IsGrounded}
use Rattle.plan_tasks.proofs.published.Taking.{drop_at}
use Rattle.pd_model.specs.State.{same_atom, is_in as is_listed}
use Rattle.pd_model.specs.declared.atoms.Atom.{Atom}
use Rattle.pd_model.specs.declared.parts.Parts.{Parts}
use Rattle.search_top.specs.own.Below.{HasActions, IsFoundBelow}
use Rattle.search_top.specs.own.Exclusions.{HasLiterals}
use Rattle.search_top.specs.declared.judged.Judgement.{Judgement}
use Rattle.search_top.proofs.Runs.{able_below, actions_are}
use Rattle.never_search.specs.Answer.{IsEnd as IsExploredEnd}
use Rattle.never_search.specs.declared.answer.End.{End as Found}
use Rattle.never_search.specs.declared.answer.End.TheVariants as found

-- the invariants of a task are known clauses
pub known_of : (task : Task) (known : KnownClauses) → known.facts ≡ task.facts → AreInvariants task known.clauses → IsKnownClauses known
known_of task known facts invariants = subst (λ (n : ℕ). IsKnownClauses (record { facts = n; clauses = known.clauses })) (sym facts) invariants.listed

goal_below : (task : Task) (l : ℕ) → is_task task ≡ true → is_in task.goal l ≡ true → l < 2 * task.facts
goal_below task l t in_goal =
    let h : l / 2 < task.facts = each_at (λ (k : ℕ). k / 2 < task.facts) task.goal l (literals_within task.facts task.goal (lawful task t).goal) (in_among task.goal l in_goal) in
    omega (arith, h)

-- what excludes a goal are literals of the task's facts
pub has_literals : (task : Task) (known : List (ℕ × ℕ)) (by : Exclusion) → is_task task ≡ true → IsExclusion task known by → HasLiterals task.facts by
has_literals task known by.Open t is = tt
has_literals task known by.Hopeless t is = tt
has_literals task known (by.One l) t is = goal_below task l t is.0
has_literals task known (by.Two l m) t is = (goal_below task l t is.0, goal_below task m t is.1)

-- so many facts have atoms, where they are those of a ground task
pub literals_have_atoms : (p : Parts) (g : Grounded) → IsGrounded p g → (by : Exclusion) → HasLiterals g.task.facts by → HasLiterals (length g.facts) by
literals_have_atoms p g is by h = subst (λ (n : ℕ). HasLiterals n by) (ap (λ (t : Task). t.facts) is.task) h

-- the actions that are told of a certificate have calls
pub judged_below : (p : Parts) (g : Grounded) → IsGrounded p g → (said : Judgement) → HasActions (length g.task.actions) said → HasActions (length g.calls) said
judged_below p g is said h = subst (λ (n : ℕ). HasActions n said) (actions_are p g is) h

-- ---- an atom in a list that is gone through

pub found_at : (a x : Atom) (xs : List Atom) (k : ℕ) → slice_get xs k ≡ Some x → same_atom a x ≡ true → is_listed a (drop k xs) ≡ true
found_at a x xs k at same = rw (drop_at xs k x at, same) refl

pub not_at : (a x : Atom) (xs : List Atom) (k : ℕ) → slice_get xs k ≡ Some x → same_atom a x ≡ false → is_listed a (drop (k + 1) xs) ≡ is_listed a (drop k xs)
not_at a x xs k at other = rw (drop_at xs k x at, other) refl

-- ---- a plan that a search met

pub found_below : (task : Task) (known : List (ℕ × ℕ)) (budget taken : ℕ) (end : Found) → IsExploredEnd task known budget taken end → IsFoundBelow (length task.actions) end
found_below task known budget taken (found.Set clauses) is = tt
found_below task known budget taken (found.Plan actions) is = able_below task (initial_state task) actions.items is.runs
found_below task known budget taken found.Open is = tt

pub found_has_calls : (p : Parts) (g : Grounded) → IsGrounded p g → (end : Found) → IsFoundBelow (length g.task.actions) end → IsFoundBelow (length g.calls) end
found_has_calls p g is end h = subst (λ (n : ℕ). IsFoundBelow n end) (actions_are p g is) h
