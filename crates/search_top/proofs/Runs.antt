-- What a run to the goal means for the task, and for a text that has its calls.
use Rattle.std.proofs.Common.{◌≡◌, ◌<◌, ◌∙◌, ℕ, suc, Bool, List, [], ◌∷◌, length, Option, refl, sym, ap, subst}
use Rattle.std.specs.Prelude.{IsTrue}
use Rattle.std.specs.List.{AllByRecursion}
use Rattle.std.proofs.lemmas.List.{length-map}
use Rattle.gt_core.specs.Task.{Task, initial_state}
use Rattle.gt_core.specs.Execution.{CanRun, run, next_of_one}
use Rattle.gt_core.specs.Laws.{IsRunToGoal}
use Rattle.pd_model.specs.Plan.{IsPlan, meets_goal}
use Rattle.pd_model.specs.declared.calls.Call.{Call}
use Rattle.pd_model.specs.declared.parts.Parts.{Parts}
use Rattle.grounding_defs.specs.Grounded.{Grounded, IsGrounded}
use Rattle.grounding_defs.specs.Laws.{AreNumbers, ActionsAreCalls, GoalsAgree}
use Rattle.state_search.specs.Answer.{IsEnd}
use Rattle.state_search.specs.declared.answer.End.{End}
use Rattle.state_search.specs.declared.answer.End.TheVariants as ends
use Rattle.search_top.specs.own.Below.{IsBelow}

-- actions that can run are actions
pub able_below : (task : Task) (s : ℕ → Bool) (actions : List ℕ) → CanRun task s actions → AllByRecursion (λ a. a < length task.actions) actions
able_below task s [] can = tt
able_below task s (a ∷ others) can = (can.0.action, able_below task (next_of_one task s a) others can.1)

-- there are as many calls as actions
pub actions_are : (p : Parts) (g : Grounded) → IsGrounded p g → length g.task.actions ≡ length g.calls
actions_are p g is = ap (λ (t : Task). length t.actions) is.task ∙ length-map g.calls _

-- those of a plan have calls
pub end_below : (p : Parts) (g : Grounded) (most states : ℕ) (end : End) → IsGrounded p g → IsEnd g.task most states end → IsBelow (length g.calls) end
end_below p g most states (ends.Plan actions) is run =
    subst (λ (n : ℕ). AllByRecursion (λ (a : ℕ). a < n) actions) (actions_are p g is) (able_below g.task (initial_state g.task) actions run.runs)
end_below p g most states ends.NoPlan is run = tt
end_below p g most states ends.Unfinished is run = tt

-- as many numbers as calls
pub numbers_long : (g : Grounded) (calls : List Call) (actions : List ℕ) → AreNumbers g calls actions → length calls ≡ length actions
numbers_long g [] [] numbers = refl
numbers_long g [] (a ∷ others) numbers = absurd numbers
numbers_long g (c ∷ cs) [] numbers = absurd numbers
numbers_long g (c ∷ cs) (a ∷ others) numbers = ap suc (numbers_long g cs others numbers.1)

-- the calls of a run to the goal are a plan
pub run_is_plan : ActionsAreCalls → GoalsAgree → (p : Parts) (g : Grounded) (actions : List ℕ) → IsGrounded p g → IsRunToGoal g.task actions → (calls : List Call) × AreNumbers g calls actions × IsPlan p calls
run_is_plan are agree p g actions is to =
    let c = are p g is actions to.runs in
    (c.0, c.3.named, subst (λ (o : Option _). IsTrue (meets_goal p o)) (sym c.2) ((agree p g is c.0 c.1 c.2 (run g.task (initial_state g.task) actions) c.3.same).0 to.reaches))
