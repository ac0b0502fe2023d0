-- A plan of at most n calls is a run of at most n actions to the goal, and so a step plan of n steps: one action a step, and then
-- empty sets.
use Rattle.std.proofs.Common.{arith, ◌≡◌, ◌≤◌, ℕ, suc, List, [], ◌∷◌, length, Bool, false, Option, Some, None, refl, ap, subst}
use Rattle.std.specs.Prelude.{IsTrue}
use Rattle.gt_core.specs.Task.{initial_state}
use Rattle.gt_core.specs.Execution.{run}
use Rattle.pd_model.specs.Plan.{IsPlan, exec_all, meets_goal}
use Rattle.pd_model.specs.declared.atoms.Atom.{Atom}
use Rattle.pd_model.specs.declared.calls.Call.{Call}
use Rattle.pd_model.specs.declared.parts.Parts.{Parts}
use Rattle.grounding_defs.specs.Grounded.{Grounded, IsGrounded}
use Rattle.grounding_defs.specs.Laws.{AreNumbers, CallsAreActions, GoalsAgree}
use Rattle.step_laws.specs.Form.{member_at}
use Rattle.step_laws.proofs.published.SequenceLaw.{one_by_one, one_member, run_is_step_plan}
use Rattle.step_plans.specs.Plans.{IsStepPlanOf}

same_length : (g : Grounded) (calls : List Call) (numbers : List ℕ) → AreNumbers g calls numbers → length numbers ≡ length calls
same_length g [] [] h = refl
same_length g [] (n ∷ numbers) h = absurd h
same_length g (c ∷ calls) [] h = absurd h
same_length g (c ∷ calls) (n ∷ numbers) h = ap suc (same_length g calls numbers h.1)

-- calls that are a plan are executed to some state, in which the goal holds
reached : (p : Parts) (o : Option (List Atom)) → IsTrue (meets_goal p o) → (t : List Atom) × (o ≡ Some t) × IsTrue (meets_goal p (Some t))
reached p None h = absurd (let n : _ = h in cc)
reached p (Some t) h = (t, refl, h)

pub short_plans :
    (bars : ℕ → ℕ → Bool) (p : Parts) (g : Grounded) (order : List ℕ) (n : ℕ) (calls : List Call)
    → CallsAreActions → GoalsAgree → ((a : ℕ) → bars a a ≡ false) → IsGrounded p g → length calls ≤ n → IsPlan p calls
    → (steps : ℕ → ℕ → Bool) × IsStepPlanOf bars g.task order steps n
short_plans bars p g order n calls are_actions agree itself is short plan =
    let t = reached p (exec_all p p.init calls) plan in
    let r = are_actions p g is calls t.0 t.1 in
    let goal = (agree p g is calls t.0 t.1 (run g.task (initial_state g.task) r.0) r.1.same).1 t.2 in
    let long = same_length g calls r.0 r.1.named in (
      member_at (one_by_one r.0 n),
      record {
        plan = run_is_step_plan g.task order n r.0 (omega (arith, long, short)) r.1.runs goal;
        each = λ t lt a b x y. subst (λ (c : ℕ). bars a c ≡ false) (one_member r.0 n t a b x y) (itself a);
      },
    )
