-- Executing calls and running their actions is the same.
use Rattle.std.proofs.Common.{zero, suc, take, ◌≡◌, ℕ, List, [], ◌∷◌, Bool, refl, sym, ◌∙◌, subst, Some, IsTrue, ◌↔◌}
use Rattle.gt_core.specs.Task.{Task, initial_state}
use Rattle.gt_core.specs.Execution.{CanRun, run, next_of_one, IsGoal}
use Rattle.pd_model.specs.Exec.{exec}
use Rattle.pd_model.specs.Plan.{exec_all, meets_goal}
use Rattle.pd_model.specs.declared.atoms.Atom.{Atom}
use Rattle.pd_model.specs.declared.calls.Call.{Call}
use Rattle.pd_model.specs.declared.parts.Parts.{Parts}
use Rattle.grounding_defs.specs.Grounded.{Grounded, IsGrounded}
use Rattle.grounding_defs.specs.Found.{grounded_by}
use Rattle.grounding_defs.specs.Laws.{AreNumbers, IsSameState, RunsAlike, AreExecuted, CallsAreActions, ActionsAreCalls, AtomsAreKnown, GoalsAgree}
use Rattle.grounding_defs.proofs.Bridge.{first_executed, executed_on, some_is}
use Rattle.grounding_defs.proofs.Reaching.{IsLawful}
use Rattle.grounding_defs.proofs.Constants.{fact_or_constant}
use Rattle.grounding_defs.proofs.Steps.{tells}
use Rattle.grounding_defs.proofs.Turns.{Agree, begin, turn_of_call, turn_of_action}
use Rattle.grounding_defs.proofs.Goal.{goal_to, goal_from}
use Rattle.grounding_defs.proofs.Whole.{made, remade}

module _ (p : Parts) (facts : List Atom) (calls : List Call) (is : IsGrounded p (grounded_by p facts calls)) where
  abbrev task : Task
  task = (grounded_by p facts calls).task

  abbrev AreNamed : List Call → List ℕ → Type 0
  AreNamed cs numbers = AreNumbers (grounded_by p facts calls) cs numbers

  abbrev IsSame : (ℕ → Bool) → List Atom → Type 0
  IsSame n s = IsSameState (grounded_by p facts calls) n s

  abbrev AgreeIn : (ℕ → Bool) → List Atom → Type 0
  AgreeIn n s = Agree p facts calls is n s

  -- the states after the first k of them are the same
  abbrev IsSameBetween : (ℕ → Bool) → List Atom → List Call → List ℕ → Type 0
  IsSameBetween n s cs numbers = (k : ℕ) (u : List Atom) → exec_all p s (take k cs) ≡ Some u → IsSame (run task n (take k numbers)) u

  here : (n : ℕ → Bool) (s u : List Atom) → AgreeIn n s → Some s ≡ Some u → IsSame n u
  here n s u agree e = subst (IsSame n) (some_is s u e) agree.same

  of_none : (n : ℕ → Bool) (s : List Atom) → AgreeIn n s → IsSameBetween n s [] []
  of_none n s agree zero u e = here n s u agree e
  of_none n s agree (suc k) u e = here n s u agree e

  of_first : (n : ℕ → Bool) (s : List Atom) (m : ℕ) (c : Call) (t : List Atom) (cs : List Call) (numbers : List ℕ) → AgreeIn n s → exec p s c ≡ Some t → IsSameBetween (next_of_one task n m) t cs numbers → IsSameBetween n s (c ∷ cs) (m ∷ numbers)
  of_first n s m c t cs numbers agree first rest zero u e = here n s u agree e
  of_first n s m c t cs numbers agree first rest (suc k) u e = rest k u (sym (executed_on p s t c (take k cs) first) ∙ e)

  -- calls are executed where these actions run, to states that agree
  pub record Alike (n : ℕ → Bool) (s : List Atom) (cs : List Call) (t : List Atom) (numbers : List ℕ) : Type 0 where
    pub executed : exec_all p s cs ≡ Some t
    pub named : AreNamed cs numbers
    pub runs : CanRun task n numbers
    pub agree : AgreeIn (run task n numbers) t
    pub between : IsSameBetween n s cs numbers

  pub to_actions : (n : ℕ → Bool) (s : List Atom) (cs : List Call) (t : List Atom) → AgreeIn n s → exec_all p s cs ≡ Some t → (numbers : List ℕ) × Alike n s cs t numbers
  to_actions n s [] t agree e = ([], record { executed = e; named = tt; runs = tt; agree = subst (AgreeIn n) (some_is s t e) agree; between = of_none n s agree })
  to_actions n s (c ∷ cs) t agree e =
      let first = first_executed p s c cs t e in
      let turn = turn_of_call p facts calls is n s c first.0 agree first.1 in
      let rest = to_actions (next_of_one task n turn.0) first.0 cs t turn.1.agree first.2 in
      (turn.0 ∷ rest.0, record { executed = e; named = (turn.1.named, rest.1.named); runs = (turn.1.runs, rest.1.runs); agree = rest.1.agree; between = of_first n s turn.0 c first.0 cs rest.0 agree first.1 rest.1.between })

  pub to_calls : (n : ℕ → Bool) (s : List Atom) (numbers : List ℕ) → AgreeIn n s → CanRun task n numbers → (cs : List Call) × (t : List Atom) × Alike n s cs t numbers
  to_calls n s [] agree runs = ([], s, record { executed = refl; named = tt; runs = tt; agree = agree; between = of_none n s agree })
  to_calls n s (k ∷ numbers) agree runs =
      let turn = turn_of_action p facts calls is n s k agree runs.0 in
      let rest = to_calls (next_of_one task n k) turn.1 numbers turn.2.agree runs.1 in (
        turn.0 ∷ rest.0,
        rest.1,
        record {
          executed = executed_on p s turn.1 turn.0 rest.0 turn.2.executed ∙ rest.2.executed;
          named = (turn.2.named, rest.2.named);
          runs = runs;
          agree = rest.2.agree;
          between = of_first n s k turn.0 turn.1 rest.0 numbers agree turn.2.executed rest.2.between;
        },
      )

  -- from the initial state on
  pub executed_alike : (cs : List Call) (t : List Atom) → AreExecuted p cs t → (numbers : List ℕ) × Alike (initial_state task) p.init cs t numbers
  executed_alike cs t executed = to_actions (initial_state task) p.init cs t (begin p facts calls is) executed

pub calls_are_actions : CallsAreActions
calls_are_actions p g is calls t executed =
    let found = executed_alike p g.facts g.calls (remade p g is) calls t executed in
    (found.0, subst (λ (h : Grounded). RunsAlike p h calls t found.0) (made p g is) (record { named = found.1.named; runs = found.1.runs; same = found.1.agree.same; between = found.1.between }))

pub actions_are_calls : ActionsAreCalls
actions_are_calls p g is numbers runs =
    let again = remade p g is in
    let can = subst (λ (h : Grounded). CanRun h.task (initial_state h.task) numbers) (sym (made p g is)) runs in
    let found = to_calls p g.facts g.calls again (initial_state (grounded_by p g.facts g.calls).task) p.init numbers (begin p g.facts g.calls again) can in (
      found.0,
      found.1,
      found.2.executed,
      subst (λ (h : Grounded). RunsAlike p h found.0 found.1 numbers) (made p g is) (record { named = found.2.named; runs = found.2.runs; same = found.2.agree.same; between = found.2.between }),
    )

lawful_after : (p : Parts) (g : Grounded) → IsGrounded p g → (calls : List Call) (t : List Atom) → AreExecuted p calls t → IsLawful p t
lawful_after p g is calls t executed = (executed_alike p g.facts g.calls (remade p g is) calls t executed).1.agree.lawful

pub atoms_are_known : AtomsAreKnown
atoms_are_known p g is calls t executed =
    let lawful = lawful_after p g is calls t executed in
    record {
      known = λ a h. fact_or_constant p g.facts is.fact_is a (lawful.reachable a h);
      constant = lawful.constant;
    }

pub goals_agree : GoalsAgree
goals_agree p g is calls t executed n same =
    let told = tells p g.facts g.calls (remade p g is) n t same (lawful_after p g is calls t executed) in
    subst (λ (h : Grounded). IsGoal h.task n ↔ IsTrue (meets_goal p (Some t))) (made p g is) (goal_to p g.facts g.calls n t told, goal_from p g.facts g.calls n t told)
