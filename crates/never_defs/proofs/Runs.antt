-- Along a run what a step keeps is kept.
use Rattle.std.proofs.Common.{arith, ℕ, ◌≤◌, List, [], ◌∷◌, Bool}
use Rattle.gt_core.specs.Task.{Task, initial_state}
use Rattle.gt_core.specs.Execution.{Runs, CanRun, run, next_of_one, IsGoal}
use Rattle.gt_core.specs.Interference.{Knows}
use Rattle.never_defs.specs.Sets.{AreTrue, IsKnownStep, IsForwardSet, IsBackwardSet, AreWeights, weight_in}
use Rattle.never_defs.specs.Laws.{ForwardSetHasNoRun, BackwardSetHasNoRun, WeightsHaveNoRun}

-- the known clauses hold in each state that actions reach from one
abbrev HoldsFrom : Task → List (ℕ × ℕ) → (ℕ → Bool) → Type 0
HoldsFrom task known s = (ks : List ℕ) → CanRun task s ks → Knows known (run task s ks)

module _ (task : Task) (known : List (ℕ × ℕ)) where
  first_step : (s : ℕ → Bool) (a : ℕ) → HoldsFrom task known s → Runs task s a → IsKnownStep task known s a
  first_step s a from runs = record { runs = runs; before = from [] tt; after = from (a ∷ []) (runs, tt) }

  later : (s : ℕ → Bool) (a : ℕ) → HoldsFrom task known s → Runs task s a → HoldsFrom task known (next_of_one task s a)
  later s a from runs = λ ks can. from (a ∷ ks) (runs, can)

  forward_from : (clauses : List (List ℕ)) → IsForwardSet task known clauses → (s : ℕ → Bool) (ks : List ℕ) → HoldsFrom task known s → AreTrue s clauses → CanRun task s ks → IsGoal task (run task s ks) → ⊥
  forward_from clauses is s [] from are can goal = is.goal s (from [] tt) are goal
  forward_from clauses is s (a ∷ ks) from are can goal =
      forward_from clauses is (next_of_one task s a) ks (later s a from can.0) (is.next s a (first_step s a from can.0) are) can.1 goal

  backward_from : (clauses : List (List ℕ)) → IsBackwardSet task known clauses → (s : ℕ → Bool) (ks : List ℕ) → HoldsFrom task known s → CanRun task s ks → IsGoal task (run task s ks) → AreTrue s clauses
  backward_from clauses is s [] from can goal = is.goal s (from [] tt) goal
  backward_from clauses is s (a ∷ ks) from can goal =
      is.next s a (first_step s a from can.0) (backward_from clauses is (next_of_one task s a) ks (later s a from can.0) can.1 goal)

  weights_from : (weights : List (ℕ × ℕ)) → AreWeights task known weights → (s : ℕ → Bool) (ks : List ℕ) → HoldsFrom task known s → CanRun task s ks → weight_in (run task s ks) weights ≤ weight_in s weights
  weights_from weights are s [] from can = omega arith
  weights_from weights are s (a ∷ ks) from can =
      let rest = weights_from weights are (next_of_one task s a) ks (later s a from can.0) can.1 in
      let here = are.next s a (first_step s a from can.0) in
      omega (arith, rest, here)

pub forward_has_no_run : ForwardSetHasNoRun
forward_has_no_run task known clauses holds is ks run = forward_from task known clauses is (initial_state task) ks holds is.initial run.runs run.reaches

pub backward_has_no_run : BackwardSetHasNoRun
backward_has_no_run task known clauses holds is ks run = is.initial (backward_from task known clauses is (initial_state task) ks holds run.runs run.reaches)

pub weights_have_no_run : WeightsHaveNoRun
weights_have_no_run task known weights holds are ks to_goal =
    let falls = weights_from task known weights are (initial_state task) ks holds to_goal.runs in
    let rises = are.goal (run task (initial_state task) ks) (holds ks to_goal.runs) to_goal.reaches in
    omega (arith, falls, rises)
