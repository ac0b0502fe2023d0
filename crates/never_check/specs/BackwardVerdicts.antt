-- What a check of a backward set comes to.
use Rattle.std.specs.Prelude.{◌≡◌, ℕ, ◌<◌, List, [], ◌++◌, map, Bool, length, slice_index_or, Option, MatchOption}
use Rattle.std.specs.List.{AllByRecursion}
use Rattle.gt_core.specs.Literal.{opposite, is_in}
use Rattle.gt_core.specs.Task.{Action, Task, action, initial_state}
use Rattle.implied_literals.specs.Rows.{HasNoPair}
use Rattle.never_defs.specs.Sets.{AreTrue}
use Rattle.never_defs.specs.Propagation.{IsPropagated, IsRefuted}
use Rattle.never_defs.specs.After.{holds_surely}
use Rattle.never_defs.specs.Backward.{PassesBackward, GoalPassesBackward, IsBackwardCertificate}
use Rattle.never_check.specs.declared.rules.Rules.{Rules}
use Rattle.never_check.specs.declared.backward.BackwardVerdict.{BackwardVerdict}
use Rattle.never_check.specs.declared.backward.BackwardVerdict.TheVariants as verdict

-- what surely holds after an action, where the clause with a number is false before it, is refuted
abbrev pub IsStepRefuted : Rules → Action → ℕ → Type 0
IsStepRefuted rules x k =
    (set : ℕ → Bool) → IsPropagated rules.known.now.clauses [] (is_in (x.precondition ++ map opposite (slice_index_or rules.clauses.now k []))) set → HasNoPair set
    → IsRefuted rules.known.now.clauses rules.clauses.now (holds_surely set x)

-- an action passes at all clauses
abbrev pub ArePassedBackward : Rules → Action → Type 0
ArePassedBackward rules x = AllByRecursion (PassesBackward rules.known.now.clauses rules.clauses.now x) rules.clauses.now

-- it does not pass at the clause with a number
abbrev pub FailsBackward : Rules → Action → ℕ → Type 0
FailsBackward rules x k = (k < length rules.clauses.now) × (PassesBackward rules.known.now.clauses rules.clauses.now x (slice_index_or rules.clauses.now k []) → ⊥)

-- each action passes at each clause
abbrev pub AllStepsPass : Task → List (ℕ × ℕ) → List (List ℕ) → Type 0
AllStepsPass task known clauses = (a : ℕ) → a < length task.actions → AllByRecursion (PassesBackward known clauses (action task a)) clauses

-- whether an action passes at all clauses, or the number of one at which it does not
abbrev pub TellsStep : Rules → Action → Option ℕ → Type 0
TellsStep rules x o = MatchOption o (ArePassedBackward rules x) (FailsBackward rules x)

-- at the clause with the first number the action with the second does not pass
abbrev pub StepFails : Task → List (ℕ × ℕ) → List (List ℕ) → ℕ × ℕ → Type 0
StepFails task known clauses p = (p.0 < length clauses) × (p.1 < length task.actions) × (PassesBackward known clauses (action task p.1) (slice_index_or clauses p.0 []) → ⊥)

-- what a verdict says of a backward set
abbrev pub IsBackwardVerdict : Task → List (ℕ × ℕ) → List (List ℕ) → BackwardVerdict → Type 0
IsBackwardVerdict task known clauses verdict.Accepted = IsBackwardCertificate task known clauses
IsBackwardVerdict task known clauses verdict.Initial = AreTrue (initial_state task) clauses
IsBackwardVerdict task known clauses (verdict.Goal k) = (k < length clauses) × (GoalPassesBackward task known (slice_index_or clauses k []) → ⊥)
IsBackwardVerdict task known clauses (verdict.Pair k a) = (k < length clauses) × (a < length task.actions) × (PassesBackward known clauses (action task a) (slice_index_or clauses k []) → ⊥)
