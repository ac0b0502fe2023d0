-- What a check of weights comes to.
use Rattle.std.specs.Prelude.{◌≡◌, ℕ, ◌*◌, ◌<◌, ◌≤◌, List, [], length, sum_by}
use Rattle.std.specs.List.{AllByRecursion}
use Rattle.gt_core.specs.Task.{Task, action}
use Rattle.never_defs.specs.Weights.{PassesWeights, GoalPassesWeights, AreWeightsCertified}
use Rattle.never_check.specs.Trail.{Reached}
use Rattle.never_check.specs.Rules.{AreRules}
use Rattle.never_check.specs.Verdicts.{IsBase}
use Rattle.never_check.specs.declared.rules.Rules.{Rules}
use Rattle.never_check.specs.declared.weights.WeightsVerdict.{WeightsVerdict}
use Rattle.never_check.specs.declared.weights.WeightsVerdict.TheVariants as verdict

-- the literals are below a size, and the sum of the weights fits
pub record AreSummed (size : ℕ) (weights : List (ℕ × ℕ)) : Type 0 where
  pub over : AllByRecursion (λ w. w.0 < size) weights
  pub total : sum_by (λ w. w.1) weights ≤ 9223372036854775807

-- weights over the facts of the known clauses, and a trail that has all that these tell by themselves
pub record IsWeighing (plain : Rules) (ws : List (ℕ × ℕ)) (trail : Reached) : Type 0 where
  pub rules : AreRules plain
  pub none : plain.clauses.now ≡ []
  pub weights : AreSummed (2 * plain.known.now.facts) ws
  pub base : IsBase plain trail

-- what a verdict says of weights
abbrev pub IsWeightsVerdict : Task → List (ℕ × ℕ) → List (ℕ × ℕ) → WeightsVerdict → Type 0
IsWeightsVerdict task known weights verdict.Accepted = AreWeightsCertified task known weights
IsWeightsVerdict task known weights verdict.Goal = GoalPassesWeights task known weights → ⊥
IsWeightsVerdict task known weights (verdict.Action a) = (a < length task.actions) × (PassesWeights known weights (action task a) → ⊥)
