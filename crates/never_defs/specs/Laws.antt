-- What sets of clauses and weights are good for: no actions lead to the goal, however many.
use Rattle.std.specs.Prelude.{◌≡◌, ℕ, List, [], Bool, true}
use Rattle.gt_core.specs.Literal.{holds}
use Rattle.gt_core.specs.Task.{Task}
use Rattle.gt_core.specs.Interference.{Knows}
use Rattle.gt_core.specs.Laws.{HasNoRun}
use Rattle.gt_core.specs.Reached.{HoldsWherever}
use Rattle.never_defs.specs.Sets.{AreTrue, IsForwardSet, IsBackwardSet, AreWeights}
use Rattle.never_defs.specs.Propagation.{IsRefuted}
use Rattle.never_defs.specs.Forward.{IsForwardCertificate, GoalPassesForward}
use Rattle.never_defs.specs.Backward.{IsBackwardCertificate}
use Rattle.never_defs.specs.Weights.{AreWeightsCertified}

-- what passes the check is such a set, or such weights
abbrev pub ForwardCertificatesHold : Type 0
ForwardCertificatesHold = (task : Task) (known : List (ℕ × ℕ)) (clauses : List (List ℕ)) → IsForwardCertificate task known clauses → IsForwardSet task known clauses

-- the same of a set that is read backward
abbrev pub BackwardCertificatesHold : Type 0
BackwardCertificatesHold = (task : Task) (known : List (ℕ × ℕ)) (clauses : List (List ℕ)) → IsBackwardCertificate task known clauses → IsBackwardSet task known clauses

-- the same of weights
abbrev pub CertifiedWeightsHold : Type 0
CertifiedWeightsHold = (task : Task) (known : List (ℕ × ℕ)) (weights : List (ℕ × ℕ)) → AreWeightsCertified task known weights → AreWeights task known weights

-- where the known clauses hold in each state that is reached, such a set or such weights leave no run to the goal
abbrev pub ForwardSetHasNoRun : Type 0
ForwardSetHasNoRun = (task : Task) (known : List (ℕ × ℕ)) (clauses : List (List ℕ)) → HoldsWherever task known → IsForwardSet task known clauses → HasNoRun task

-- the same of a set that is read backward
abbrev pub BackwardSetHasNoRun : Type 0
BackwardSetHasNoRun = (task : Task) (known : List (ℕ × ℕ)) (clauses : List (List ℕ)) → HoldsWherever task known → IsBackwardSet task known clauses → HasNoRun task

-- the same of weights
abbrev pub WeightsHaveNoRun : Type 0
WeightsHaveNoRun = (task : Task) (known : List (ℕ × ℕ)) (weights : List (ℕ × ℕ)) → HoldsWherever task known → AreWeights task known weights → HasNoRun task

-- where the goal is hopeless, or refuted by the known clauses alone, the set without a clause passes the check
abbrev pub NothingIsNeeded : Type 0
NothingIsNeeded = (task : Task) (known : List (ℕ × ℕ)) → GoalPassesForward task known [] → IsForwardCertificate task known []

-- no state in which the clauses hold has all literals of what is refuted
abbrev pub RefutedNeverHolds : Type 0
RefutedNeverHolds =
    (known : List (ℕ × ℕ)) (clauses : List (List ℕ)) (base s : ℕ → Bool)
    → Knows known s → AreTrue s clauses → ((l : ℕ) → base l ≡ true → holds s l ≡ true) → IsRefuted known clauses base → ⊥
