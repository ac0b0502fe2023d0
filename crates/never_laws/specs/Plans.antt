-- What a certificate over the ground task says of the plans of the files that it comes from.
use Rattle.std.specs.Prelude.{ℕ, List, []}
use Rattle.pd_model.specs.Plan.{IsPlan}
use Rattle.pd_model.specs.declared.calls.Call.{Call}
use Rattle.pd_model.specs.declared.parts.Parts.{Parts}
use Rattle.two_invariants.specs.Closed.{AreInvariants}
use Rattle.grounding_defs.specs.Grounded.{Grounded, IsGrounded}
use Rattle.never_defs.specs.Forward.{IsForwardCertificate, GoalPassesForward}
use Rattle.never_defs.specs.Backward.{IsBackwardCertificate}
use Rattle.never_defs.specs.Weights.{AreWeightsCertified}

-- no calls of the files are a plan, however many
abbrev pub HasNoPlan : Parts → Type 0
HasNoPlan p = (calls : List Call) → IsPlan p calls → ⊥

-- where clauses pass the check of a forward set under the invariants, there is no plan
abbrev pub ForwardCertificateHasNoPlan : Type 0
ForwardCertificateHasNoPlan =
    (p : Parts) (g : Grounded) (known : List (ℕ × ℕ)) (clauses : List (List ℕ))
    → IsGrounded p g → AreInvariants g.task known → IsForwardCertificate g.task known clauses → HasNoPlan p

-- the same of a backward set
abbrev pub BackwardCertificateHasNoPlan : Type 0
BackwardCertificateHasNoPlan =
    (p : Parts) (g : Grounded) (known : List (ℕ × ℕ)) (clauses : List (List ℕ))
    → IsGrounded p g → AreInvariants g.task known → IsBackwardCertificate g.task known clauses → HasNoPlan p

-- the same of weights
abbrev pub CertifiedWeightsHaveNoPlan : Type 0
CertifiedWeightsHaveNoPlan =
    (p : Parts) (g : Grounded) (known weights : List (ℕ × ℕ))
    → IsGrounded p g → AreInvariants g.task known → AreWeightsCertified g.task known weights → HasNoPlan p

-- where the goal is hopeless or the invariants exclude it, there is no plan, without any certificate
abbrev pub ExcludedGoalHasNoPlan : Type 0
ExcludedGoalHasNoPlan =
    (p : Parts) (g : Grounded) (known : List (ℕ × ℕ))
    → IsGrounded p g → AreInvariants g.task known → GoalPassesForward g.task known [] → HasNoPlan p
