-- The goal holds in the one state where it holds in the other.
use Rattle.std.proofs.Common.{◌≡◌, ℕ, List, [], Bool, true, false, sym, ◌∙◌, Some}
use Rattle.std.proofs.lemmas.Bool.{false_from_ne_true, both_ways}
use Rattle.gt_core.specs.Execution.{IsGoal}
use Rattle.pd_model.specs.Plan.{meets_goal}
use Rattle.pd_model.specs.declared.atoms.Atom.{Atom}
use Rattle.pd_model.specs.declared.calls.Call.{Call}
use Rattle.pd_model.specs.declared.parts.Parts.{Parts}
use Rattle.grounding_defs.specs.Instance.{goal_of}
use Rattle.grounding_defs.specs.Simplify.{any_never}
use Rattle.grounding_defs.specs.Found.{grounded_by}
use Rattle.grounding_defs.proofs.Bridge.{literals_hold, conds_hold}
use Rattle.grounding_defs.proofs.Simplifying.{Tells, simplified_hold, never_hold}

module _ (p : Parts) (facts : List Atom) (calls : List Call) (n : ℕ → Bool) (s : List Atom) (tells : Tells p facts n s) where
  pub goal_to : IsGoal (grounded_by p facts calls).task n → meets_goal p (Some s) ≡ true
  goal_to goal =
      sym (conds_hold s [] p.goal) ∙ sym (simplified_hold p facts n s tells (goal_of p) goal.hopeful) ∙ goal.reached

  pub goal_from : meets_goal p (Some s) ≡ true → IsGoal (grounded_by p facts calls).task n
  goal_from met = record { hopeful = hopeful; reached = simplified_hold p facts n s tells (goal_of p) hopeful ∙ holds }
    where
      holds : literals_hold s (goal_of p) ≡ true
      holds = conds_hold s [] p.goal ∙ met

      hopeful : any_never p facts (goal_of p) ≡ false
      hopeful = false_from_ne_true (any_never p facts (goal_of p)) (λ t. both_ways (literals_hold s (goal_of p)) (never_hold p facts n s tells (goal_of p) t) holds)
