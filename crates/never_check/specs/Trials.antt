-- An action that is tried over what was reached.
use Rattle.std.specs.Prelude.{◌*◌}
use Rattle.implied_literals.specs.Tested.{ActionFits}
use Rattle.never_check.specs.Trail.{Reached}
use Rattle.never_check.specs.Rules.{AreRules}
use Rattle.never_check.specs.Verdicts.{IsBase, IsLeast}
use Rattle.never_check.specs.declared.forward.Trial.{Trial}

-- the action is over the facts of the rules
pub record IsTrial (trial : Trial) : Type 0 where
  pub rules : AreRules trial.rules.now
  pub fits : ActionFits (2 * trial.rules.now.known.now.facts) trial.act.now

-- a trail has all that the rules tell by themselves
pub record IsBegun (tried : Trial) (trail : Reached) : Type 0 where
  pub trial : IsTrial tried
  pub base : IsBase tried.rules.now trail

-- a trail has all that the rules tell of the precondition
pub record IsAssumed (tried : Trial) (trail : Reached) : Type 0 where
  pub trial : IsTrial tried
  pub least : IsLeast tried.rules.now tried.act.now.precondition trail
