-- An action that is tried over what was reached on both sides of it.
use Rattle.std.specs.Prelude.{◌≡◌, ◌*◌, []}
use Rattle.implied_literals.specs.Tested.{ActionFits}
use Rattle.never_check.specs.Trail.{Reached}
use Rattle.never_check.specs.Rules.{AreRules}
use Rattle.never_check.specs.Verdicts.{IsBase, IsLeast}
use Rattle.never_check.specs.declared.backward.Sides.{Sides}
use Rattle.never_check.specs.declared.backward.Step.{Step}

-- by what literals are followed on both sides of a step
pub record AreSides (sides : Sides) : Type 0 where
  pub plain : AreRules sides.plain.now
  pub whole : AreRules sides.whole.now
  pub known : sides.plain.now.known.now ≡ sides.whole.now.known.now
  pub none : sides.plain.now.clauses.now ≡ []

-- the action is over the facts of the rules
pub record IsStep (step : Step) : Type 0 where
  pub sides : AreSides step.sides.now
  pub fits : ActionFits (2 * step.sides.now.whole.now.known.now.facts) step.act.now

-- each trail has all that the rules of its side tell by themselves
pub record IsBegunStep (tried : Step) (before after : Reached) : Type 0 where
  pub step : IsStep tried
  pub plain : IsBase tried.sides.now.plain.now before
  pub base : IsBase tried.sides.now.whole.now after

-- the first trail has all that the rules tell of the precondition
pub record IsAssumedStep (tried : Step) (before after : Reached) : Type 0 where
  pub step : IsStep tried
  pub least : IsLeast tried.sides.now.plain.now tried.act.now.precondition before
  pub base : IsBase tried.sides.now.whole.now after

-- two trails are as two others
pub record AreSame (one other first second : Reached) : Type 0 where
  pub before : one ≡ first
  pub after : other ≡ second
