-- What stands where effects are read. Only private clauses speak of it.
use Rattle.std.specs.Prelude.{List}
use Rattle.pd_model.specs.declared.effects.Effect.{Effect}
use Rattle.pd_model.specs.Sameness.{Under}

-- the effects that were read, and what the next one stands under
pub record Found : Type 0 where
  pub effects : List Effect
  pub under : Under
