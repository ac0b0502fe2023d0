-- What is kept of an effect.
use Rattle.std.specs.Prelude.{[]}
use Rattle.gt_core.specs.declared.eff.Kind.{Kind}
use Rattle.gt_core.specs.declared.eff.Kind.TheVariants as kind
use Rattle.gt_core.specs.Task.{Effect}

-- the effect for which it is kept
abbrev pub effect_held : Kind → Effect
effect_held (kind.Sure lit) = record { condition = []; literal = lit }
effect_held (kind.When when) = record { condition = when.value.cond; literal = when.value.lit }
