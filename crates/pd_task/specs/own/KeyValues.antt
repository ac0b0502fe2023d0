-- The keys of an action, as the definitions have them. Only private clauses speak of it.
use Rattle.std.specs.Prelude.{option_map}
use Rattle.pd_sexp.specs.View.{view}
use Rattle.pd_task.specs.declared.action.Keys.{Keys}
use Rattle.pd_task.specs.Action as action

-- the values that the `Keys` of the reader have
abbrev pub keys_of : Keys → action.Keys
keys_of keys = record {
  parameters = option_map (λ t. view t.now) keys.parameters;
  precondition = option_map (λ t. view t.now) keys.precondition;
  effect = option_map (λ t. view t.now) keys.effect;
}
