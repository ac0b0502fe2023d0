use Rattle.std.proofs.Common.{◌≡◌, length}
use Rattle.std.specs.Prelude.{option_map}
use Rattle.pd_sexp.specs.View.{view, views}
use Rattle.pd_task.specs.Action.{keys_from, no_keys}
use Rattle.pd_task.proofs.action.read_keys.Given as goal

abbrev pub invariant-loop-word : goal.invariant-loop-word
invariant-loop-word l =
    keys_from l.at (record { parameters = option_map (λ t. view t.now) l.parameters; precondition = option_map (λ t. view t.now) l.precondition; effect = option_map (λ t. view t.now) l.effect }) (views l.rest)
    ≡ keys_from l.at no_keys (views l.items)

abbrev pub decreases-loop-word : goal.decreases-loop-word
decreases-loop-word l = length l.rest
