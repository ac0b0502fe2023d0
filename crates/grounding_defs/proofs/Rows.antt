-- Small tasks, grounded by computation from the definitions alone.
use Rattle.std.proofs.Common.{ℕ, List, [], ◌∷◌}
use Rattle.gt_core.specs.Task.{Effect, Action}
use Rattle.grounding_defs.specs.Grounded.{Grounded}
use Rattle.grounding_defs.specs.Found.{grounded_from}
use Rattle.grounding_defs.proofs.Tasks.{call, has, plain, p, both_0}

abbrev effect : List ℕ → ℕ → Effect
effect condition literal = record { condition = condition; literal = literal }

abbrev action : List ℕ → List Effect → Action
action precondition effects = record { precondition = precondition; effects = effects }

-- an action that adds and deletes p
abbrev both : Grounded
both = grounded_from (plain (both_0 ∷ []) [] (has 0 [] ∷ [])) (p ∷ []) (call 0 [] ∷ [])
