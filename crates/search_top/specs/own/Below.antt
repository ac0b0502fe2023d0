-- The actions of which a text tells.
use Rattle.std.specs.Prelude.{◌<◌, ℕ}
use Rattle.std.specs.List.{AllByRecursion}
use Rattle.state_search.specs.declared.answer.End.{End}
use Rattle.state_search.specs.declared.answer.End.TheVariants as ends
use Rattle.never_search.specs.declared.answer.End.{End as Found}
use Rattle.never_search.specs.declared.answer.End.TheVariants as found
use Rattle.search_top.specs.declared.judged.Judgement.{Judgement}
use Rattle.search_top.specs.declared.judged.Judgement.TheVariants as says

-- the actions of a plan are below a number
abbrev pub IsBelow : ℕ → End → Type 0
IsBelow n (ends.Plan actions) = AllByRecursion (λ a. a < n) actions
IsBelow n _ = Unit {0}

-- the action that is told of a certificate is below a number
abbrev pub HasActions : ℕ → Judgement → Type 0
HasActions n (says.Pair clause action) = action < n
HasActions n (says.Action action) = action < n
HasActions n _ = Unit {0}

-- the actions of a plan that a search met are below a number
abbrev pub IsFoundBelow : ℕ → Found → Type 0
IsFoundBelow n (found.Plan actions) = AllByRecursion (λ a. a < n) actions.items
IsFoundBelow n _ = Unit {0}
