use Rattle.std.proofs.Common.{◌∙◌, ◌+◌, drop, get_or, ap, sym, subst}
use Rattle.std.proofs.lemmas.List.{drop_more}
use Rattle.std.proofs.lemmas.List.Sorted.{IsNonDecreasingBy-drop}
use Rattle.std.specs.List.Sorted.{IsNonDecreasing}
use Rattle.goal_choice.specs.own.Search.{least_variable}
use Rattle.goal_choice.proofs.Found.{first_least}
use Rattle.goal_choice.proofs.search.first_with.Goals as goal

pub returns-then-has_value : goal.returns-then-has_value
returns-then-has_value c =
    let vs = c.args.variables.now in
    let i = c.loop-variable.variable-index in
    let next = drop_more vs i 0 c.loop-variable-test.true in
    let rising = subst IsNonDecreasing next (IsNonDecreasingBy-drop (λ x. x) i vs c.requires.rising) in
    sym (first_least c.args.values.now c.args.value c.args.start (get_or vs i 0) (drop (i + 1) vs) rising (sym c.has_value.ensures ∙ c.if-has_value.true))
    ∙ sym (ap (least_variable c.args.values.now c.args.value c.args.start) next)
    ∙ c.loop-variable.invariant
