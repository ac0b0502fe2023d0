use Rattle.std.proofs.Common.{◌≡◌, ◌∙◌, [], ℕ, List, ap, subst}
use Rattle.std.specs.Prelude.{slice_index_or}
use Rattle.std.proofs.lemmas.List.{get_or_default}
use Rattle.gt_core.specs.Task.{Action, action}
use Rattle.successors.specs.Moves.{IsAdded}
use Rattle.successors.proofs.MovesLaw.{moves_more}
use Rattle.successors.proofs.moves.Moves.new.Goals as goal

pub loop-act-preserved : goal.loop-act-preserved
loop-act-preserved c =
    let task = c.args.task.now in
    let i = c.loop-act.act-index in
    let none : Action = record { precondition = []; effects = [] } in
    let same : c.act-item.result ≡ action task i =
    c.act-item.is ∙ get_or_default c.acts-act-items.result.now i c.act-item.result none c.loop-act-test.true ∙ ap (λ (xs : List Action). slice_index_or xs i none) c.acts-act-items.ensures.acts in
    moves_more task c.loop-act.moves c.add.new.self i c.loop-act.invariant
    (subst (λ (x : Action). IsAdded task.facts x c.loop-act.moves c.add.new.self) same (subst (λ (n : ℕ). IsAdded n c.act-item.result c.loop-act.moves c.add.new.self) c.facts.ensures.facts c.in_ok-add.ensures))
