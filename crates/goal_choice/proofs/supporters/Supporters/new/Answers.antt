use Rattle.std.proofs.Common.{◌≡◌, ◌++◌, ◌+◌, ◌/◌, ◌∙◌, ℕ, List, map, length, sym, ap, subst}
use Rattle.goal_choice.specs.declared.supporters.Blocks.{Blocks}
use Rattle.goal_choice.specs.Means.{Means}
use Rattle.goal_choice.specs.own.Members.{AreMeans}
use Rattle.goal_choice.specs.own.Needs.{supporters_in}
use Rattle.goal_choice.specs.own.Search.{AreMarked}
use Rattle.goal_choice.proofs.NeedsLaw.{built, seen_as}
use Rattle.goal_choice.proofs.supporters.Supporters.new.Goals as goal

pub invariant_of-result : goal.invariant_of-result
invariant_of-result c =
    let task = c.args.task.now in
    let z = c.one_layout-layout.result in
    let goal = c.in_ok-extend_from_slice.ensures.items ∙ ap (λ (ls : List ℕ). ls ++ c.goal-2.result.now) c.in_ok-goal.ensures.items ∙ c.goal-2.ensures in
    let variables = c.in_ok-variables.ensures.lists ∙ ap (λ (index : List (List ℕ)). map (map (λ c. c / 2)) index) c.deref.ensures.value in
    let all = built task z _ c.in_ok-index.index.items _ _ c.facts-lawful.ensures.lawful c.one_layout-layout.ensures goal c.in_ok-index.ensures variables c.in_ok-needs.ensures in
    subst (λ (b : Blocks). AreMeans (record { layout = z; goal = b.goal.items; supporters = supporters_in b.needs b.variables }) × AreMarked b.rising.items b.variables × (length b.needs ≡ z.actions + z.conditional)) (sym c.in_ok-new.ensures.ok)
    (all.0, c.in_ok-variables.ensures.marked, all.1)

pub returns : goal.returns
returns c =
    let task = c.args.task.now in
    let z = c.one_layout-layout.result in
    let goal = c.in_ok-extend_from_slice.ensures.items ∙ ap (λ (ls : List ℕ). ls ++ c.goal-2.result.now) c.in_ok-goal.ensures.items ∙ c.goal-2.ensures in
    let variables = c.in_ok-variables.ensures.lists ∙ ap (λ (index : List (List ℕ)). map (map (λ c. c / 2)) index) c.deref.ensures.value in
    ap (λ (b : Blocks). (let m : Means = record { layout = z; goal = b.goal.items; supporters = supporters_in b.needs b.variables } in m)) c.in_ok-new.ensures.ok
    ∙ seen_as task z _ c.in_ok-index.index.items _ _ c.facts-lawful.ensures.lawful c.one_layout-layout.ensures goal c.in_ok-index.ensures variables c.in_ok-needs.ensures
