use Rattle.std.proofs.Common.{arith, ◌<◌, List, ℕ, [], length, ◌∙◌, subst}
use Rattle.action_order.specs.own.Graph.{class_at}
use Rattle.action_order.specs.own.Sorting.{IsSorting}
use Rattle.gt_core.proofs.published.Literals.{below_range, in_among}
use Rattle.action_order.proofs.published.Lists.{in_at}
use Rattle.action_order.proofs.SortingLaw.{sorting_start, all_taken, fewer_untaken, component_named}
use Rattle.action_order.proofs.sort.sort_components.Goals as goal

pub release-requires-clause-sorting : goal.release-requires-clause-sorting
release-requires-clause-sorting c =
    rw (c.as_slice.ensures.value, c.in_ok-all.ensures, c.in_ok-sort.ensures.taken, c.in_ok-sort.ensures.passed, c.in_ok-sort.ensures.waiting, c.in_ok-sort.ensures.ready, c.in_ok-sort.ensures.order) (sorting_start c.args.rows.now c.args.names.now c.args.numbers.now)

pub release-requires-clause-below : goal.release-requires-clause-below
release-requires-clause-below c =
    rw (c.as_slice.ensures.value, c.in_ok-all.ensures) (λ i li. below_range (length c.args.rows.now) _ (in_among _ _ (in_at _ i li)))

pub returns-in-None : goal.returns-in-None
returns-in-None c =
    all_taken c.args.rows.now c.args.names.now c.args.numbers.now _ _ _ _ c.requires.rows
    (subst (λ (ks : List ℕ). IsSorting c.args.rows.now c.args.names.now c.args.numbers.now c.loop-sort.sort.taken.items c.loop-sort.sort.passed.items c.loop-sort.sort.waiting.items ks c.loop-sort.sort.order.items []) c.in-None.ensures.none c.loop-sort.invariant)

pub loop-sort-smaller : goal.loop-sort-smaller
loop-sort-smaller c =
    let d = c.loop-sort.invariant in
    let t = class_at c.args.numbers.now c.in-Some.name in
    let n = component_named c.args.rows.now c.args.names.now c.args.numbers.now c.loop-sort.sort.order.items c.in-Some.name c.requires.rows (d.ready_is c.in-Some.name c.in-Some.ensures.first.among) in
    let lt : t < length c.loop-sort.sort.taken.items = let l = d.taken_long in let b = n.0 in omega arith in
    rw c.in_ok-take-in-Some.ensures.taken (fewer_untaken c.loop-sort.sort.taken.items t lt (d.marks t n.0 ∙ n.2))
