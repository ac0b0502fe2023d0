use Rattle.std.proofs.Common.{arith, ◌≡◌, ◌+◌, ◌-◌, ℕ, List, ◌∷◌, length, take, drop, length-drop, ap, sym, ◌∙◌, subst}
use Rattle.std.proofs.lemmas.List.{at_drop_more, drop_all, take_all}
use Rattle.action_order.specs.own.Graph.{item}
use Rattle.action_order.specs.own.SortingOf.{IsSortingOf}
use Rattle.action_order.proofs.sort.TopologicalSort.release.Goals as goal

rest : (xs : List ℕ) (i : ℕ) → take (length xs - i) (drop i xs) ≡ drop i xs
rest xs i = take_all (length xs - i) (drop i xs) (omega (arith, length-drop i xs))

pub settle-requires-clause-sorting : goal.settle-requires-clause-sorting
settle-requires-clause-sorting c =
    let free = c.args.free.now in
    let i = c.loop-i.i in
    subst (IsSortingOf c.args.rows.now c.args.names.now c.args.numbers.now c.loop-i.self)
    (at_drop_more (λ (xs : List ℕ). xs) free i 0 c.loop-i-test.true ∙ ap (λ (xs : List ℕ). item free i ∷ xs) (sym (rest free (i + 1)))) c.loop-i.invariant.sorting

pub loop-i-preserved : goal.loop-i-preserved
loop-i-preserved c = record {
  sorting = subst (IsSortingOf c.args.rows.now c.args.names.now c.args.numbers.now c.settle.new.self) (rest c.args.free.now (c.loop-i.i + 1)) c.in_ok-settle.ensures.sorting;
  taken = c.in_ok-settle.ensures.taken ∙ c.loop-i.invariant.taken;
}

pub returns-clause-sorting : goal.returns-clause-sorting
returns-clause-sorting c =
    subst (IsSortingOf c.args.rows.now c.args.names.now c.args.numbers.now c.loop-i.self) (drop_all c.loop-i.i c.args.free.now (omega arith)) c.loop-i.invariant.sorting
