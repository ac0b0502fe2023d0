use Rattle.std.proofs.Common.{arith, ◌≡◌, ◌<◌, ℕ, length, sym, ◌∙◌, subst, rules, List, ap}
use Rattle.std.specs.List.{AllByRecursion}
use Rattle.gt_core.proofs.published.Literals.{in_among}
use Rattle.gt_core.proofs.published.Basics.{each_at}
use Rattle.action_order.specs.own.Graph.{class_at, IsClassed, item}
use Rattle.action_order.specs.own.Quotient.{IsQuotient, AreNames}
use Rattle.action_order.specs.own.Sorting.{IsTopologicalOrder}
use Rattle.action_order.proofs.SortingLaw.{taken_below}
use Rattle.action_order.proofs.QuotientLaw.{named_components}
use Rattle.action_order.proofs.OrderLaw.{each_below, few_roots}
use Rattle.action_order.proofs.ListedLaw.{is_listed, name_listed, name_item}
use Rattle.std.proofs.lemmas.List.{length-map}
use Rattle.action_order.proofs.publish.list_components.Goals as goal
use Rattle.action_order.proofs.publish.list_components.Goals.{After-as_slice-5, After-as_slice-6}

classed : (c : After-as_slice-5) → IsClassed c.args.targets.items c.in_ok-found.found.numbers.items c.in_ok-found.found.roots.items
classed c = rw (← c.as_slice.ensures.value) c.in_ok-found.ensures

quotient : (c : After-as_slice-5) → IsQuotient c.args.targets.items c.in_ok-found.found.numbers.items (length c.in_ok-found.found.roots.items) c.in_ok-rows.rows.items
quotient c = rw (← c.as_slice-numbers.ensures.value, ← c.as_slice-2.ensures.value) c.in_ok-rows.ensures

named : (c : After-as_slice-5) → AreNames c.in_ok-found.found.numbers.items (length c.in_ok-found.found.roots.items) (length c.in_ok-found.found.numbers.items) c.in_ok-least.least.items
named c = rw (← c.as_slice-numbers.ensures.value, ← c.as_slice-3.ensures.value) c.in_ok-least.ensures

ordered : (c : After-as_slice-6) → IsTopologicalOrder c.in_ok-rows.rows.items c.in_ok-least.least.items c.in_ok-found.found.numbers.items c.in_ok-order.order.items
ordered c = rw (← c.as_slice-numbers.ensures.value, ← c.as_slice-4.ensures.value, ← c.as_slice-5.ensures.value) c.in_ok-order.ensures

pub sort_components-requires-clause-rows : goal.sort_components-requires-clause-rows
sort_components-requires-clause-rows c =
    let here = (goal.at.sort_components-requires-clause-rows c).After-as_slice-5 in
    rw (c.as_slice-numbers.ensures.value, c.as_slice-4.ensures.value, c.as_slice-5.ensures.value)
    (named_components c.args.targets.items c.in_ok-found.found.numbers.items c.in_ok-found.found.roots.items c.in_ok-rows.rows.items c.in_ok-least.least.items c.requires.graph (classed here) (quotient here) (named here))

pub sort_components-requires-clause-small : goal.sort_components-requires-clause-small
sort_components-requires-clause-small c =
    let here = (goal.at.sort_components-requires-clause-small c).After-as_slice-5 in
    let few = few_roots c.args.targets.items c.in_ok-found.found.numbers.items c.in_ok-found.found.roots.items (classed here) in
    let bound = c.requires.few in
    let l = (quotient here).long in
    rw c.as_slice-4.ensures.value (omega arith)

pub list-requires-clause-below : goal.list-requires-clause-below
list-requires-clause-below c =
    let here = (goal.at.list-requires-clause-below c).After-as_slice-5 in
    let n = c.in_ok-found.found.numbers.items in
    let k = classed here in
    let len : c.len.result ≡ length c.in_ok-rows.rows.items = search rules in
    rw c.as_slice-numbers.ensures.value (each_below n c.len.result (λ a lt.
    let b = k.below a (let l = k.long in omega arith) in let l = (quotient here).long in omega arith))

pub list-requires-clause-order : goal.list-requires-clause-order
list-requires-clause-order c =
    let d = ordered (goal.at.list-requires-clause-order c).After-as_slice-6 in
    let len : c.len.result ≡ length c.in_ok-rows.rows.items = search rules in
    rw (c.as_slice-6.ensures.value) (subst (λ (m : ℕ). AllByRecursion (λ x. x < m) c.in_ok-order.order.items) (sym len) (taken_below c.in_ok-rows.rows.items _ _ _ _ d.taken))

pub names_of-requires : goal.names_of-requires
names_of-requires c =
    let here = (goal.at.names_of-requires c).After-as_slice-5 in
    let k = classed here in
    rw (c.as_slice-numbers.ensures.value, c.as_slice-7.ensures.value) (each_below c.in_ok-found.found.numbers.items (length c.in_ok-least.least.items) (λ a lt.
    let b = k.below a (let l = k.long in omega arith) in let l = (named here).long in omega arith))

pub returns-clause-listed : goal.returns-clause-listed
returns-clause-listed c =
    let here = (goal.at.returns-clause-listed c).After-as_slice-5 in
    let d = ordered (goal.at.returns-clause-listed c).After-as_slice-6 in
    rw (c.in_ok-components.ensures, c.as_slice-numbers.ensures.value, c.as_slice-6.ensures.value)
    (is_listed c.args.targets.items c.in_ok-found.found.numbers.items c.in_ok-found.found.roots.items c.in_ok-rows.rows.items c.in_ok-least.least.items c.requires.graph (classed here) (quotient here) (named here) c.in_ok-order.order.items d)

pub returns-clause-names : goal.returns-clause-names
returns-clause-names c =
    let n = c.in_ok-found.found.numbers.items in
    let here = (goal.at.returns-clause-names c).After-as_slice-5 in
    let d = ordered (goal.at.returns-clause-names c).After-as_slice-6 in
    let k = classed here in
    let q = quotient here in
    rw (c.in_ok-names.ensures, c.in_ok-components.ensures, c.as_slice-7.ensures.value, c.as_slice-numbers.ensures.value, c.as_slice-6.ensures.value) (λ a lt.
    name_item c.in_ok-least.least.items n a (let l = k.long in omega arith)
    ∙ sym (name_listed c.args.targets.items n c.in_ok-found.found.roots.items c.in_ok-rows.rows.items c.in_ok-least.least.items c.requires.graph k q (named here) c.in_ok-order.order.items a lt
    (λ x i. let b = each_at (λ x. x < length c.in_ok-rows.rows.items) c.in_ok-order.order.items x (taken_below c.in_ok-rows.rows.items _ _ _ _ d.taken) (in_among _ x i) in let l = q.long in omega arith)
    (d.all (class_at n a) (let b = k.below a lt in let l = q.long in omega arith))))

pub quotient-requires-clause-classes : goal.quotient-requires-clause-classes
quotient-requires-clause-classes c =
    let k : IsClassed c.args.targets.items c.in_ok-found.found.numbers.items c.in_ok-found.found.roots.items = rw (← c.as_slice.ensures.value) c.in_ok-found.ensures in
    rw (c.as_slice-numbers.ensures.value, c.as_slice-2.ensures.value) k

pub returns-clause-long : goal.returns-clause-long
returns-clause-long c =
    ap (λ (xs : List ℕ). length xs) c.in_ok-names.ensures
    ∙ length-map c.as_slice-numbers.result.now (item c.as_slice-7.result.now)
    ∙ ap (λ (xs : List ℕ). length xs) c.as_slice-numbers.ensures.value
    ∙ (classed (goal.at.returns-clause-long c).After-as_slice-5).long
