use Rattle.std.proofs.Common.{arith, ◌≡◌, ◌<◌, ℕ, length, sym, ◌∙◌, subst, rules}
use Rattle.std.specs.List.{AllByRecursion}
use Rattle.gt_core.specs.Published.{order_of}
use Rattle.gt_core.proofs.published.Within.{lawful}
use Rattle.gt_core.proofs.published.PublishedLaw.{published_keeps_apart}
use Rattle.gt_core.proofs.published.UniqueLaw.{each_once}
use Rattle.action_order.proofs.EdgesLaw.{is_graph}
use Rattle.action_order.proofs.published.PublishLaw.{acts_within, edges_of, is_published, order_below, order_unequal, order_few, is_order}
use Rattle.action_order.proofs.publish.publish.Goals as goal

pub edges-requires-clause-within : goal.edges-requires-clause-within
edges-requires-clause-within c = rw (c.acts.ensures.acts, c.facts.ensures.facts) (acts_within c.args.task.now c.acts.ensures.lawful)

pub list_components-requires : goal.list_components-requires
list_components-requires c =
    let t = edges_of c.args.pairs.now.clauses c.acts.result.now c.args.task.now.actions c.in_ok-targets.targets.items c.acts.ensures.acts c.in_ok-targets.ensures in
    record {
      graph = is_graph c.args.pairs.now.clauses c.args.task.now.actions c.in_ok-targets.targets.items t;
      few = (let long = t.long in let few = (lawful c.args.task.now c.acts.ensures.lawful).actions in omega arith);
    }

pub places_of-requires : goal.places_of-requires
places_of-requires c =
    let t = edges_of c.args.pairs.now.clauses c.acts.result.now c.args.task.now.actions c.in_ok-targets.targets.items c.acts.ensures.acts c.in_ok-targets.ensures in
    let task = c.args.task.now in
    let clauses = c.args.pairs.now.clauses in
    let components = c.in_ok-listing.listing.components.items in
    let p = is_published task clauses c.in_ok-targets.targets.items components t c.in_ok-listing.ensures.listed in
    let flat : c.in_ok-order.order.items ≡ order_of components = rw (← c.as_slice.ensures.value) c.in_ok-order.ensures in
    let len : c.len-count.result ≡ length c.in_ok-targets.targets.items = search rules in
    let few = order_few task clauses components p in
    let actions = (lawful task c.acts.ensures.lawful).actions in
    record {
      below = rw (c.as_slice-2.ensures.value, flat) (subst (λ (n : ℕ). AllByRecursion (λ a. a < n) (order_of components)) (sym (len ∙ t.long)) (order_below task clauses components p));
      unequal = rw (c.as_slice-2.ensures.value, flat) (order_unequal task clauses components p);
      few = rw (c.as_slice-2.ensures.value, flat) (omega arith);
    }

pub of-requires : goal.of-requires
of-requires c =
    let components = c.in_ok-listing.listing.components.items in
    let t = edges_of c.args.pairs.now.clauses c.acts.result.now c.args.task.now.actions c.in_ok-targets.targets.items c.acts.ensures.acts c.in_ok-targets.ensures in
    let p = is_published c.args.task.now c.args.pairs.now.clauses c.in_ok-targets.targets.items components t c.in_ok-listing.ensures.listed in
    let len : c.len-count.result ≡ length c.in_ok-targets.targets.items = search rules in
    let flat : c.in_ok-order.order.items ≡ order_of components = rw (← c.as_slice.ensures.value) c.in_ok-order.ensures in
    let placed = rw c.as_slice-2.ensures.value at c.in_ok-places.ensures.placed in
    let named = c.in_ok-listing.ensures.names in
    is_order c.args.task.now c.args.pairs.now.clauses components p c.in_ok-order.order.items c.in_ok-places.places.items c.in_ok-listing.listing.names.items (lawful c.args.task.now c.acts.ensures.lawful).actions flat
    (c.in_ok-places.ensures.long ∙ len ∙ t.long) placed (c.in_ok-listing.ensures.long ∙ t.long) (λ a lt. named a (let x = t.long in omega arith))

pub returns : goal.returns
returns c =
    let t = edges_of c.args.pairs.now.clauses c.acts.result.now c.args.task.now.actions c.in_ok-targets.targets.items c.acts.ensures.acts c.in_ok-targets.ensures in
    let components = c.in_ok-listing.listing.components.items in
    let p = is_published c.args.task.now c.args.pairs.now.clauses c.in_ok-targets.targets.items components t c.in_ok-listing.ensures.listed in
    record {
      published = rw c.of.ensures p;
      apart = rw c.of.ensures (published_keeps_apart c.args.task.now c.args.pairs.now.clauses components p);
      each_once = rw c.of.ensures (each_once c.args.task.now c.args.pairs.now.clauses components p);
    }
