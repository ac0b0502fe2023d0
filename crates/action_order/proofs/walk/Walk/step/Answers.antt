use Rattle.std.proofs.Common.{arith, ◌≡◌, true, length, vec_len, sym, ap, ◌∙◌, subst, rules}
use Rattle.std.specs.Prelude.{nat_lt}
use Rattle.std.proofs.lemmas.List.{get_or_read, length_push}
use Rattle.std.proofs.lemmas.Bool.Decides.{nat_tests}
use Rattle.bit_sets.specs.Rows.{row_has}
use Rattle.gt_core.proofs.published.Basics.{and_split, and_both, apart}
use Rattle.action_order.specs.own.Graph.{item, leads}
use Rattle.action_order.specs.own.Walk.{is_unseen, KeepsSeen}
use Rattle.action_order.specs.declared.walk.Mark.TheVariants.{At}
use Rattle.action_order.proofs.WalkLaw.{common_none, unseen_is, keeps_marked}
use Rattle.action_order.proofs.MoveLaw.{last_place, next_found, next_leads, all_reach, fewer_unseen}
use Rattle.action_order.proofs.walk.Walk.step.Goals as goal

pub index-requires : goal.index-requires
index-requires c =
    let last = rw c.as_slice.ensures.value at c.last-place.ensures in
    let lt = last_place c.args.targets.now _ _ _ _ _ c.requires.walk.walk c.last-place.result last in
    let long : vec_len c.args.self.now.stack ≡ length c.args.self.now.stack.items = search rules in
    omega arith

pub bounds-targets-index : goal.bounds-targets-index
bounds-targets-index c =
    let w = c.requires.walk.walk in
    let place = c.last-place.result in
    let last = rw c.as_slice.ensures.value at c.last-place.ensures in
    let lt = last_place c.args.targets.now _ _ _ _ _ w place last in
    let v = get_or_read c.args.self.now.stack.items place c.index.result.now lt c.index.ensures 0 in
    let h = w.vertex place lt in
    omega arith

pub open-requires : goal.open-requires
open-requires c =
    let w = c.requires.walk.walk in
    let place = c.last-place.result in
    let last = rw c.as_slice.ensures.value at c.last-place.ensures in
    let next = next_leads c.args.targets.now _ _ _ _ _ w place last c.args.self.now.unseen c.index.result.now c.index-targets-index.result c.least_common.result c.in-Some.w c.index.ensures c.index-targets-index.is c.least_common.ensures c.in-Some.is in
    record {
      walk = c.requires.walk;
      graph = c.requires.graph;
      few = c.requires.few;
      vertex = c.requires.graph (item c.args.self.now.stack.items place) c.in-Some.w next.0;
      unseen = unseen_is _ (and_split (nat_lt c.in-Some.w (length c.args.self.now.marks.items)) _ (sym (c.requires.walk.sets.unseen c.in-Some.w) ∙ next.1)).1;
      reached = all_reach c.args.targets.now _ _ _ _ _ w place last c.in-Some.w next.0;
    }

pub retreat-requires-clause-last : goal.retreat-requires-clause-last
retreat-requires-clause-last c = rw c.as_slice.ensures.value at c.last-place.ensures

pub retreat-requires-clause-spent : goal.retreat-requires-clause-spent
retreat-requires-clause-spent c =
    let w = c.requires.walk.walk in
    let place = c.last-place.result in
    let stack = c.args.self.now.stack.items in
    let last = rw c.as_slice.ensures.value at c.last-place.ensures in
    let found = next_found c.args.targets.now _ _ _ _ _ w place last c.args.self.now.unseen c.index.result.now c.index-targets-index.result c.least_common.result c.index.ensures c.index-targets-index.is c.least_common.ensures in
    λ u e un.
    let below = c.requires.graph (item stack place) u e in
    let yes : nat_lt u (length c.args.self.now.marks.items) ≡ true = let l = w.marks_long in grind (arith, nat_tests) in
    let there : row_has c.args.self.now.unseen u ≡ true = c.requires.walk.sets.unseen u ∙ and_both _ _ yes (ap is_unseen un) in
    apart _ (and_both (leads c.args.targets.now (item stack place) u) (row_has c.args.self.now.unseen u) e there) (common_none _ _ _ found c.in-None.is u (omega arith))

pub returns-in_ok-open-in-Some-clause-keeps : goal.returns-in_ok-open-in-Some-clause-keeps
returns-in_ok-open-in-Some-clause-keeps c =
    let marks = c.args.self.now.marks.items in
    subst (KeepsSeen marks) (sym c.in_ok-open-in-Some.ensures.marks) (keeps_marked marks c.in-Some.w (At (length c.args.self.now.stack.items)) (λ e. cc))

pub returns-in_ok-open-in-Some-clause-less : goal.returns-in_ok-open-in-Some-clause-less
returns-in_ok-open-in-Some-clause-less c =
    let w = c.requires.walk.walk in
    let last = rw c.as_slice.ensures.value at c.last-place.ensures in
    let next = next_leads c.args.targets.now _ _ _ _ _ w c.last-place.result last c.args.self.now.unseen c.index.result.now c.index-targets-index.result c.least_common.result c.in-Some.w c.index.ensures c.index-targets-index.is c.least_common.ensures c.in-Some.is in
    let marks = c.args.self.now.marks.items in
    let height = length c.args.self.now.stack.items in
    let un = unseen_is _ (and_split (nat_lt c.in-Some.w (length marks)) _ (sym (c.requires.walk.sets.unseen c.in-Some.w) ∙ next.1)).1 in
    let below = c.requires.graph (item c.args.self.now.stack.items c.last-place.result) c.in-Some.w next.0 in
    let fewer = fewer_unseen marks c.in-Some.w height (let l = w.marks_long in omega arith) un in
    let pushed = length_push c.args.self.now.work.items height in
    let e = c.in_ok-open-in-Some.ensures in
    rw (e.marks, e.work) (omega (arith, fewer, pushed))
