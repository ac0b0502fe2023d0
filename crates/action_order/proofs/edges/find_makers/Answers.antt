use Rattle.std.proofs.Common.{arith, ◌≡◌, ◌<◌, ℕ, List, [], length, sym, ◌∙◌, subst}
use Rattle.std.specs.List.{AllByRecursion}
use Rattle.std.proofs.lemmas.List.{get_or_read}
use Rattle.gt_core.specs.Literal.{is_in}
use Rattle.gt_core.proofs.published.Lists.{each_number}
use Rattle.action_order.specs.own.Graph.{row_at}
use Rattle.action_order.specs.own.Readers.{IsEntered, AreRowsOf}
use Rattle.action_order.specs.own.Edges.{surely}
use Rattle.action_order.proofs.ReadersLaw.{none_entered, entered_more}
use Rattle.action_order.proofs.edges.find_makers.Goals as goal
use Rattle.action_order.proofs.edges.find_makers.Goals.{After-as_slice}

read : (c : After-as_slice) → c.as_slice.result.now ≡ row_at c.args.sure.now c.loop-b.b
read c = c.as_slice.ensures ∙ get_or_read c.args.sure.now c.loop-b.b c.index-sure-b.result (omega arith) c.index-sure-b.is []

pub loop-b-init : goal.loop-b-init
loop-b-init c = none_entered (surely c.args.sure.now) c.args.keys c.in_ok-rows.rows.items c.in_ok-rows.ensures.long c.in_ok-rows.ensures.none

pub enter_literals-requires : goal.enter_literals-requires
enter_literals-requires c =
    let here = (goal.at.enter_literals-requires c).After-as_slice in
    let sure = c.args.sure.now in
    let b = c.loop-b.b in
    let below = each_number (AllByRecursion (λ l. l < c.args.keys)) sure b [] c.requires.below (omega arith) in
    subst (AllByRecursion (λ l. l < length c.loop-b.rows.items)) (sym (read here)) (subst (λ (n : ℕ). AllByRecursion (λ l. l < n) (row_at sure b)) (sym c.loop-b.invariant.long) below)

pub loop-b-preserved : goal.loop-b-preserved
loop-b-preserved c =
    let here = (goal.at.loop-b-preserved c).After-as_slice in
    let b = c.loop-b.b in
    let before = c.loop-b.rows.items in
    let after = c.enter_literals.new.rows.items in
    entered_more (surely c.args.sure.now) c.args.keys b before after c.loop-b.invariant
    (subst (λ (ls : List ℕ). IsEntered (is_in ls) b before after) (read here) c.in_ok-enter_literals.ensures)

pub returns : goal.returns
returns c =
    let end : c.loop-b.b ≡ length c.args.sure.now = omega (arith, c.loop-b-test.false, c.loop-b.auto.b-end) in
    subst (λ (n : ℕ). AreRowsOf (surely c.args.sure.now) c.args.keys n c.loop-b.rows.items) end c.loop-b.invariant
