use Rattle.std.proofs.Common.{arith, rules, ◌≡◌, ◌-◌, ◌<◌, ℕ, length, vec_len, sym, subst}
use Rattle.std.proofs.lemmas.List.{get_or_read}
use Rattle.goal_choice.proofs.Joined.{of_effect, all_read, place_below}
use Rattle.goal_choice.proofs.needs.Needs.of.Goals as goal
use Rattle.goal_choice.proofs.needs.Needs.of.Goals.{Else-variable-count}

-- the number of a conditional effect
below : (c : Else-variable-count) → c.args.variable - c.len-count.result < length c.self.inside.actions.items
below c =
    let n = c.self.inside in
    place_below n.preconditions n.actions.items n.conditions c.args.self.now c.args.variable c.len-count.result (sym c.self.view_is) c.self.invariant.0 c.requires c.len-count.ensures (omega (arith, c.if-variable-count.false))

pub index-action-requires : goal.index-action-requires
index-action-requires c =
    let lt = below (goal.at.index-action-requires c).Else-variable-count in
    let long : vec_len c.self.inside.actions ≡ length c.self.inside.actions.items = search rules in
    omega (arith, lt, long)

pub list_at-precondition-requires : goal.list_at-precondition-requires
list_at-precondition-requires c =
    let n = c.self.inside in
    let place = c.args.variable - c.len-count.result in
    let lt = below (goal.at.list_at-precondition-requires c).Else-variable-count in
    let read = get_or_read n.actions.items place c.index-action.result.now lt c.index-action.ensures 0 in
    subst (λ (a : ℕ). a < length n.preconditions) (sym read) (all_read (length n.preconditions) n.actions.items place c.self.invariant.1 lt)

pub list_at-condition-requires : goal.list_at-condition-requires
list_at-condition-requires c =
    subst (λ (m : ℕ). c.args.variable - c.len-count.result < m) c.self.invariant.0 (below (goal.at.list_at-condition-requires c).Else-variable-count)

pub returns : goal.returns
returns c =
    let n = c.self.inside in
    let place = c.args.variable - c.len-count.result in
    let lt = below (goal.at.returns c).Else-variable-count in
    of_effect n.preconditions n.actions.items n.conditions c.args.self.now c.args.variable place c.index-action.result.now c.list_at-precondition.result.now c.list_at-condition.result.now (sym c.self.view_is) c.self.invariant.0
    (omega (arith, c.len-count.ensures, c.if-variable-count.false)) lt
    (get_or_read n.actions.items place c.index-action.result.now lt c.index-action.ensures 0) c.list_at-precondition.ensures c.list_at-condition.ensures
