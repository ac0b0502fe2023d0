use Rattle.std.proofs.Common.{◌<◌, ◌∙◌, ℕ, List, length, sym, ap, subst}
use Rattle.std.specs.List.{filter, AllByRecursion}
use Rattle.std.proofs.lemmas.List.{length-map, get_or_read}
use Rattle.gt_core.specs.Task.{Action}
use Rattle.gt_core.specs.Lawful.{is_conditional}
use Rattle.goal_choice.proofs.Joined.{needs_more, long_more, all_more}
use Rattle.goal_choice.proofs.gather.needs_by_variable.Goals as goal

pub loop-number-preserved : goal.loop-number-preserved
loop-number-preserved c =
    let acts = c.acts-acts.result.now in
    let i = c.loop-number.number in
    let x = c.index-acts-number.result in
    let lt = c.loop-number-test.true in
    let is = get_or_read acts i x lt c.index-acts-number.is x in
    let more = c.in_ok-add_conditions.ensures in
    let inv = c.loop-number.invariant in
    record {
      long = long_more i x c.loop-number.actions.items c.add_conditions.new.actions.items c.loop-number.conditions c.add_conditions.new.conditions inv.long more.actions more.conditions;
      within =
          subst (AllByRecursion (λ a. a < length acts)) (sym more.actions)
          (all_more (length acts) i c.loop-number.actions.items (filter is_conditional x.effects) lt inv.within);
      needs = needs_more acts i x c.loop-number.actions.items c.add_conditions.new.actions.items c.loop-number.conditions c.add_conditions.new.conditions lt is inv.long inv.needs more.actions more.conditions;
    }

pub invariant_of-result : goal.invariant_of-result
invariant_of-result c =
    let acts = c.acts-acts.result.now in
    let long = ap (λ (ns : List (List ℕ)). length ns) c.in_ok-preconditions.ensures ∙ length-map acts (λ (a : Action). a.precondition) in
    (c.loop-number.invariant.long, subst (λ (n : ℕ). AllByRecursion (λ a. a < n) c.loop-number.actions.items) (sym long) c.loop-number.invariant.within)
