use Rattle.std.proofs.Common.{◌≡◌, ◌∙◌, ◌&&◌, ◌||◌, length, drop, refl, sym, Bool, true, false, [], ◌*◌}
use Rattle.std.proofs.Math.ListN.{drop_of_length-le}
use Rattle.std.proofs.lemmas.Option.{slice_get_read}
use Rattle.bit_sets.specs.Rows.{row_has}
use Rattle.gt_core.specs.Literal.{opposite}
use Rattle.implied_literals.specs.Rows.{clause_in}
use Rattle.two_invariants.specs.own.Groups.{group_with, breaks_under, GroupFits}
use Rattle.two_invariants.specs.declared.groups.Group.{Group}
use Rattle.two_invariants.proofs.Grouping.{groups_more, all_read}
use Rattle.two_invariants.proofs.Indexing.{from_place}
use Rattle.two_invariants.proofs.broken.add_all_groups.Goals as goal

pub add_group_losses-requires-clause-one : goal.add_group_losses-requires-clause-one
add_group_losses-requires-clause-one c = λ l test e.
    from_place (λ (g : Group). row_has g.literals l && test g.condition.items) c.args.before.now.groups.now c.loop-group.group-index c.group-item.result
    (slice_get_read c.args.before.now.groups.now (length c.args.before.now.groups.now) c.loop-group.group-index c.group-item.result refl c.loop-group-test.true c.group-item.is) e

pub loop-group-preserved : goal.loop-group-preserved
loop-group-preserved c = record {
  lost = λ a m.
      groups_more (λ (g : Group). row_has g.literals (opposite a) && breaks_under c.args.before.now.facts c.args.before.now.rows.now (group_with c.args.before.now.groups.now) (row_has c.args.before.now.set.now) a m g.condition.items)
      c.args.before.now.groups.now c.loop-group.group-index c.group-item.result (clause_in c.args.clauses.now a m) (clause_in c.loop-group.lost.items a m) (clause_in c.add_group_losses.new.lost.items a m)
      c.loop-group-test.true c.group-item.is (c.in_ok-add_group_losses.ensures.lost a m)
      ∙ c.loop-group.invariant.lost a m;
  long = c.add_group_losses.ensures.long ∙ c.loop-group.invariant.long;
}

pub returns-clause-lost : goal.returns-clause-lost
returns-clause-lost c = λ l m.
    let groups = c.args.before.now.groups.now in
    let lost = clause_in c.loop-group.lost.items l m in
    let clause = clause_in c.args.clauses.now l m in
    let breaks = breaks_under c.args.before.now.facts c.args.before.now.rows.now (group_with groups) (row_has c.args.before.now.set.now) l m in
    let none : drop c.loop-group.group-index groups ≡ [] = drop_of_length-le groups c.loop-group-test.false in
    ends lost clause ∙ (λ i. lost || (clause && group_with (sym none i) (opposite l) breaks)) ∙ c.loop-group.invariant.lost l m
  where
    ends : (b c : Bool) → b ≡ (b || (c && false))
    ends true c = refl
    ends false true = refl
    ends false false = refl

pub add_group_losses-requires-clause-group : goal.add_group_losses-requires-clause-group
add_group_losses-requires-clause-group c = all_read (GroupFits (2 * c.args.before.now.facts)) c.args.before.now.groups.now c.loop-group.group-index c.group-item.result c.requires.before.groups c.loop-group-test.true c.group-item.is
