use Rattle.std.proofs.Common.{◌∙◌, ◌&&◌, ◌==◌, ap}
use Rattle.bit_sets.specs.Rows.{row_has}
use Rattle.two_invariants.specs.own.Groups.{GroupFits}
use Rattle.two_invariants.specs.declared.groups.Group.{Group}
use Rattle.two_invariants.proofs.Grouping.{any_changed, all_changed, all_read, group_more, more_fits}
use Rattle.two_invariants.proofs.groups.add_at.Goals as goal

pub returns-clause-has : goal.returns-clause-has
returns-clause-has c = λ cond was l test.
    let g : Group = c.index_mut.result.now in
    let more = c.in_ok-add_literal.ensures in
    any_changed (λ (x : Group). row_has x.literals l && test x.condition.items) c.args.groups.now.items c.args.i g c.add_literal.new.group ((c.args.lit == l) && test cond) c.requires c.index_mut.ensures.value
    (group_more g c.add_literal.new.group c.args.lit cond (ap (λ (x : Group). x.condition.items) c.index_mut.ensures.value ∙ was g) more.condition more.literals l test)

pub returns-clause-fit : goal.returns-clause-fit
returns-clause-fit c = λ size below all.
    let g : Group = c.index_mut.result.now in
    let more = c.in_ok-add_literal.ensures in
    all_changed (GroupFits size) c.args.groups.now.items c.args.i c.add_literal.new.group all
    (more_fits size g c.add_literal.new.group c.args.lit below (all_read (GroupFits size) c.args.groups.now.items c.args.i g all c.requires c.index_mut.ensures.value) more.condition more.literals more.opposites)
