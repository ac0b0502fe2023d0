use Rattle.std.proofs.Common.{arith, ◌*◌, ◌<◌, ◌==◌, length, subst, ℕ}
use Rattle.bit_sets.specs.Rows.{row_has}
use Rattle.gt_core.specs.Literal.{opposite}
use Rattle.gt_core.proofs.published.Literals.{opposite_twice}
use Rattle.implied_literals.proofs.published.Steps.{opposite_below}
use Rattle.two_invariants.proofs.Indexing.{given_within, left_is}
use Rattle.two_invariants.proofs.takers.take_all_lost.Goals as goal

pub take_out-requires : goal.take_out-requires
take_out-requires c = λ m p.
    let few = c.requires.here.before.few in
    let lt = given_within c.args.here.now.before.now.facts (opposite m) c.args.here.now.before.now.groups.now (λ c. length c == 0) c.requires.here.before.groups (c.requires.takers.plain m p) in
    let below : m < 2 * c.args.here.now.before.now.facts = subst (λ (k : ℕ). k < 2 * c.args.here.now.before.now.facts) (opposite_twice m) (opposite_below (opposite m) c.args.here.now.before.now.facts lt) in
    omega arith

pub returns : goal.returns
returns c = λ m.
    left_is c.args.here.now.before.now.facts (2 * c.args.here.now.before.now.facts) c.args.here.now.before.now.rows.now c.args.here.now.before.now.groups.now (row_has c.args.here.now.set.now) c.args.here.now.takers.now c.requires.here.before.groups c.requires.takers c.requires.consistent
    c.args.group.now c.requires.fits c.requires.group c.requires.own
    (row_has c.args.here.now.given.now) (row_has c.args.sure.now) (row_has c.take_out.new.sure) (row_has c.take_out-2.new.sure) (row_has c.take_all_listed.new.sure) c.requires.here.given
    c.take_out.ensures c.take_out-2.ensures c.in_ok-take_all_listed.ensures.less c.in_ok-take_all_listed.ensures.lost c.in_ok-take_all_listed.ensures.done m
