use Rattle.std.proofs.Common.{◌*◌, length, refl, arith, ◌≡◌, ℕ, subst}
use Rattle.std.proofs.lemmas.Option.{slice_get_read}
use Rattle.bit_sets.specs.Rows.{row_has}
use Rattle.two_invariants.specs.own.Groups.{GroupFits}
use Rattle.two_invariants.proofs.Grouping.{all_read}
use Rattle.two_invariants.proofs.Counting.{more_takers}
use Rattle.two_invariants.specs.own.Index.{AreTakers}
use Rattle.two_invariants.proofs.takers.takers_of.Goals as goal

pub loop-number-preserved : goal.loop-number-preserved
loop-number-preserved c =
    let one = c.in_ok-add_taker.ensures in
    let g = c.index-groups-number.result in
    let here = slice_get_read c.args.before.now.groups.now (length c.args.before.now.groups.now) c.loop-number.number g refl c.loop-number-test.true c.index-groups-number.is in
    let fits = all_read (GroupFits (2 * c.args.before.now.facts)) c.args.before.now.groups.now c.loop-number.number g c.requires.groups c.loop-number-test.true c.index-groups-number.is in
    more_takers (row_has c.args.before.now.set.now) c.args.before.now.groups.now c.loop-number.number g here c.args.before.now.facts c.args.before.now.rows.now fits c.loop-number.takers c.add_taker.new.takers
    one.long one.plain one.more one.finds one.own c.loop-number.invariant

pub add_taker-requires-clause-group : goal.add_taker-requires-clause-group
add_taker-requires-clause-group c = all_read (GroupFits (2 * c.args.before.now.facts)) c.args.before.now.groups.now c.loop-number.number c.index-groups-number.result c.requires.groups c.loop-number-test.true c.index-groups-number.is

pub returns : goal.returns
returns c =
    let b = c.args.before.now in
    let end : c.loop-number.number ≡ length b.groups.now = omega (arith, c.loop-number-test.false, c.loop-number.auto.number-end) in
    subst (λ (n : ℕ). AreTakers b.facts b.rows.now (row_has b.set.now) b.groups.now n c.loop-number.takers) end c.loop-number.invariant
