use Rattle.std.proofs.Common.{length, refl, arith, ◌≡◌, ℕ, subst}
use Rattle.std.proofs.lemmas.Option.{slice_get_read}
use Rattle.bit_sets.specs.Rows.{row_has}
use Rattle.two_invariants.proofs.Counting.{more_givers}
use Rattle.two_invariants.specs.own.Index.{AreGivers}
use Rattle.two_invariants.proofs.givers.givers_of.Goals as goal

pub loop-number-preserved : goal.loop-number-preserved
loop-number-preserved c =
    let one = c.in_ok-add_giver.ensures in
    let here = slice_get_read c.args.groups.now (length c.args.groups.now) c.loop-number.number c.index-groups-number.result refl c.loop-number-test.true c.index-groups-number.is in
    more_givers (row_has c.args.set.now) c.args.groups.now c.loop-number.number c.index-groups-number.result here c.loop-number.givers c.add_giver.new.givers one.long one.base one.more one.finds one.own c.loop-number.invariant

pub returns : goal.returns
returns c =
    let end : c.loop-number.number ≡ length c.args.groups.now = omega (arith, c.loop-number-test.false, c.loop-number.auto.number-end) in
    subst (λ (n : ℕ). AreGivers (row_has c.args.set.now) c.args.groups.now n c.loop-number.givers) end c.loop-number.invariant
