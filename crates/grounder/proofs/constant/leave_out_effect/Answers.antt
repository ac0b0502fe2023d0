use Rattle.std.proofs.Common.{◌≡◌, ◌∙◌, sym, length}
use Rattle.std.proofs.lemmas.Bool.{eqb-true}
use Rattle.std.proofs.lemmas.Result.{on_ok_weaker}
use Rattle.grounder.proofs.Leaving.{left_by_add, left_change, left_changes}
use Rattle.grounder.proofs.Listed.{none_left_out, left_bare}
use Rattle.grounder.proofs.constant.leave_out_effect.Goals as goal

pub returns-then-effect : goal.returns-then-effect
returns-then-effect c = left_by_add c.args.domains.now c.args.reached.now c.args.objects.now c.args.effect.now c.args.constant.now c.if-effect.true

pub loop-number-preserved : goal.loop-number-preserved
loop-number-preserved c =
    let are = rw c.as_slice-over.ensures at c.in_ok-bindings.ensures in
    left_change c.args.domains.now c.args.reached.now c.args.objects.now c.args.effect.now c.in_ok-bindings.bindings are c.loop-number.number c.loop-number-test.true c.deref.result.now
    (c.deref.ensures.value ∙ c.in_ok-objects.ensures) c.args.constant.now c.loop-number.constant c.leave_out_deleted-in-loop-number.new.constant c.loop-number.invariant c.in_ok-leave_out_deleted.ensures

pub returns : goal.returns
returns c =
    let are = rw c.as_slice-over.ensures at c.in_ok-bindings.ensures in
    left_changes c.args.domains.now c.args.reached.now c.args.objects.now c.args.effect.now c.in_ok-bindings.bindings are c.loop-number.number c.loop-number-test.false
    c.args.constant.now c.loop-number.constant c.loop-number.invariant

pub returns-then-not-have_objects : goal.returns-then-not-have_objects
returns-then-not-have_objects c =
    none_left_out c.args.domains.now c.args.reached.now c.args.objects.now c.args.effect.now c.args.constant.now
    (rw c.as_slice-over.ensures at c.have_objects.ensures.none c.if-not-have_objects.true)

pub returns-then-is_empty : goal.returns-then-is_empty
returns-then-is_empty c =
    let none : length c.args.effect.now.over ≡ 0 = rw c.as_slice-over.ensures at (eqb-true (length c.as_slice-over.result.now) 0 (sym c.is_empty.ensures ∙ c.if-is_empty.true)) in
    on_ok_weaker c.leave_out_deleted.result
    (left_bare c.args.domains.now c.args.reached.now c.args.objects.now c.args.effect.now c.args.constant.now c.leave_out_deleted.new.constant none)
    c.leave_out_deleted.ensures
