use Rattle.std.proofs.Common.{◌≡◌, ◌∙◌, sym, true, false}
use Rattle.std.proofs.lemmas.List.{drop_all}
use Rattle.pd_model.specs.Plan.{verdict}
use Rattle.pd_model.specs.declared.calls.Verdict.TheVariants.{Reaches, Blocked, Short}
use Rattle.pd_model.proofs.Alike.{begun, one_run, one_blocked, ended, plan_where}
use Rattle.pd_model.proofs.pddl.Pddl.run_plan.Goals as goal

pub loop-i-init : goal.loop-i-init
loop-i-init c =
    begun c.args.self.now c.add_all.new.self c.args.calls.now (rw (c.as_slice.ensures, c.init.ensures.init, c.new-state.ensures) at c.in_ok-add_all.ensures)

pub loop-i-preserved : goal.loop-i-preserved
loop-i-preserved c =
    let ran = rw c.if-not-branch.false at c.in_ok-run_call.ensures in
    one_run c.args.self.now c.loop-i.i c.loop-i.state c.run_call.new.state c.args.calls.now c.index-calls-i.result c.loop-i-test.true c.index-calls-i.is ran ∙ c.loop-i.invariant

pub returns-then-not-branch : goal.returns-then-not-branch
returns-then-not-branch c =
    let stopped = rw c.if-not-branch.true at c.in_ok-run_call.ensures in
    let is : Blocked c.loop-i.i ≡ verdict c.args.self.now c.args.calls.now =
    one_blocked c.args.self.now c.loop-i.i c.loop-i.state c.run_call.new.state c.args.calls.now c.index-calls-i.result c.loop-i-test.true c.index-calls-i.is stopped ∙ c.loop-i.invariant in
    record { verdict = is; plan = plan_where c.args.self.now c.args.calls.now (Blocked c.loop-i.i) is }

pub returns-then-branch : goal.returns-then-branch
returns-then-branch c =
    let end = rw (drop_all c.loop-i.i c.args.calls.now c.loop-i-test.false) at c.loop-i.invariant in
    let met = rw (c.as_slice-2.ensures, c.goal.ensures.goal, c.if-branch.true) at (sym c.in_ok-are_true.ensures) in
    let is : Reaches ≡ verdict c.args.self.now c.args.calls.now = ended c.args.self.now c.loop-i.i c.loop-i.state true met ∙ end in
    record { verdict = is; plan = plan_where c.args.self.now c.args.calls.now Reaches is }

pub returns : goal.returns
returns c =
    let end = rw (drop_all c.loop-i.i c.args.calls.now c.loop-i-test.false) at c.loop-i.invariant in
    let met = rw (c.as_slice-2.ensures, c.goal.ensures.goal, c.if-branch.false) at (sym c.in_ok-are_true.ensures) in
    let is : Short ≡ verdict c.args.self.now c.args.calls.now = ended c.args.self.now c.loop-i.i c.loop-i.state false met ∙ end in
    record { verdict = is; plan = plan_where c.args.self.now c.args.calls.now Short is }
