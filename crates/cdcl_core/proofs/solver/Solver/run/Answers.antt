use Rattle.std.proofs.Common.{◌≡◌, ◌+◌, ◌&&◌, nat_le, sym, ◌∙◌, ap, subst, false, true}
use Rattle.cdcl_defs.specs.Event.{event_of}
use Rattle.cdcl_defs.specs.Run.{apply, is_going, is_conflict}
use Rattle.cdcl_defs.proofs.published.Advance.{one_on, conflicts_stay, conflict_below}
use Rattle.cdcl_defs.proofs.published.Fuel.{left_falls}
use Rattle.cdcl_core.specs.own.Search.{SolverView, IsNextEvent, GoesOn}
use Rattle.cdcl_core.proofs.Keeps.{next_open}
use Rattle.cdcl_core.proofs.Logs.{goes_then, goes_reached, goes_err}
use Rattle.cdcl_core.proofs.solver.Solver.run.Goals as goal

pub loop-self-smaller : goal.loop-self-smaller
loop-self-smaller g c =
    let limit = c.conflicts.result + c.args.conflicts in
    let v = c.loop-self.self in
    let s = v.state in
    let e = c.event-event.result in
    let kept = c.event-event.ensures.kept in
    let going : is_going s.standing ≡ true = sym c.is_going.ensures ∙ c.loop-self-test.true in
    let wait : (is_conflict e && nat_le limit s.conflicts) ≡ false =
    ap (λ (w : SolverView g.row.C.Denot). is_conflict e && nat_le limit w.state.conflicts) (sym kept) ∙ sym c.waits.ensures ∙ c.if-waits.false in
    let made : c.apply.new.self.state ≡ apply s e =
    ap (λ (w : SolverView g.row.C.Denot). w.state) c.in_ok-apply.ensures.ok ∙ ap (λ (w : SolverView g.row.C.Denot). apply w.state e) kept in
    let n : IsNextEvent v.formula s e = (g.C.Chooser.choice v.chooser, c.event-event.ensures.opens, c.event-event.ensures.event) in
    let open_here = next_open v.formula s e c.event-event.ensures.sound n in
    rw made (left_falls limit s e going open_here (λ h. conflict_below e limit s.conflicts wait h))

pub loop-self-preserved : goal.loop-self-preserved
loop-self-preserved g c =
    let choose = g.C.Chooser.choice c.args.self.now.chooser in
    let limit = c.conflicts.result + c.args.conflicts in
    let s = c.loop-self.self.state in
    let e = c.event-event.result in
    let kept = c.event-event.ensures.kept in
    let ok = c.in_ok-apply.ensures.ok in
    let is : e ≡ event_of choose s = c.event-event.ensures.event ∙ ap (λ (k : g.row.C.Denot). event_of (g.C.Chooser.choice k) s) c.loop-self.invariant.chooser in
    let going : is_going s.standing ≡ true = sym c.is_going.ensures ∙ c.loop-self-test.true in
    let wait : (is_conflict e && nat_le limit s.conflicts) ≡ false =
    ap (λ (w : SolverView g.row.C.Denot). is_conflict e && nat_le limit w.state.conflicts) (sym kept) ∙ sym c.waits.ensures ∙ c.if-waits.false in
    let made : c.apply.new.self.state ≡ apply s e =
    ap (λ (w : SolverView g.row.C.Denot). w.state) ok ∙ ap (λ (w : SolverView g.row.C.Denot). apply w.state e) kept in
    record {
      reached = one_on choose limit c.args.self.now.state s c.apply.new.self.state e c.loop-self.invariant.reached going is wait made;
      chooser = ap (λ (w : SolverView g.row.C.Denot). w.chooser) ok ∙ ap (λ (w : SolverView g.row.C.Denot). w.chooser) kept ∙ c.loop-self.invariant.chooser;
      formula = ap (λ (w : SolverView g.row.C.Denot). w.formula) ok ∙ ap (λ (w : SolverView g.row.C.Denot). w.formula) kept ∙ c.loop-self.invariant.formula;
      sane = ap (λ (w : SolverView g.row.C.Denot). w.spoilt) ok ∙ ap (λ (w : SolverView g.row.C.Denot). w.spoilt) kept ∙ c.loop-self.invariant.sane;
      within = rw made (conflicts_stay s e limit c.loop-self.invariant.within wait);
    }

pub returns-in_err-apply-clause-log : goal.returns-in_err-apply-clause-log
returns-in_err-apply-clause-log g c =
    let limit = c.conflicts.result + c.args.conflicts in
    let before = goes_reached (g.C.Chooser.choice c.args.self.now.chooser) limit c.args.self.now.state c.loop-self.self.state c.loop-self.invariant.reached in
    goes_err c.from_residual.result
    (goes_then c.args.self.now.state.log c.loop-self.self.state.log c.apply.new.self.state.log before (subst (λ (w : SolverView g.row.C.Denot). GoesOn w.state.log c.apply.new.self.state.log) c.event-event.ensures.kept c.in_err-apply.ensures.log))
