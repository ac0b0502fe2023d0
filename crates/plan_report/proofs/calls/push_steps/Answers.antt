use Rattle.std.proofs.Common.{◌≡◌, ◌<◌, List, ℕ, length, Some, slice_get, sym, ap, ◌∙◌, arith}
use Rattle.std.proofs.lemmas.Option.{slice_get-get_or}
use Rattle.plan_report.proofs.Pushed.{steps_next}
use Rattle.plan_report.proofs.calls.push_steps.Goals as goal

pub loop-t-preserved : goal.loop-t-preserved
loop-t-preserved c =
    let steps : List (List ℕ) = c.args.steps.now in
    let lt : c.loop-t.t < length steps = omega arith in
    let at : slice_get steps c.loop-t.t ≡ Some c.index-steps-t.result = slice_get-get_or steps c.loop-t.t c.index-steps-t.result lt ∙ ap Some (sym c.index-steps-t.is) in
    c.loop-t.invariant
    ∙ steps_next c.args.p.now c.args.g.now steps c.loop-t.t c.index-steps-t.result c.loop-t.text.items c.push_step.new.text.items at (rw c.as_slice.ensures at c.in_ok-push_step.ensures)
