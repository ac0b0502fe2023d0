use Rattle.std.proofs.Common.{arith, ◌≡◌, ◌<◌, ◌∙◌, List, take, length, get_or, sym, ap, subst}
use Rattle.cdcl_defs.specs.declared.trail.Assigned.{Assigned}
use Rattle.cdcl_tables.specs.Assignment.{literals}
use Rattle.cdcl_core.proofs.Told.{next_told}
use Rattle.cdcl_core.proofs.solver.tell.Goals as goal

pub loop-i-preserved : goal.loop-i-preserved
loop-i-preserved g c =
    let trail = c.args.search.now.state.trail in
    let i = c.loop-i.i in
    let a = c.index-entries-i.result in
    let is : a ≡ get_or trail i a = c.index-entries-i.is ∙ ap (λ (ts : List Assigned). get_or ts i a) c.entries-entries.ensures.value in
    let lt : i < length trail = omega (arith, ap (λ (ts : List Assigned). length ts) c.entries-entries.ensures.value) in
    subst (g.C.Chooser.knows c.args.chooser.now c.tell.new.told) (sym (next_told trail i a lt is)) (c.tell.ensures (take i (literals trail)) c.loop-i.invariant)
