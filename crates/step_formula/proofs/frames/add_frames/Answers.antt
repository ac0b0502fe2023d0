use Rattle.std.proofs.Common.{arith, ◌<◌, ◌+◌, ◌*◌, length, [], ◌∙◌}
use Rattle.std.proofs.lemmas.List.{get_or_read}
use Rattle.step_formula.proofs.FrameLaw.{frame_step}
use Rattle.step_formula.proofs.frames.add_frames.Goals as goal

pub loop-f-preserved : goal.loop-f-preserved
loop-f-preserved c =
    let task = c.args.task.now in
    let f = c.loop-f.f in
    let lt : f < task.facts = let t = c.loop-f-test.true in let e = c.facts-f-end.ensures.facts in omega (arith, t, e) in
    let long = c.requires.index.long in
    let deletes : 2 * f + 1 < length c.args.index.now = omega (arith, lt, long) in
    let adds : 2 * f < length c.args.index.now = omega (arith, lt, long) in
    frame_step c.args.layout.now task f c.as_slice-deleters.result.now c.as_slice-adders.result.now c.args.clauses.now c.loop-f.clauses c.add_frame.new.clauses c.add_frame-in-loop-f.new.clauses c.loop-f.invariant
    (c.as_slice-deleters.ensures ∙ get_or_read c.args.index.now (2 * f + 1) c.index-index-delete.result deletes c.index-index-delete.is [] ∙ c.requires.index.each (2 * f + 1) (omega (arith, lt)))
    (c.as_slice-adders.ensures ∙ get_or_read c.args.index.now (2 * f) c.index-index-add.result adds c.index-index-add.is [] ∙ c.requires.index.each (2 * f) (omega (arith, lt)))
    c.in_ok-add_frame.ensures c.in_ok-add_frame-2.ensures
