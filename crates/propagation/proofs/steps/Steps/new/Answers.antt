use Rattle.propagation.proofs.Stepped.{size_same, steps_room, stepped_of}
use Rattle.propagation.proofs.steps.Steps.new.Goals as goal

pub steps_of-requires : goal.steps_of-requires
steps_of-requires c =
    let p = c.parts-parts.result in
    let cl = c.args.formula.now.clauses in
    let e = c.parts-parts.ensures.clauses in
    let few = c.count-few.ensures.few in
    let part = c.in_ok-part.ensures in
    steps_room p.told.now p.after.now cl p.repeated.now c.in_ok-part.part c.count-before.result c.horizon-steps.result c.min-size.result
    e few part c.count-before.ensures.value c.horizon-steps.ensures.value
    (size_same p.told.now p.after.now cl p.repeated.now c.in_ok-part.part c.step.result.now c.count-all.result c.min-size.result e few part c.step.ensures c.count-all.ensures.value c.min-size.ensures)

pub returns : goal.returns
returns c =
    let p = c.parts-parts.result in
    let cl = c.args.formula.now.clauses in
    let e = c.parts-parts.ensures.clauses in
    let part = c.in_ok-part.ensures in
    stepped_of p.told.now p.after.now cl p.repeated.now c.args.slots.now
    (record { part = c.in_ok-part.part; before = c.count-before.result; size = c.min-size.result; of_slots = c.in_ok-of_slots.of_slots }) c.horizon-steps.result e
    c.count-before.ensures.value part c.horizon-steps.ensures.value
    (size_same p.told.now p.after.now cl p.repeated.now c.in_ok-part.part c.step.result.now c.count-all.result c.min-size.result
    e c.count-few.ensures.few part c.step.ensures c.count-all.ensures.value c.min-size.ensures)
    c.in_ok-of_slots.ensures.long c.in_ok-of_slots.ensures.placed
