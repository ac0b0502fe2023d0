use Rattle.std.proofs.Common.{arith, ◌∙◌, sym}
use Rattle.propagation.proofs.Falls.{free_until_place, free_throughout, place_before}
use Rattle.propagation.proofs.fall.free_until.Goals as goal

pub returns-then-is_false-clause-lasts : goal.returns-then-is_false-clause-lasts
returns-then-is_false-clause-lasts c n h =
    free_until_place c.args.assignment.now.trail c.args.code c.position.result n (c.position.ensures.falsified (sym c.is_false.ensures ∙ c.if-is_false.true) n h)

pub returns-then-is_false-clause-within : goal.returns-then-is_false-clause-within
returns-then-is_false-clause-within c =
    let f = sym c.is_false.ensures ∙ c.if-is_false.true in
    let p = place_before c.args.assignment.now.trail c.args.code c.position.result f (c.position.ensures.falsified f) in
    omega (arith, p)

pub returns-then-is_false-clause-short : goal.returns-then-is_false-clause-short
returns-then-is_false-clause-short c =
    let f = sym c.is_false.ensures ∙ c.if-is_false.true in
    let p = place_before c.args.assignment.now.trail c.args.code c.position.result f (c.position.ensures.falsified f) in
    omega (arith, p, c.length-length.ensures.is, c.length-length.ensures.short)

pub returns-else-is_false-clause-lasts : goal.returns-else-is_false-clause-lasts
returns-else-is_false-clause-lasts c n h =
    free_throughout c.args.assignment.now.trail c.args.code c.length-length.result n (sym c.is_false.ensures ∙ c.if-is_false.false) c.length-length.ensures.is h
