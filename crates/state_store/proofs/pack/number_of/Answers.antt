use Rattle.std.proofs.Common.{arith, ◌-◌, get_or, false, drop}
use Rattle.std.proofs.lemmas.List.{length-drop}
use Rattle.state_store.proofs.PackLaw.{number_small, digit_small}
use Rattle.state_store.proofs.pack.number_of.Goals as goal

pub overflow_mul-number : goal.overflow_mul-number
overflow_mul-number c =
    let long = length-drop c.loop-left.left c.args.values.now in
    let small = number_small (drop c.loop-left.left c.args.values.now) 63 (omega (arith, long, c.requires, c.loop-left-test.true)) in
    omega (arith, small, c.loop-left.invariant.is)

pub overflow_add-number : goal.overflow_add-number
overflow_add-number c =
    let long = length-drop c.loop-left.left c.args.values.now in
    let small = number_small (drop c.loop-left.left c.args.values.now) 63 (omega (arith, long, c.requires, c.loop-left-test.true)) in
    let digit = digit_small (get_or c.args.values.now (c.loop-left.left - 1) false) in
    omega (arith, small, digit, c.loop-left.invariant.is, c.from.ensures)
