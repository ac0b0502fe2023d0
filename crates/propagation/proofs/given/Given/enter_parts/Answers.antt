use Rattle.std.proofs.Common.{arith, ◌≡◌, ◌+◌, ◌*◌, ◌∙◌, ℕ, length, ap}
use Rattle.cdcl_defs.specs.State.{clause_at}
use Rattle.propagation.proofs.Templates.{part_end}
use Rattle.propagation.proofs.given.Given.enter_parts.Goals as goal

pub enter_part-requires-clause-inside : goal.enter_part-requires-clause-inside
enter_part-requires-clause-inside c =
    let e = part_end c.args.parts c.args.others.now.count c.loop.counter c.loop-test.true in
    omega (arith, e, c.loop.invariant.next, c.requires.inside)

pub enter_part-requires-clause-twos : goal.enter_part-requires-clause-twos
enter_part-requires-clause-twos c j h =
    let k : c.loop.next + j ≡ c.args.first + (c.loop.counter * c.args.others.now.count + j) = omega (arith, c.loop.invariant.next) in
    ap (λ (n : ℕ). length (clause_at c.args.store.now.clauses n)) k ∙ c.requires.twos c.loop.counter j c.loop-test.true h
