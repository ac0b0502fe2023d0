use Rattle.std.proofs.Common.{arith, ℕ, length, drop, ap}
use Rattle.never_form.proofs.Numbers.{numbers}
use Rattle.never_form.proofs.joined.joined.Goals as goal

pub overflow_cast-len : goal.overflow_cast-len
overflow_cast-len c =
    let n = numbers c.args.task.now c.args.one.now c.args.clauses.now c.requires.one c.facts-facts.ensures.lawful c.requires.over in
    let v = n.own.variables in omega (arith, v, c.len.ensures)

pub overflow_add-len : goal.overflow_add-len
overflow_add-len c =
    let n = numbers c.args.task.now c.args.one.now c.args.clauses.now c.requires.one c.facts-facts.ensures.lawful c.requires.over in
    let v = n.own.variables in omega (arith, v, c.len.ensures)

pub overflow_add-first : goal.overflow_add-first
overflow_add-first c =
    let n = numbers c.args.task.now c.args.one.now c.args.clauses.now c.requires.one c.facts-facts.ensures.lawful c.requires.over in
    let v = n.own.variables in omega (arith, v, c.len.ensures, c.variables-first.ensures.value)

pub new-formula-requires : goal.new-formula-requires
new-formula-requires c =
    let n = numbers c.args.task.now c.args.one.now c.args.clauses.now c.requires.one c.facts-facts.ensures.lawful c.requires.over in
    let v = n.own.variables in omega (arith, v, c.len.ensures, c.variables-first.ensures.value)

pub add_parts-requires-clause-numbers : goal.add_parts-requires-clause-numbers
add_parts-requires-clause-numbers c =
    let n = numbers c.args.task.now c.args.one.now c.args.clauses.now c.requires.one c.facts-facts.ensures.lawful c.requires.over in
    rw (c.variables-first.ensures.value) n.own

pub add_rest-requires-clause-room : goal.add_rest-requires-clause-room
add_rest-requires-clause-room c =
    let n = numbers c.args.task.now c.args.one.now c.args.clauses.now c.requires.one c.facts-facts.ensures.lawful c.requires.over in
    let r = n.rest in
    let e = ap (λ (k : ℕ). length (drop k c.args.one.now.clauses)) c.ends_of.ensures in
    omega (arith, r, e, c.in_ok-add_parts.ensures.few)
