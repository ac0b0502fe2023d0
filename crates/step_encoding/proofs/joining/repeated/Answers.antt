use Rattle.std.proofs.Common.{arith, ◌∙◌, length, sym, ap, ◌+◌, ◌≤◌, subst}
use Rattle.formula_defs.specs.Layout.{Layout, variables}
use Rattle.clause_base.specs.Repeats.{Repeats, repeated}
use Rattle.clause_base.proofs.published.RepeatLemmas.{length_repeated}
use Rattle.step_encoding.proofs.Joined.{repeats_of, repeated_is, new_is, new_fits, first_new, first_fits, first_is, first_long}
use Rattle.std.proofs.Math.Nat.{mul-le-mul_right}
use Rattle.step_encoding.proofs.joining.repeated.Goals as goal

pub sharing-requires-clause-time_below : goal.sharing-requires-clause-time_below
sharing-requires-clause-time_below c =
    let read : Layout = record { horizon = c.layout.inside.horizon; actions = c.layout.inside.actions; conditional = c.layout.inside.conditional; chains = c.layout.inside.chains; facts = c.layout.inside.facts } in
    (first_fits read c.args.layout.now c.args.step.now c.args.known.now c.own-none.result c.in_ok-time.time c.layout.view_is (c.own-none.ensures ∙ c.new.ensures) c.in_ok-time.ensures c.requires.times_fit c.if-layout-eq0.true c.requires.few c.variables-all.ensures.lawful).time_below

pub returns-then-layout-eq0-clause-long : goal.returns-then-layout-eq0-clause-long
returns-then-layout-eq0-clause-long c =
    let read : Layout = record { horizon = c.layout.inside.horizon; actions = c.layout.inside.actions; conditional = c.layout.inside.conditional; chains = c.layout.inside.chains; facts = c.layout.inside.facts } in
    first_long c.args.layout.now c.args.step.now c.args.known.now _ (ap (λ (z : Layout). z.horizon) (sym c.layout.view_is) ∙ c.if-layout-eq0.true)
    (first_new read c.args.layout.now c.args.known.now c.own-none.result c.in_ok-time.time _ c.layout.view_is (c.own-none.ensures ∙ c.new.ensures) c.in_ok-time.ensures c.sharing.ensures)

pub returns-then-layout-eq0-clause-clauses : goal.returns-then-layout-eq0-clause-clauses
returns-then-layout-eq0-clause-clauses c =
    let read : Layout = record { horizon = c.layout.inside.horizon; actions = c.layout.inside.actions; conditional = c.layout.inside.conditional; chains = c.layout.inside.chains; facts = c.layout.inside.facts } in
    first_is c.args.layout.now c.args.step.now c.args.known.now _ (ap (λ (z : Layout). z.horizon) (sym c.layout.view_is) ∙ c.if-layout-eq0.true)
    (first_new read c.args.layout.now c.args.known.now c.own-none.result c.in_ok-time.time _ c.layout.view_is (c.own-none.ensures ∙ c.new.ensures) c.in_ok-time.ensures c.sharing.ensures)

pub sharing-requires-2-clause-step_below : goal.sharing-requires-2-clause-step_below
sharing-requires-2-clause-step_below c =
    let read : Layout = record { horizon = c.layout.inside.horizon; actions = c.layout.inside.actions; conditional = c.layout.inside.conditional; chains = c.layout.inside.chains; facts = c.layout.inside.facts } in
    (new_fits read c.args.layout.now c.args.step.now c.args.known.now c.in_ok-step.step c.in_ok-time.time c.layout.view_is c.in_ok-step.ensures c.in_ok-time.ensures c.requires.steps_fit c.requires.times_fit (omega arith) c.requires.few c.variables-all.ensures.lawful).step_below

pub sharing-requires-2-clause-time_below : goal.sharing-requires-2-clause-time_below
sharing-requires-2-clause-time_below c =
    let read : Layout = record { horizon = c.layout.inside.horizon; actions = c.layout.inside.actions; conditional = c.layout.inside.conditional; chains = c.layout.inside.chains; facts = c.layout.inside.facts } in
    (new_fits read c.args.layout.now c.args.step.now c.args.known.now c.in_ok-step.step c.in_ok-time.time c.layout.view_is c.in_ok-step.ensures c.in_ok-time.ensures c.requires.steps_fit c.requires.times_fit (omega arith) c.requires.few c.variables-all.ensures.lawful).time_below

pub returns-clause-clauses : goal.returns-clause-clauses
returns-clause-clauses c =
    let read : Layout = record { horizon = c.layout.inside.horizon; actions = c.layout.inside.actions; conditional = c.layout.inside.conditional; chains = c.layout.inside.chains; facts = c.layout.inside.facts } in
    repeated_is c.args.layout.now c.args.step.now c.args.known.now _
    (new_is read c.args.layout.now c.args.step.now c.args.known.now c.in_ok-step.step c.in_ok-time.time _ c.layout.view_is c.in_ok-step.ensures c.in_ok-time.ensures c.sharing-2.ensures)

pub returns-clause-long : goal.returns-clause-long
returns-clause-long c =
    let read : Layout = record { horizon = c.layout.inside.horizon; actions = c.layout.inside.actions; conditional = c.layout.inside.conditional; chains = c.layout.inside.chains; facts = c.layout.inside.facts } in
    ap (λ (x : Repeats). length (repeated x)) (new_is read c.args.layout.now c.args.step.now c.args.known.now c.in_ok-step.step c.in_ok-time.time _ c.layout.view_is c.in_ok-step.ensures c.in_ok-time.ensures c.sharing-2.ensures)
    ∙ length_repeated (repeats_of c.args.layout.now c.args.step.now c.args.known.now)

pub overflow_add-width : goal.overflow_add-width
overflow_add-width c =
    let z = c.layout.inside in
    let small = subst (λ (y : Layout). variables y ≤ 2147483647) (sym c.layout.view_is) c.variables-all.ensures.lawful in
    let some : 1 ≤ z.horizon = omega (arith, c.if-layout-eq0.false) in
    omega (arith, small, mul-le-mul_right (z.actions + z.conditional + z.chains) some)

pub overflow_add-width-2 : goal.overflow_add-width-2
overflow_add-width-2 c =
    let z = c.layout.inside in
    let small = subst (λ (y : Layout). variables y ≤ 2147483647) (sym c.layout.view_is) c.variables-all.ensures.lawful in
    let some : 1 ≤ z.horizon = omega (arith, c.if-layout-eq0.false) in
    omega (arith, small, mul-le-mul_right (z.actions + z.conditional + z.chains) some)
