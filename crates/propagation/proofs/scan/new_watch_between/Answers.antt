use Rattle.std.proofs.Common.{arith, ◌≡◌, ◌∙◌, ℕ, ◌+◌, ◌*◌, ◌<◌, ◌≤◌, length, get_or, sym, ap, subst}
use Rattle.std.proofs.lemmas.List.{get_or_read}
use Rattle.clause_base.specs.View.{shifted}
use Rattle.clause_base.proofs.published.ViewLemmas.{up_high}
use Rattle.propagation.proofs.Runs.{as_long, low_item, high_item, sought_none, sought_other}
use Rattle.propagation.proofs.scan.new_watch_between.Goals as goal
use Rattle.propagation.proofs.scan.new_watch_between.Goals.{After-lit}

-- the literal that is read stands in the clause
inside : (c : After-lit) → c.loop-place.place < length c.args.clause.now
inside c = omega (arith, c.loop-place-test.true, c.requires.high)

long : (c : After-lit) → length c.moving-moving.result.lits.now ≡ length c.args.clause.now
long c =
    let m = c.moving-moving.result in
    as_long c.args.clause.now m.lits.now (shifted m.limit m.low m.high) c.moving-moving.ensures.value

inside_lits : (c : After-lit) → c.loop-place.place < length c.moving-moving.result.lits.now
inside_lits c = omega (arith, inside c, long c)

read : (c : After-lit) → c.lit.inside.0 ≡ get_or c.moving-moving.result.lits.now c.loop-place.place 0
read c = c.lit.view_is ∙ get_or_read c.moving-moving.result.lits.now c.loop-place.place c.index-lits-place.result (inside_lits c) c.index-lits-place.is 0

-- from one on that is not below the limit none is
past : (c : After-lit) → c.moving-moving.result.limit ≤ c.lit.inside.0 → (p : ℕ) → c.loop-place.place ≤ p → p < length c.moving-moving.result.lits.now
    → c.moving-moving.result.limit ≤ get_or c.moving-moving.result.lits.now p 0
past c h p le lt = c.moving-moving.ensures.moved.past c.loop-place.place p le lt (omega (arith, h, read c))

same : (c : After-lit) → c.moving-moving.result.limit ≤ c.lit.inside.0 → (p : ℕ) → c.loop-place.place ≤ p → p < length c.args.clause.now
    → c.moving-moving.result.high + get_or c.moving-moving.result.lits.now p 0 ≡ get_or c.args.clause.now p 0
same c h p le lt =
    let m = c.moving-moving.result in
    let there : p < length m.lits.now = omega (arith, lt, long c) in
    high_item c.args.clause.now m.lits.now m.limit m.low m.high p c.moving-moving.ensures.value there (past c h p le there)

pub new_watch_in_time-requires-clause-fits : goal.new_watch_in_time-requires-clause-fits
new_watch_in_time-requires-clause-fits c = λ p le lt small.
    let m = c.moving-moving.result in
    subst (λ (n : ℕ). n ≤ 4294967295) (up_high m.limit m.low m.high (get_or m.lits.now p 0) (past (goal.at.new_watch_in_time-requires-clause-fits c).After-lit c.if-lit-moving.true p le lt))
    (c.moving-moving.ensures.moved.codes p 0 lt small)

pub new_watch_in_time-requires-clause-below : goal.new_watch_in_time-requires-clause-below
new_watch_in_time-requires-clause-below c = λ p le lt.
    let at = (goal.at.new_watch_in_time-requires-clause-below c).After-lit in
    let there : p < length c.args.clause.now = omega (arith, lt, long at) in
    subst (λ (n : ℕ). n < 2 * c.args.assignment.now.variables) (sym (same at c.if-lit-moving.true p le there)) (c.requires.below p there)

pub returns-then-lit-moving-clause-none : goal.returns-then-lit-moving-clause-none
returns-then-lit-moving-clause-none c =
    let m = c.moving-moving.result in
    sought_none c.args.assignment.now.trail c.args.clause.now m.lits.now m.high c.args.skipped c.args.low c.loop-place.place c.args.high c.requires.high
    (same (goal.at.returns-then-lit-moving-clause-none c).After-lit c.if-lit-moving.true) c.new_watch_in_time.result c.new_watch_in_time.ensures c.loop-place.invariant

pub returns-then-lit-moving-clause-other : goal.returns-then-lit-moving-clause-other
returns-then-lit-moving-clause-other c =
    let m = c.moving-moving.result in
    sought_other c.args.assignment.now.trail c.args.clause.now m.lits.now m.high c.args.skipped c.args.low c.loop-place.place c.args.high c.requires.high
    (same (goal.at.returns-then-lit-moving-clause-other c).After-lit c.if-lit-moving.true) c.new_watch_in_time.result c.new_watch_in_time.ensures

pub is_false-requires : goal.is_false-requires
is_false-requires c =
    let m = c.moving-moving.result in
    let at = (goal.at.is_false-requires c).After-lit in
    let less : get_or m.lits.now c.loop-place.place 0 < m.limit = omega (arith, c.if-lit-moving.false, read at) in
    subst (λ (n : ℕ). n < 2 * c.args.assignment.now.variables)
    (sym (ap (λ (n : ℕ). m.low + n) (read at) ∙ low_item c.args.clause.now m.lits.now m.limit m.low m.high c.loop-place.place c.moving-moving.ensures.value (inside_lits at) less))
    (c.requires.below c.loop-place.place (inside at))
