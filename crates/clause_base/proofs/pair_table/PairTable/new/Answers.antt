use Rattle.std.proofs.Common.{arith, length, ℕ, All, ◌≡◌, ◌+◌, ◌*◌, ◌<◌, ◌∙◌}
use Rattle.clause_base.proofs.published.PairTables.{end_at, end_within, table_laid}
use Rattle.clause_base.proofs.pair_table.PairTable.new.Goals as goal

pub fill-requires-clause-ends : goal.fill-requires-clause-ends
fill-requires-clause-ends c = λ x h. c.ends_of-all.ensures.ends x h ∙ end_at c.args.clauses.now c.in_ok-offsets.offsets.items x c.in_ok-offsets.ensures.counted (omega (arith, h, c.ends_of-all.ensures.long))

pub fill-requires-clause-within : goal.fill-requires-clause-within
fill-requires-clause-within c = λ x h.
    omega (arith, end_within c.args.clauses.now c.in_ok-offsets.offsets.items x c.in_ok-offsets.ensures.counted (omega (arith, h, c.ends_of-all.ensures.long)), c.ends_of-all.ensures.all, c.in_ok-items.ensures.len)

pub returns : goal.returns
returns c =
    let codes = 2 * c.variables_below.result in
    let below : All (All (λ (l : ℕ). l < codes)) c.args.clauses.now = λ k d h j e g. omega (arith, c.variables_below.ensures.enough k d h j e g) in
    let long : length c.fill.new.offsets.items ≡ codes + 1 = omega (arith, c.fill.ensures.long, c.ends_of-all.ensures.long, c.in_ok-offsets.ensures.long) in
    table_laid c.args.clauses.now codes c.fill.new.offsets.items c.fill.new.items.items below long c.fill.ensures.filled
