use Rattle.std.proofs.Common.{arith, ◌*◌, ◌<◌, true, false}
use Rattle.clause_base.proofs.ValueLemmas.{length-view, values_read, off_read, read_at, true_at}
use Rattle.clause_base.proofs.values.Values.get.Goals as goal

pub returns-then-index-clause-past : goal.returns-then-index-clause-past
returns-then-index-clause-past c past = absurd (omega (arith, length-view _ _ c.args.self.now c.self.view_is, past, c.if-v-self.false))

pub returns-then-index-2-clause-past : goal.returns-then-index-2-clause-past
returns-then-index-2-clause-past c past = absurd (omega (arith, length-view _ _ c.args.self.now c.self.view_is, past, c.if-v-self.false))

pub returns-then-index-clause-value : goal.returns-then-index-clause-value
returns-then-index-clause-value c within =
    let w = c.self.inside in
    let below : c.args.v < w.variables = omega (arith, c.if-v-self.false) in
    values_read w.variables c.args.v w.on.items c.args.self.now c.self.view_is below
    (true_at w.on.items c.args.v (read_at w.on.items (2 * c.args.v) c.index.result.now true (omega (arith, below, c.self.invariant.size)) c.index.ensures c.if-index.true))

pub returns-then-index-2-clause-value : goal.returns-then-index-2-clause-value
returns-then-index-2-clause-value c within =
    off_read _ c.args.v _ _ c.index.result.now c.index-else-index.result.now true c.self.view_is (omega (arith, c.if-v-self.false)) c.self.invariant.size
    c.index.ensures c.index-else-index.ensures c.if-index.false c.if-index-2.true

pub returns-then-v-self-clause-value : goal.returns-then-v-self-clause-value
returns-then-v-self-clause-value c within =
    let long = length-view _ _ c.args.self.now c.self.view_is in
    absurd (omega (arith, long, within, c.if-v-self.true))

pub returns-else-index-2-clause-value : goal.returns-else-index-2-clause-value
returns-else-index-2-clause-value c within =
    off_read _ c.args.v _ _ c.index.result.now c.index-else-index.result.now false c.self.view_is (omega (arith, c.if-v-self.false)) c.self.invariant.size
    c.index.ensures c.index-else-index.ensures c.if-index.false c.if-index-2.false
