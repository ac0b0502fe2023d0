use Rattle.std.proofs.Common.{arith, ◌+◌, ◌∙◌, ap}
use Rattle.state_store.specs.own.Rows.{rows_of}
use Rattle.state_store.proofs.RowsLaw.{length-rows, rows_push, row_fits, more_words}
use Rattle.state_store.proofs.rows.Rows.push.Goals as goal

pub extend-requires : goal.extend-requires
extend-requires c =
    let lt = rw (← c.self.view_is) at c.requires.room in
    let wide = rw (← c.self.view_is) at c.requires.width in
    let count = length-rows c.self.inside.width c.self.inside.count c.self.inside.words.items in
    row_fits c.self.inside.width c.self.inside.count c.self.inside.most _ c.self.inside.words.items c.args.row.now (omega (arith, lt, count)) c.self.invariant.2 c.self.invariant.0 wide

pub overflow_add-self : goal.overflow_add-self
overflow_add-self c =
    let lt = rw (← c.self.view_is) at c.requires.room in
    let count = length-rows c.self.inside.width c.self.inside.count c.self.inside.words.items in
    omega (arith, lt, count, c.self.ranges)

pub invariant_of-self : goal.invariant_of-self
invariant_of-self c =
    let lt = rw (← c.self.view_is) at c.requires.room in
    let wide = rw (← c.self.view_is) at c.requires.width in
    let count = length-rows c.self.inside.width c.self.inside.count c.self.inside.words.items in (
      more_words c.self.inside.width c.self.inside.count c.self.inside.words.items c.extend.new.words.items c.args.row.now c.extend.ensures.words c.self.invariant.0 wide,
      omega (arith, lt, count),
      omega (arith, c.self.invariant.2, c.extend.ensures.room),
    )

pub returns : goal.returns
returns c =
    let wide = rw (← c.self.view_is) at c.requires.width in
    let all = ap (λ ws. rows_of c.self.inside.width (c.self.inside.count + 1) ws) c.extend.ensures.words ∙ rows_push c.self.inside.width c.self.inside.count c.self.inside.words.items c.args.row.now c.self.invariant.0 wide in
    rw (← c.self.view_is) (λ i. record { width = c.self.inside.width; most = c.self.inside.most; rows = all i })
