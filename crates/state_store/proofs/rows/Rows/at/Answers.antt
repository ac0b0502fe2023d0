use Rattle.std.proofs.Common.{arith, ◌∙◌, ◌*◌, ap, sym, List, ℕ, take, drop, Some}
use Rattle.state_store.proofs.RowsLaw.{length-rows, row_at}
use Rattle.state_store.proofs.rows.Rows.at.Goals as goal

pub part-requires-clause-number : goal.part-requires-clause-number
part-requires-clause-number c =
    let lt = rw (← c.self.view_is) at c.requires in
    let long = length-rows c.self.inside.width c.self.inside.count c.self.inside.words.items in
    omega (arith, lt, long)

pub returns-clause-row : goal.returns-clause-row
returns-clause-row c =
    let lt = rw (← c.self.view_is) at c.requires in
    let long = length-rows c.self.inside.width c.self.inside.count c.self.inside.words.items in
    rw (← c.self.view_is)
    (
    row_at c.self.inside.width c.self.inside.count c.self.inside.words.items c.args.number (omega (arith, lt, long))
    ∙ ap (λ (xs : List ℕ). Some (take c.self.inside.width (drop (c.args.number * c.self.inside.width) xs))) (sym c.deref.ensures.value)
    ∙ ap Some (sym c.part.ensures.row)
    )
