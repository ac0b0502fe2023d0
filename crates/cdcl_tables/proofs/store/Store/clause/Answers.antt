-- clause
use Rattle.std.proofs.Common.{arith, ◌∙◌, [], ap, sym, get_or, map}
use Rattle.std.proofs.lemmas.Option.{get_or_from_slice_get}
use Rattle.std.proofs.lemmas.List.{get_or_append_left}
use Rattle.cdcl_tables.specs.Stored.{StoreView}
use Rattle.cdcl_tables.specs.own.Stored.{lits_of}
use Rattle.cdcl_tables.proofs.store.Store.clause.Goals as goal

pub returns-then-number-self : goal.returns-then-number-self
returns-then-number-self c =
    let i = c.self.inside in
    sym (get_or_from_slice_get i.formula.clauses c.args.number c.clause.result [] c.clause.ensures.value)
    ∙ sym (get_or_append_left i.formula.clauses (map lits_of i.added.items) [] c.args.number (omega (arith, c.self.invariant.counted)))
    ∙ ap (λ (v : StoreView). get_or v.clauses c.args.number []) c.self.view_is
