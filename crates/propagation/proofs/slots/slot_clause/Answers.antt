use Rattle.std.proofs.Common.{arith, ◌≡◌, ◌<◌, ℕ, length, get_or, false, ap, sym, ◌∙◌}
use Rattle.std.proofs.lemmas.List.{get_or_read}
use Rattle.cdcl_defs.specs.State.{clause_at}
use Rattle.propagation.specs.own.Tables.{clauses_in}
use Rattle.propagation.proofs.Filters.{clause_is}
use Rattle.propagation.proofs.Slotted.{flag_at, slot_at}
use Rattle.propagation.proofs.Stepped.{clause_of_step}
use Rattle.propagation.proofs.slots.slot_clause.Goals as goal
use Rattle.propagation.proofs.slots.slot_clause.Goals.{After-number_at-number}

-- the clause with the number of a slot is that of the slot
own : (c : After-number_at-number) → clause_at c.args.tables.now.store.clauses c.number_at-number.result ≡ clause_at (clauses_in c.args.tables.now) c.args.slot
own c =
    ap (λ (n : ℕ). clause_at c.args.tables.now.store.clauses n) c.number_at-number.ensures
    ∙ sym (slot_at c.args.tables.now.store.clauses c.args.tables.now.slots.items c.args.slot c.requires.inside)

pub returns-then-slot-len : goal.returns-then-slot-len
returns-then-slot-len c =
    let t = c.args.tables.now in
    let inside : c.args.slot < length t.steps.of_slots.items = omega (arith, c.if-slot-len.true, c.len.ensures) in
    let step = get_or_read t.steps.of_slots.items c.args.slot c.index-step.result.now inside c.index-step.ensures 0 in
    clause_of_step t.store.clauses t.slots.items t.steps c.args.slot c.index-step.result.now c.number_at-number.result c.step_clause.result
    c.requires.steps inside step c.number_at-number.ensures c.step_clause.ensures
    ∙ own (goal.at.returns-then-slot-len c).After-number_at-number

pub clause-requires-clause-inside : goal.clause-requires-clause-inside
clause-requires-clause-inside c = omega (arith, c.number_at-number.ensures, c.requires.below c.args.slot c.requires.inside)

pub clause-requires-clause-read : goal.clause-requires-clause-read
clause-requires-clause-read c =
    let t = c.args.tables.now in
    c.requires.read c.number_at-number.result (ap (λ (n : ℕ). get_or t.kept.items n false) c.number_at-number.ensures
    ∙ sym (flag_at t.kept.items t.slots.items c.args.slot c.requires.inside) ∙ c.requires.kept)

pub returns : goal.returns
returns c =
    c.clause.ensures
    ∙ sym (clause_is c.args.tables.now.store.clauses c.number_at-number.result)
    ∙ own (goal.at.returns c).After-number_at-number
