use Rattle.std.proofs.Common.{arith, ◌≡◌, ◌*◌, sym, ◌∙◌, ap, List, ℕ, subst, Bool, false, ◌&&◌, get_or}
use Rattle.clause_base.specs.Clause.{has_literal}
use Rattle.cdcl_defs.specs.Pending.{is_pending}
use Rattle.cdcl_defs.specs.State.{clause_at}
use Rattle.bit_sets.specs.Layered.{words_have}
use Rattle.propagation.specs.own.Asks.{IsAsk}
use Rattle.propagation.proofs.Asks.{clash, fit_read, pending_kept}
use Rattle.propagation.proofs.AsksKept.{asks_put}
use Rattle.propagation.proofs.Filters.{clause_is, pending_at}
use Rattle.propagation.proofs.Visits.{own_insert, grows_insert}
use Rattle.propagation.proofs.front.scan_one.Goals as goal
use Rattle.propagation.proofs.front.scan_one.Goals.{After-clause-clause}

read : (c : After-clause-clause) → c.clause-clause.result ≡ clause_at c.args.tables.now.store.clauses c.args.number
read c = c.clause-clause.ensures ∙ sym (clause_is c.args.tables.now.store.clauses c.args.number)

pub clause-clause-requires-clause-read : goal.clause-clause-requires-clause-read
clause-clause-requires-clause-read c = c.requires.tables.read c.args.number (sym c.is_kept.ensures ∙ c.if-not-is_kept.false)

pub ask_of-requires : goal.ask_of-requires
ask_of-requires c = fit_read c.args.tables.now.store.clauses (2 * c.args.assignment.now.variables) c.args.number c.clause-clause.result c.requires.tables.fit c.clause-clause.ensures

pub put-requires-clause-number : goal.put-requires-clause-number
put-requires-clause-number c = omega (arith, c.requires.inside, c.requires.asks.room)

pub put-requires-clause-ask : goal.put-requires-clause-ask
put-requires-clause-ask c = omega (arith, c.requires.inside, c.requires.asks.long)

pub returns-then-not-is_kept-clause-own : goal.returns-then-not-is_kept-clause-own
returns-then-not-is_kept-clause-own c p =
    let t = c.args.tables.now in
    let off : get_or t.kept.items c.args.number false ≡ false = sym c.is_kept.ensures ∙ c.if-not-is_kept.true in
    clash (sym p ∙ pending_at t.store.clauses t.kept.items c.args.assignment.now.trail c.args.number ∙ ap
    (λ (b : Bool). b && is_pending (has_literal c.args.assignment.now.trail) (clause_at t.store.clauses c.args.number)) off)

pub returns-in-Some-clause-own : goal.returns-in-Some-clause-own
returns-in-Some-clause-own c p = own_insert (words_have c.args.pending.now.numbers) (words_have c.put.new.self.numbers) c.args.number c.put.ensures.has

pub returns-in-Some-clause-grows : goal.returns-in-Some-clause-grows
returns-in-Some-clause-grows c = grows_insert (words_have c.args.pending.now.numbers) (words_have c.put.new.self.numbers) c.args.number c.put.ensures.has

pub returns-in-Some-clause-asks : goal.returns-in-Some-clause-asks
returns-in-Some-clause-asks c =
    let here = (goal.at.returns-in-Some-clause-asks c).After-clause-clause in
    asks_put c.args.tables.now.store.clauses c.args.assignment.now.trail c.args.number c.in-Some.ask c.args.pending.now c.put.new.self c.requires.asks c.put.ensures c.requires.inside
    (subst (λ (xs : List ℕ). IsAsk (has_literal c.args.assignment.now.trail) xs c.in-Some.ask) (read here) c.in-Some.ensures)

pub returns-in_default-clause-own : goal.returns-in_default-clause-own
returns-in_default-clause-own c p =
    let here = (goal.at.returns-in_default-clause-own c).After-clause-clause in
    let t = c.args.tables.now in
    clash (sym (pending_kept t.store.clauses t.kept.items c.args.assignment.now.trail c.args.number p) ∙ ap
    (is_pending (has_literal c.args.assignment.now.trail)) (sym (read here)) ∙ c.in_default.ensures)
