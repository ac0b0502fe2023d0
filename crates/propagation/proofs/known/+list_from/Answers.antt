use Rattle.std.proofs.Common.{arith, rules, ◌<◌, length, sym, subst}
use Rattle.std.proofs.lemmas.List.{get_or_read}
use Rattle.clause_base.specs.Clause.{has_literal}
use Rattle.bit_sets.specs.Layered.{words_have}
use Rattle.cdcl_defs.specs.State.{clause_at}
use Rattle.propagation.specs.own.Asks.{HasAsks, IsAsk}
use Rattle.propagation.specs.Front.{AreRead}
use Rattle.propagation.specs.own.Tables.{pending_in}
use Rattle.propagation.proofs.Asks.{cleaned_fewer}
use Rattle.propagation.proofs.AsksKept.{asks_fewer, asks_put}
use Rattle.propagation.proofs.Knowns.{listed_first, stay_back}
use Rattle.propagation.proofs.known.+list_from.Goals as goal

pub list_from-known-requires : goal.list_from-known-requires
list_from-known-requires t c =
    let first = c.next.new.pending in
    let less : HasAsks c.args.tables.now.store.clauses c.args.assignment.now.trail (record first { numbers = c.remove_least.new.self }) =
    asks_fewer c.args.tables.now.store.clauses c.args.assignment.now.trail first c.remove_least.new.self c.next.ensures.asks
    (cleaned_fewer (words_have first.numbers) (words_have c.remove_least.new.self) c.in-Some.number (c.remove_least.ensures.has c.in-Some.number c.in-Some.ensures))
    (omega (arith, c.remove_least.ensures.room)) in
    let read : AreRead c.args.tables.now c.args.assignment.now (record first { numbers = c.remove_least.new.self }) =
    record { tables = c.requires.read.tables; consistent = c.requires.read.consistent; asks = less } in
    search rules

pub returns-else-place-eq-FEW-clause-listed : goal.returns-else-place-eq-FEW-clause-listed
returns-else-place-eq-FEW-clause-listed t c =
    let first = c.next.new.pending in
    let known = c.list_from-known.result in
    let inside : c.args.place < length known.numbers = omega (arith, c.if-place-eq-FEW.false, c.requires.place, c.list_from-known.ensures.long) in
    listed_first (pending_in c.args.tables.now c.args.assignment.now.trail) c.args.pending.now first (record first { numbers = c.remove_least.new.self }) c.in-Some.number
    known.from c.args.place known.numbers inside c.next.ensures.stay (c.remove_least.ensures.has c.in-Some.number c.in-Some.ensures) c.list_from-known.ensures.listed

pub returns-else-place-eq-FEW-clause-asks : goal.returns-else-place-eq-FEW-clause-asks
returns-else-place-eq-FEW-clause-asks t c =
    let a = c.next.ensures.asks in
    let number = c.in-Some.number in
    let inside = a.within number c.in-Some.ensures.0 in
    let read = get_or_read c.next.new.pending.asks.items number c.index-ask.result.now (omega (arith, inside, a.long)) c.index-ask.ensures 0 in
    asks_put c.args.tables.now.store.clauses c.args.assignment.now.trail number c.index-ask.result.now c.list_from-known.new.pending c.put.new.self c.list_from-known.ensures.asks
    c.put.ensures inside
    (subst (IsAsk (has_literal c.args.assignment.now.trail) (clause_at c.args.tables.now.store.clauses number)) (sym read) (a.are number c.in-Some.ensures.0))

pub returns-else-place-eq-FEW-clause-stay : goal.returns-else-place-eq-FEW-clause-stay
returns-else-place-eq-FEW-clause-stay t c =
    let first = c.next.new.pending in
    stay_back (pending_in c.args.tables.now c.args.assignment.now.trail) c.args.pending.now first (record first { numbers = c.remove_least.new.self })
    (words_have c.list_from-known.new.pending.numbers) (words_have c.put.new.self.numbers) c.in-Some.number c.next.ensures.stay
    (c.remove_least.ensures.has c.in-Some.number c.in-Some.ensures) c.list_from-known.ensures.stay c.put.ensures.has
