use Rattle.std.proofs.Common.{arith, ℕ, ◌&&◌, Bool, ap, sym, subst}
use Rattle.std.proofs.lemmas.List.{get_or_read}
use Rattle.clause_base.specs.Clause.{has_literal}
use Rattle.bit_sets.specs.Layered.{words_have}
use Rattle.cdcl_defs.specs.State.{clause_at}
use Rattle.propagation.specs.own.Asks.{IsAsk}
use Rattle.propagation.specs.own.Tables.{pending_in}
use Rattle.propagation.proofs.Asks.{cleaned_complete, cleaned_least, cleaned_fewer}
use Rattle.propagation.proofs.AsksKept.{asks_fewer}
use Rattle.propagation.proofs.Fronts.{first_some, first_none}
use Rattle.propagation.proofs.Knowns.{stay_complete, stay_same}
use Rattle.propagation.proofs.front.next.Goals as goal

pub index-ask-requires : goal.index-ask-requires
index-ask-requires c = omega (arith, c.taking.invariant.asks.within c.in-Some.number c.in-Some.ensures.0, c.taking.invariant.asks.long)

pub answer-requires-clause-inside : goal.answer-requires-clause-inside
answer-requires-clause-inside c = c.taking.invariant.asks.within c.in-Some.number c.in-Some.ensures.0

pub answer-requires-clause-ask : goal.answer-requires-clause-ask
answer-requires-clause-ask c =
    let a = c.taking.invariant.asks in
    let inside = a.within c.in-Some.number c.in-Some.ensures.0 in
    let read = get_or_read c.taking.pending.asks.items c.in-Some.number c.index-ask.result.now (omega (arith, inside, a.long)) c.index-ask.ensures 0 in
    subst (λ (x : ℕ). IsAsk (has_literal c.args.assignment.now.trail) (clause_at c.args.tables.now.store.clauses c.in-Some.number) x) (sym read) (a.are c.in-Some.number c.in-Some.ensures.0)

pub taking-preserved : goal.taking-preserved
taking-preserved c =
    let i = c.taking.invariant in
    let has = c.remove_least.ensures.has c.in-Some.number c.in-Some.ensures in
    let was = words_have c.taking.pending.numbers in
    let is = words_have c.remove_least.new.self in
    record {
      asks = asks_fewer c.args.tables.now.store.clauses c.args.assignment.now.trail c.taking.pending c.remove_least.new.self i.asks
          (cleaned_fewer was is c.in-Some.number has) (omega (arith, c.remove_least.ensures.room));
      stay = cleaned_complete (λ k. pending_in c.args.tables.now c.args.assignment.now.trail k && words_have c.args.pending.now.numbers k) was is
          c.in-Some.number (ap (λ (b : Bool). b && words_have c.args.pending.now.numbers c.in-Some.number) c.in-None-answer.ensures) i.stay has;
      none = cleaned_least was is c.in-Some.number c.in-Some.ensures has;
      low = omega arith;
    }

pub taking-init : goal.taking-init
taking-init c = record {
  asks = c.requires.asks;
  stay = stay_same (pending_in c.args.tables.now c.args.assignment.now.trail) c.args.pending.now;
  none = λ k h. absurd (omega (arith, h));
  low = omega arith;
}

pub returns-in-Some-answer-clause-first : goal.returns-in-Some-answer-clause-first
returns-in-Some-answer-clause-first c complete =
    let t = c.args.tables.now in
    let trail = c.args.assignment.now.trail in
    first_some t.store.clauses t.kept.items trail c.taking.pending c.in-Some.number c.in-Some-answer.event c.requires.tables.kept
    (stay_complete (pending_in t trail) c.args.pending.now c.taking.pending complete c.taking.invariant.stay) c.in-Some.ensures c.in-Some-answer.ensures

pub returns-in-None-clause-first : goal.returns-in-None-clause-first
returns-in-None-clause-first c complete =
    let t = c.args.tables.now in
    let trail = c.args.assignment.now.trail in
    first_none t.store.clauses t.kept.items trail c.taking.pending
    (stay_complete (pending_in t trail) c.args.pending.now c.taking.pending complete c.taking.invariant.stay) c.in-None.ensures
