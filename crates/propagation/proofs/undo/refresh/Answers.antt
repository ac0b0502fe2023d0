use Rattle.std.proofs.Common.{arith, ◌≡◌, ◌<◌, ◌∙◌, sym, ap, subst, true, false, length, get_or, ℕ, List}
use Rattle.std.proofs.lemmas.List.{get_or_read}
use Rattle.clause_base.specs.Clause.{has_literal}
use Rattle.cdcl_defs.specs.Pending.{is_pending}
use Rattle.cdcl_defs.specs.State.{clause_at}
use Rattle.bit_sets.specs.Layered.{words_have}
use Rattle.propagation.specs.own.Asks.{HasAsks}
use Rattle.propagation.specs.own.Tables.{pending_in}
use Rattle.propagation.proofs.published.Adds.{kept_in}
use Rattle.propagation.proofs.Asks.{below_more, clash}
use Rattle.propagation.proofs.AsksKept.{asks_cleared}
use Rattle.propagation.proofs.Filters.{pending_at}
use Rattle.propagation.proofs.undo.refresh.Goals as goal
use Rattle.propagation.proofs.undo.refresh.Goals.{After-clear}

cleared : (c : After-clear) → HasAsks c.args.tables.now.store.clauses c.args.assignment.now.trail c.clear.new.self
cleared c = asks_cleared c.args.tables.now.store.clauses c.args.assignment.now.trail c.clear.new.self c.clear.ensures.none
    (omega (arith, c.clear.ensures.room, c.requires.room)) (omega (arith, ap (λ (xs : List ℕ). length xs) c.clear.ensures.asks, c.requires.long))

pub returns-then-is_quiet-clause-asks : goal.returns-then-is_quiet-clause-asks
returns-then-is_quiet-clause-asks c = cleared (goal.at.returns-then-is_quiet-clause-asks c).After-clear

pub returns-then-is_quiet-clause-complete : goal.returns-then-is_quiet-clause-complete
returns-then-is_quiet-clause-complete c k p =
    let flags = c.args.quiet.now.items in
    let inside : c.length.result < length flags = omega (arith, c.requires.flags, c.length.ensures.is) in
    let read = get_or_read flags c.length.result c.index-is_quiet.result.now inside c.index-is_quiet.ensures false in
    let flag = ap (λ (n : ℕ). get_or flags n false) (sym c.length.ensures.is) ∙ sym read ∙ c.if-is_quiet.true in
    clash (sym p ∙ c.requires.quiet flag k)

pub scan_listed-requires-clause-asks : goal.scan_listed-requires-clause-asks
scan_listed-requires-clause-asks c = cleared (goal.at.scan_listed-requires-clause-asks c).After-clear

pub loop-number-init : goal.loop-number-init
loop-number-init c = record {
  asks = c.scan_listed.ensures.asks;
  complete = λ k h p.
      let i = c.requires.listed k p h in
      subst (λ (n : ℕ). words_have c.scan_listed.new.pending.numbers n ≡ true) i.is
      (c.scan_listed.ensures.own i.place i.inside (ap (pending_in c.args.tables.now c.args.assignment.now.trail) i.is ∙ p));
}

pub loop-number-preserved : goal.loop-number-preserved
loop-number-preserved c =
    let i = c.loop-number.invariant in
    let e = c.scan_one.ensures in
    record {
      asks = e.asks;
      complete = below_more (λ k. pending_in c.args.tables.now c.args.assignment.now.trail k ≡ true → words_have c.scan_one.new.pending.numbers
          k ≡ true) c.loop-number.number (λ k h p. e.grows k (i.complete k h p)) e.own;
    }

pub returns-clause-complete : goal.returns-clause-complete
returns-clause-complete c k p =
    let t = c.args.tables.now in
    let inside = kept_in t.kept.items k (is_pending (has_literal c.args.assignment.now.trail) (clause_at t.store.clauses k)) (sym (pending_at t.store.clauses t.kept.items c.args.assignment.now.trail k) ∙ p) in
    c.loop-number.invariant.complete k (omega (arith, inside, c.loop-number-test.false, c.len-number-end.ensures)) p
