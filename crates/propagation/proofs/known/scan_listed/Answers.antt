use Rattle.std.proofs.Common.{arith, ◌≡◌, ◌∙◌, ◌<◌, true, length, get_or, sym}
use Rattle.clause_base.specs.Clause.{has_literal}
use Rattle.bit_sets.specs.Layered.{words_have}
use Rattle.cdcl_defs.specs.Pending.{is_pending}
use Rattle.cdcl_defs.specs.State.{clause_at}
use Rattle.propagation.specs.own.Tables.{pending_in}
use Rattle.propagation.proofs.published.Adds.{kept_in}
use Rattle.propagation.proofs.Asks.{below_more}
use Rattle.propagation.proofs.Filters.{pending_at}
use Rattle.propagation.proofs.known.scan_listed.Goals as goal
use Rattle.propagation.proofs.known.scan_listed.Goals.{then-number-len, else-number-len}

pub loop-number-preserved : goal.loop-number-preserved
loop-number-preserved c =
    let t = c.args.tables.now in
    let trail = c.args.assignment.now.trail in
    let i = c.loop-number.invariant in
    let at = c.loop-number.number-index in
    let number = get_or c.args.listed.now at 0 in
    let inside : pending_in t trail number ≡ true → number < length t.kept.items = λ e. kept_in t.kept.items number
    (is_pending (has_literal trail) (clause_at t.store.clauses number)) (sym (pending_at t.store.clauses t.kept.items trail number) ∙ e) in
    elim c.if-number-len.branch [
      | then-number-len w ↦
          rw (w.pending-is) (record {
            asks = w.scan_one.ensures.asks;
            own = below_more (λ p. pending_in t trail (get_or c.args.listed.now p 0) ≡ true → words_have w.scan_one.new.pending.numbers
                (get_or c.args.listed.now p 0) ≡ true) at (λ p h e. w.scan_one.ensures.grows (get_or c.args.listed.now p 0) (i.own p h e)) w.scan_one.ensures.own;
          })
      | else-number-len w ↦
          rw (w.pending-is) (record {
            asks = i.asks;
            own = below_more (λ p. pending_in t trail (get_or c.args.listed.now p 0) ≡ true → words_have c.loop-number.pending.numbers
                (get_or c.args.listed.now p 0) ≡ true) at i.own (λ e. absurd (omega (arith, inside e, w.if-number-len.false, c.len.ensures)));
          })
    ]
