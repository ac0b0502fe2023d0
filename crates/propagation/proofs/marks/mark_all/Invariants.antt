use Rattle.std.proofs.Common.{◌≡◌, ℕ, ◌<◌, true, false}
use Rattle.clause_base.specs.Clause.{has_literal}
use Rattle.bit_sets.specs.Layered.{words_have}
use Rattle.propagation.specs.own.Asks.{HasAsks}
use Rattle.propagation.specs.own.Visit.{Grows}
use Rattle.clause_base.specs.Pairs.{pair_in}
use Rattle.propagation.proofs.marks.mark_all.Given as goal

abbrev pub invariant-loop-place : goal.invariant-loop-place
invariant-loop-place l = record {
  in_set : (i : ℕ) → i < l.place → has_literal l.assignment.trail (pair_in l.pairs i).other ≡ false
      → words_have l.pending.numbers (pair_in l.pairs i).number ≡ true;
  grows : Grows (words_have l.initial.pending.numbers) (words_have l.pending.numbers);
  asks : HasAsks l.store.clauses l.assignment.trail l.pending;
}
