use Rattle.std.proofs.Common.{List, ℕ, ◌*◌}
use Rattle.clause_base.specs.Clause.{has_literal}
use Rattle.bit_sets.specs.Layered.{words_have}
use Rattle.cdcl_tables.specs.Walk.{left_from}
use Rattle.propagation.specs.own.Asks.{HasAsks}
use Rattle.propagation.specs.own.Tables.{clauses_in}
use Rattle.propagation.specs.own.Visit.{AreVisited, MovesToFree, Grows}
use Rattle.propagation.proofs.visit.WatchState.visit_all.Given as goal

abbrev pub invariant-visits : goal.invariant-visits
invariant-visits l = record {
  visited : (rest : List ℕ) × AreVisited l.tables l.self l.assignment.trail (2 * l.assignment.variables) l.code rest l.place;
  moves : MovesToFree (clauses_in l.tables) l.initial.self.chains.nodes.items l.self.chains.nodes.items (has_literal l.assignment.trail);
  grows : Grows (words_have l.initial.self.pending.numbers) (words_have l.self.pending.numbers);
  asks : HasAsks l.tables.store.clauses l.assignment.trail l.self.pending;
}

abbrev pub decreases-visits : goal.decreases-visits
decreases-visits l = left_from l.self.chains.nodes.items l.place.node
