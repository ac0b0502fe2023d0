use Rattle.std.proofs.Common.{◌≡◌, ℕ, ◌<◌, ◌≤◌, ◌-◌, false}
use Rattle.bit_sets.specs.Layered.{words_have}
use Rattle.propagation.specs.own.Asks.{HasAsks}
use Rattle.propagation.specs.Front.{StayWhere}
use Rattle.propagation.specs.own.Tables.{pending_in}
use Rattle.propagation.proofs.front.next.Given as goal

abbrev pub invariant-taking : goal.invariant-taking
invariant-taking l = record {
  asks : HasAsks l.tables.store.clauses l.assignment.trail l.pending;
  stay : StayWhere (pending_in l.tables l.assignment.trail) l.initial.pending l.pending;
  none : (k : ℕ) → k < l.low → words_have l.pending.numbers k ≡ false;
  low : l.low ≤ 4294967296;
}

abbrev pub decreases-taking : goal.decreases-taking
decreases-taking l = 4294967296 - l.low
