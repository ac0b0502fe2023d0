use Rattle.std.proofs.Common.{◌≡◌, ◌≤◌, [], reverse, take, length}
use Rattle.cdcl_defs.specs.Learn.{walk}
use Rattle.conflict_analysis.specs.own.Resolvent.{literals, seen, AreMarks}
use Rattle.conflict_analysis.proofs.walk.walk_back.Given as goal

-- the walk over all entries comes to what it comes to from here, with the clause that is marked
abbrev pub invariant-walking : goal.invariant-walking
invariant-walking l = record {
  within : l.index ≤ length l.trail.entries;
  over : AreMarks l.trail l.resolvent;
  walked : walk l.store.clauses l.trail.entries (reverse l.trail.entries) (record { clause = literals (seen l.trail l.initial.resolvent); hints = [] }) ≡ walk l.store.clauses l.trail.entries (reverse (take l.index l.trail.entries)) (record { clause = literals (seen l.trail l.resolvent); hints = reverse l.hints.items });
}

abbrev pub decreases-walking : goal.decreases-walking
decreases-walking l = l.index
