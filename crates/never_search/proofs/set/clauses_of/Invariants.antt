use Rattle.std.proofs.Common.{◌<◌, ◌≤◌, ◌*◌, length}
use Rattle.std.specs.List.{AllByRecursion}
use Rattle.never_text.specs.Laws.{IsAsRead}
use Rattle.never_search.proofs.set.clauses_of.Given as goal

abbrev pub invariant-loop-layer : goal.invariant-loop-layer
invariant-loop-layer l = record {
  few : length l.clauses ≤ l.layer-index;
  over : AllByRecursion (AllByRecursion (λ m. m < 2 * l.facts)) l.clauses;
  as_read : AllByRecursion (IsAsRead l.facts) l.clauses;
}
