use Rattle.std.proofs.Common.{◌≡◌, ◌++◌, not, drop, length, filter}
use Rattle.cdcl_defs.specs.Reduce.{has_forced, candidates}
use Rattle.conflict_analysis.specs.Clauses.{all_clauses}
use Rattle.cdcl_core.proofs.reduce.candidates.Given as goal

abbrev pub invariant-loop-number : goal.invariant-loop-number
invariant-loop-number l =
    candidates (length l.clauses.formula.clauses) (all_clauses l.clauses) l.clauses.kept l.trail.entries
    ≡ l.numbers.items ++ filter (λ n. not (has_forced l.trail.entries n)) (drop l.number-index l.longs)
