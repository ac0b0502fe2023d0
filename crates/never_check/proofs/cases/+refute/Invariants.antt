use Rattle.std.proofs.Common.{◌≡◌, ◌==◌, ◌+◌, ◌-◌, ◌*◌, length, take, drop, map}
use Rattle.std.specs.Prelude.{slice_index}
use Rattle.std.specs.List.{AllByRecursion, filter}
use Rattle.gt_core.specs.Literal.{opposite}
use Rattle.never_defs.specs.Cases.{cases_of, if_made}
use Rattle.never_check.specs.Refuted.{IsWayContradicted}
use Rattle.never_check.proofs.cases.+refute.Given as goal

abbrev pub decreases-refute_conditions : goal.decreases-refute_conditions
decreases-refute_conditions l = 8 * (length l.at.now.pair.now.clause.now - l.at.now.place) + 4

abbrev pub decreases-refute_from : goal.decreases-refute_from
decreases-refute_from l = 8 * (length l.pair.now.clause.now - l.place) + 6

abbrev pub decreases-refute_made : goal.decreases-refute_made
decreases-refute_made l = 8 * (length l.at.now.pair.now.clause.now - l.at.now.place) + 3

abbrev pub decreases-refute_ways : goal.decreases-refute_ways
decreases-refute_ways l = 8 * (length l.pair.now.clause.now - l.place) + 5

abbrev pub decreases-refute_way : goal.decreases-refute_way
decreases-refute_way l = 8 * (length l.pair.now.clause.now - l.place) + 2

abbrev pub invariant-refute_conditions-loop-effect : goal.invariant-refute_conditions-loop-effect
invariant-refute_conditions-loop-effect l = record {
  kept : l.trail ≡ l.initial.trail;
  all :
      AllByRecursion (λ c. IsWayContradicted l.at.pair.now.rules.now l.held.more.now l.initial.trail.literals (cases_of l.at.pair.now.act.now (drop (l.at.place + 1) l.at.pair.now.clause.now))
      (record { literals = c; clauses = if_made l.at.pair.now.act.now (opposite (slice_index l.at.pair.now.clause.now l.at.place)) }))
      (map (λ e. e.condition) (filter (λ e. e.literal == opposite (slice_index l.at.pair.now.clause.now l.at.place)) (take l.effect-index l.effect-items)));
}
