use Rattle.std.proofs.lemmas.List.Elements.{All-map}
use Rattle.race_outcome.specs.Ends.{line_view}
use Rattle.plan_report.specs.Laws.{IsSmallLine}
use Rattle.std.proofs.Common.{arith}
use Rattle.plan_report.proofs.horizons.push_horizons.Goals as goal

pub returns-clause-small : goal.returns-clause-small
returns-clause-small c = All-map IsSmallLine line_view c.args.lines.now (λ k d lt. let past = c.loop-line-test.false in c.loop-line.invariant.small k d (omega arith))
