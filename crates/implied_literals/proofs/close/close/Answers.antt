use Rattle.std.proofs.Common.{◌*◌}
use Rattle.implied_literals.specs.Rows.{clause_in}
use Rattle.implied_literals.proofs.published.Closing.{grown_twice}
use Rattle.implied_literals.proofs.close.close.Goals as goal

pub follow-preserved : goal.follow-preserved
follow-preserved c = record {
  grown = grown_twice (clause_in c.args.done.now.rules.now.clauses.now) (2 * c.args.done.now.rules.now.facts) c.requires.done.rules.clauses.within _ _ _ c.follow.invariant.grown c.in_ok-follow-in-Some.ensures.grown;
  growing = c.in_ok-follow-in-Some.ensures.growing;
}
