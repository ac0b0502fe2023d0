use Rattle.std.proofs.Common.{arith, rules}
use Rattle.race.proofs.Rounds.{at-first}
use Rattle.race.proofs.racing.Racing.new.Goals as goal

pub returns-clause-between : goal.returns-clause-between
returns-clause-between c input rates budget = record {
  tied = search rules;
  low = search rules;
  after = at-first input _ (search rules);
  few = omega arith;
}
