use Rattle.std.proofs.Common.{ap}
use Rattle.search_top.specs.Seen.{seen}
use Rattle.search_top.proofs.decide.answer.Goals as goal

pub returns-in-NeverJudge-clause-untaken : goal.returns-in-NeverJudge-clause-untaken
returns-in-NeverJudge-clause-untaken g c apart = absurd (apart _ _ _ _ (ap seen c.in-NeverJudge.is))
