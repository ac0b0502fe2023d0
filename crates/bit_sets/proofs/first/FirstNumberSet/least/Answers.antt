use Rattle.std.proofs.Common.{subst, List, ℕ}
use Rattle.bit_sets.specs.Layered.{words_have, IsLeast}
use Rattle.bit_sets.proofs.Firsts.{first_least}
use Rattle.bit_sets.proofs.first.FirstNumberSet.least.Goals as goal

pub returns : goal.returns
returns g c = subst (λ (ws : List ℕ). IsLeast (words_have ws) c.self.inside.least) c.self.view_is (first_least c.self.inside.others.words c.self.inside.least c.self.invariant)
