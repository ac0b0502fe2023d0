use Rattle.std.proofs.Common.{arith, ap, ◌∙◌, List, ℕ}
use Rattle.bit_sets.specs.Layered.{words_have}
use Rattle.bit_sets.proofs.Firsts.{first_same}
use Rattle.bit_sets.proofs.first.FirstNumberSet.grow.Goals as goal

pub returns-in_err-grow-clause-has : goal.returns-in_err-grow-clause-has
returns-in_err-grow-clause-has g c k = first_same c.self.inside.others.words c.grow.new.self.words c.self.inside.least c.self.invariant.inside (omega (arith, c.in_err-grow.ensures.err)) c.grow.ensures.has k ∙ ap (λ (ws : List ℕ). words_have ws k) c.self.view_is

pub returns-clause-has : goal.returns-clause-has
returns-clause-has g c k = first_same c.self.inside.others.words c.grow.new.self.words c.self.inside.least c.self.invariant.inside (omega (arith, c.in_ok-grow.ensures.room)) c.grow.ensures.has k ∙ ap (λ (ws : List ℕ). words_have ws k) c.self.view_is
