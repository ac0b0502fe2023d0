use Rattle.std.proofs.Common.{arith, ◌*◌, ap, ◌∙◌, sym}
use Rattle.bit_sets.specs.Rows.{row_has}
use Rattle.goal_choice.specs.own.Members.{Literals}
use Rattle.goal_choice.proofs.Sets.{taken, none_in}
use Rattle.goal_choice.proofs.literals.Literals.take_least.Goals as goal

pub returns-in-Some-clause-some : goal.returns-in-Some-clause-some
returns-in-Some-clause-some c =
    let row = c.self.inside.row in
    let least = c.in-Some.ensures in
    let below = c.self.invariant.below c.in-Some.lit least.1 in
    sym (ap (λ (s : Literals). s.members) c.self.view_is)
    ∙ taken (row_has row) (row_has c.remove.new.self) c.in-Some.lit 0 (2 * c.self.inside.facts) (omega arith) (omega (arith, below)) least.1 (λ j l h. least.2 j l h) c.remove.ensures.has

pub returns-in-None-clause-none : goal.returns-in-None-clause-none
returns-in-None-clause-none c =
    sym (ap (λ (s : Literals). s.members) c.self.view_is) ∙ none_in (row_has c.self.inside.row) 0 (2 * c.self.inside.facts) (λ j l. c.in-None.ensures j l)
