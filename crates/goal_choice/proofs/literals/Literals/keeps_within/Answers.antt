use Rattle.std.proofs.Common.{arith, ◌*◌, ◌/◌, ◌<◌, subst}
use Rattle.std.specs.List.{AllByRecursion}
use Rattle.bit_sets.specs.Rows.{row_has}
use Rattle.goal_choice.specs.own.Members.{Literals}
use Rattle.goal_choice.proofs.Sets.{within_facts}
use Rattle.goal_choice.proofs.literals.Literals.keeps_within.Goals as goal

pub returns : goal.returns
returns c =
    subst (λ (s : Literals). AllByRecursion (λ l. l / 2 < s.facts) s.members) c.self.view_is
    (within_facts (row_has c.self.inside.row) c.self.inside.facts 0 (2 * c.self.inside.facts) (omega arith))
