use Rattle.std.proofs.Common.{◌*◌, refl, ◌∙◌}
use Rattle.bit_sets.specs.Rows.{row_has}
use Rattle.goal_choice.proofs.Sets.{none_in, same_set}
use Rattle.goal_choice.proofs.literals.Literals.new.Goals as goal

pub returns-in-Ok : goal.returns-in-Ok
returns-in-Ok c =
    same_set _ _ _ _ refl (none_in (row_has c.make_room.new.self) 0 (2 * c.args.facts) (λ j l. c.in-Ok.ensures.has j ∙ c.new-row.ensures.empty j))
