use Rattle.std.proofs.Common.{arith, ◌*◌, ℕ, List, ap, ◌∙◌}
use Rattle.bit_sets.specs.Rows.{row_has}
use Rattle.containers.specs.Rising.{put}
use Rattle.goal_choice.specs.own.Members.{Literals}
use Rattle.goal_choice.proofs.Sets.{put_in, same_set}
use Rattle.goal_choice.proofs.literals.Literals.put.Goals as goal

pub returns : goal.returns
returns c =
    let row = c.self.inside.row in
    let facts = ap (λ (s : Literals). s.facts) c.self.view_is in
    let members = ap (λ (s : Literals). s.members) c.self.view_is in
    same_set _ _ _ _ facts (put_in (row_has row) (row_has c.set.new.self) c.args.lit 0 (2 * c.self.inside.facts) (omega arith) (omega (arith, c.requires, facts)) c.set.ensures.has ∙ ap (λ (ls : List ℕ). put ls c.args.lit) members)
