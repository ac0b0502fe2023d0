use Rattle.std.proofs.Common.{◌≡◌, ◌+◌, ◌*◌, ◌∷◌, ℕ, List, [], ap, subst}
use Rattle.bit_sets.specs.Rows.{row_has}
use Rattle.goal_choice.specs.own.Members.{Literals, members_from}
use Rattle.goal_choice.proofs.Sets.{next_one, no_next}
use Rattle.goal_choice.proofs.literals.Literals.least.Goals as goal

pub returns-in-Some-clause-some : goal.returns-in-Some-clause-some
returns-in-Some-clause-some c =
    let row = c.self.inside.row in
    let l = c.in-Some.lit in
    let least = c.in-Some.ensures in
    subst (λ (ls : List ℕ). members_from c.args.from ls ≡ l ∷ members_from (l + 1) ls) (ap (λ (s : Literals). s.members) c.self.view_is)
    (next_one (row_has row) c.args.from l (2 * c.self.inside.facts) least.0 least.1 least.2 (c.self.invariant.below l least.1))

pub returns-in-None-clause-none : goal.returns-in-None-clause-none
returns-in-None-clause-none c =
    let row = c.self.inside.row in
    subst (λ (ls : List ℕ). members_from c.args.from ls ≡ []) (ap (λ (s : Literals). s.members) c.self.view_is)
    (no_next (row_has row) c.args.from (2 * c.self.inside.facts) c.in-None.ensures)
