use Rattle.std.proofs.Common.{◌==◌, ◌||◌, ◌∙◌, ℕ, Bool, ap}
use Rattle.std.proofs.Math.Bool.{or-false}
use Rattle.gt_core.specs.Literal.{opposite}
use Rattle.two_invariants.proofs.groups.group_of.Goals as goal

pub returns-clause-literals : goal.returns-clause-literals
returns-clause-literals c m =
    c.in_ok-insert.ensures.has m
    ∙ ap (λ (b : Bool). (c.lit.result == m) || b) (c.new-literals.ensures.empty m)
    ∙ or-false (c.lit.result == m)
    ∙ ap (λ (l : ℕ). l == m) c.lit.ensures

pub returns-clause-opposites : goal.returns-clause-opposites
returns-clause-opposites c m =
    c.in_ok-insert-2.ensures.has m
    ∙ ap (λ (b : Bool). (c.opposite.result == m) || b) (c.new-opposites.ensures.empty m)
    ∙ or-false (c.opposite.result == m)
    ∙ ap (λ (l : ℕ). l == m) (c.opposite.ensures ∙ ap opposite c.lit-2.ensures)
