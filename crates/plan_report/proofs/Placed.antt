-- The members of a published order are actions.
use Rattle.std.proofs.Common.{◌≡◌, ◌<◌, ◌∙◌, ℕ, true, List, length, ap, subst}
use Rattle.std.proofs.lemmas.List.{length-map}
use Rattle.gt_core.specs.Literal.{is_in}
use Rattle.gt_core.specs.Task.{Task}
use Rattle.gt_core.specs.Published.{IsPublished, order_of}
use Rattle.action_order.proofs.published.PublishLaw.{action_below}
use Rattle.pd_model.specs.declared.parts.Parts.{Parts}
use Rattle.grounding_defs.specs.Grounded.{Grounded, IsGrounded}

-- each place has the number of a call
pub placed_calls :
    (p : Parts) (g : Grounded) (clauses : List (ℕ × ℕ)) (components : List (List ℕ))
    → IsGrounded p g → IsPublished g.task clauses components → (a : ℕ) → is_in (order_of components) a ≡ true → a < length g.calls
placed_calls p g clauses components is published a i =
    let lengths : length g.task.actions ≡ length g.calls = ap (λ (t : Task). length t.actions) is.task ∙ length-map g.calls _ in
    subst (λ (n : ℕ). a < n) lengths (action_below g.task clauses components published a i)
