-- Results that are wrong are not what grounding gives.
use Rattle.std.proofs.Common.{arith, ◌≡◌, ℕ, List, [], ◌∷◌, ap}
use Rattle.gt_core.specs.Task.{Task}
use Rattle.pd_model.specs.declared.atoms.Atom.{Atom}
use Rattle.grounding_defs.specs.Grounded.{Grounded, IsGrounded}
use Rattle.grounding_defs.proofs.published.Unique.{one_result}
use Rattle.grounding_defs.proofs.Tasks.{call, p, q, with_delete}
use Rattle.grounding_defs.proofs.WithDelete.{delete_result, delete_grounded}

delete_count : (count : Grounded → ℕ) (g : Grounded) → IsGrounded with_delete g → count g ≡ count delete_result
delete_count count g is = ap count (one_result with_delete g delete_result is delete_grounded)

-- facts in another order
first_number : List Atom → ℕ
first_number [] = 0
first_number (a ∷ atoms) = a.predicate

other_order : (task : Task) → IsGrounded with_delete (record { facts = q ∷ p ∷ []; calls = call 0 [] ∷ call 1 [] ∷ []; task = task }) → ⊥
unfolding first_number
other_order task is = let e : 1 ≡ 0 = delete_count (λ g. first_number g.facts) _ is in omega (arith, e)
