use Rattle.std.proofs.Common.{◌≡◌, ℕ, [], ◌∷◌, map, refl}
use Rattle.clause_base.specs.Formula.{Cnf}
use Rattle.cdcl_defs.specs.declared.standing.Standing.TheVariants.{Refuted}
use Rattle.clause_base.specs.Choice.{plain_choice}
use Rattle.clause_base.specs.declared.log.Entry.TheVariants.{Learn}
use Rattle.cdcl_defs.specs.State.{State}
use Rattle.cdcl_defs.specs.Run.{start_of, next, rests}
use Rattle.cdcl_defs.specs.Machine.{turns}

vector : Cnf
vector = record { name = 0; variables = 3; clauses = (0 ∷ 2 ∷ []) ∷ (0 ∷ 3 ∷ []) ∷ (1 ∷ 4 ∷ []) ∷ (1 ∷ 5 ∷ []) ∷ [] }

-- the state after so many conflicts
reached : ℕ → State
reached k = turns (next plain_choice) (rests plain_choice) k 12 (start_of vector)

trail_at_none : map (λ a. a.literal) (reached 0).trail ≡ 1 ∷ 2 ∷ []
unfolding vector reached
trail_at_none = refl

trail_at_one : map (λ a. a.literal) (reached 1).trail ≡ 0 ∷ 4 ∷ []
unfolding vector reached
trail_at_one = refl

refuted_at_two : (reached 2).standing ≡ Refuted
unfolding vector reached
refuted_at_two = refl

log_at_two : (reached 2).log ≡ Learn (0 ∷ []) (0 ∷ 1 ∷ []) ∷ Learn [] (4 ∷ 2 ∷ 3 ∷ []) ∷ []
unfolding vector reached
log_at_two = refl
