-- Small plan files, computed from the definitions alone.
use Rattle.std.proofs.Common.{◌≡◌, ℕ, List, [], ◌∷◌, map, Ok, refl}
use Rattle.std.specs.Prelude.{codes}
use Rattle.pd_model.specs.declared.calls.Call.{Call}
use Rattle.pd_plan.specs.PlanFile.{plan_file}
use Rattle.pd_plan.specs.own.Depot.{depot}

abbrev call : ℕ → List ℕ → Call
call schema objects = record { schema = schema; objects = objects }

-- plans, with capitals, a comment, and lists that touch
plans : map (λ text. plan_file depot text) (codes "(HOP d D) ; same object" ∷ codes "; nothing is done" ∷ codes "(flip)(flip)" ∷ [])
    ≡ Ok (call 1 (2 ∷ 2 ∷ []) ∷ []) ∷ Ok [] ∷ Ok (call 2 [] ∷ call 2 [] ∷ []) ∷ []
plans = refl
