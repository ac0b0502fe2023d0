-- What effects stand under, and what is kept of whether one stands under the same as the one before it.
use Rattle.std.specs.Prelude.{◌≡◌, true, ℕ, List, [], ◌∷◌}
use Rattle.pd_model.specs.declared.conds.Cond.{Cond}
use Rattle.pd_model.specs.declared.effects.Effect.{Effect}
use Rattle.pd_model.specs.declared.sameness.Sameness.{Sameness}

-- the types of the variables of each `forall` round an effect, and the condition of the `when`
pub record Under : Type 0 where
  pub over : List ℕ
  pub cond : List Cond

-- what an effect stands under
abbrev pub under_of : Effect → Under
under_of e = record { over = e.over; cond = e.cond }

-- no variables and no condition
abbrev pub no_under : Under
no_under = record { over = []; cond = [] }

-- what the last of these effects stands under; this, where there is none
abbrev pub last_under : Under → List Effect → Under
last_under u [] = u
last_under u (e ∷ es) = last_under (under_of e) es

-- what is the same by the marks is the same
pub record IsSame (before after : Under) (same : Sameness) : Type 0 where
  pub over : same.over ≡ true → after.over ≡ before.over
  pub cond : same.cond ≡ true → after.cond ≡ before.cond

-- each effect has its marks, which are of it and of the one before it
abbrev pub AreSame : Under → List Effect → List Sameness → Type 0
AreSame u [] marks = Unit {0}
AreSame u (e ∷ es) [] = ⊥
AreSame u (e ∷ es) (m ∷ ms) = IsSame u (under_of e) m × AreSame (under_of e) es ms
