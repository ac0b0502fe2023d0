-- Runs before their first conflict, of the horizons of a form.
use Rattle.std.specs.Prelude.{◌≡◌, ℕ, ◌≤◌}
use Rattle.step_encoding.specs.declared.form.StepForm.{Ghosts}
use Rattle.step_encoding.specs.Limits.{planner_literals}
use Rattle.step_encoding.specs.Numbers.{literals_of}
use Rattle.horizon_run.specs.Run.{RunView, choice_in, choice_of, IsNew}
use Rattle.horizon_rates.specs.Limits.{last_horizon}

module _ {F : Type 0} (g : Ghosts F) (form : F) where
  -- a horizon whose formula is not too large
  abbrev pub IsSmall : ℕ → Type 0
  IsSmall h = (h ≤ last_horizon) × (literals_of (g.formula_of form h) ≤ planner_literals)

  -- the run of a horizon before its first conflict
  pub record IsFreshOf (h : ℕ) (run : RunView) : Type 0 where
    pub new : IsNew run
    pub formula : run.formula ≡ g.formula_of form h
    pub choice : choice_in run ≡ choice_of (g.task form) (g.layout_of form h)
