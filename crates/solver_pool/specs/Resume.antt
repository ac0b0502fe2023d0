-- Runs that are advanced in parts.
use Rattle.std.specs.Prelude.{◌≡◌, ℕ, false, ◌+◌}
use Rattle.solver_pool.specs.declared.resume.Resume.{Ghosts}

module _ {R : Type 0} (g : Ghosts R) where
  -- the run is where so many units from the origin have it, apart from how many it was granted
  abbrev pub IsMoved : R → ℕ → R → Type 0
  IsMoved origin k run = g.state_of run ≡ g.state_of (g.moved origin k)

  -- once so many units settle a run, more leave it as it is
  abbrev pub SettledStays : R → Type 0
  SettledStays run =
      (k n : ℕ) → g.unsettled_at (g.moved (g.origin_of run) k) ≡ false
      → g.state_of (g.moved (g.origin_of run) (k + n)) ≡ g.state_of (g.moved (g.origin_of run) k)
