-- What surely holds after an action, of literals on a trail before it.
use Rattle.std.specs.Prelude.{◌≡◌, ℕ, ◌*◌, ◌<◌, true}
use Rattle.gt_core.specs.Literal.{is_in}
use Rattle.gt_core.specs.Task.{Action}
use Rattle.never_defs.specs.After.{holds_surely}
use Rattle.never_check.specs.Trail.{Reached}

-- a literal of the facts surely holds afterwards
abbrev pub IsSure : Reached → Action → ℕ → Type 0
IsSure trail x m = (m < 2 * trail.facts) × (holds_surely (is_in trail.literals) x m ≡ true)
