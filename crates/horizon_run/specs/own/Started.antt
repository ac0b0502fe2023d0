-- A run that was started, as one that workers advance.
use Rattle.std.specs.Prelude.{◌≡◌, ℕ, zero, suc, Bool, true, false, ◌||◌, refl}
use Rattle.horizon_run.specs.Run.{RunView}
use Rattle.horizon_run.specs.own.Resume.{goes}

-- the number is 0
abbrev pub is_none : ℕ → Bool
is_none zero = true
is_none (suc n) = false

-- one where something was granted, else zero
abbrev pub one_if : ℕ → ℕ
one_if zero = 0
one_if (suc n) = 1

-- the run apart from how much it was granted, where that was something
abbrev pub still_begun : RunView → RunView
still_begun r = record r { granted = one_if r.granted }

-- whether a run was granted nothing yet, or is neither found nor refuted
abbrev pub may_go : RunView → Bool
may_go r = is_none r.granted || goes r

-- the law that a number is 0 exactly where `one_if` of it is
pub none-of : (n : ℕ) → is_none (one_if n) ≡ is_none n
none-of zero = refl
none-of (suc n) = refl

-- the state of a run tells whether it may go on
pub may_go-still : (r : RunView) → may_go (still_begun r) ≡ may_go r
may_go-still r i = none-of r.granted i || goes r
