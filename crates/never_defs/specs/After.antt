-- What surely holds after an action, and what may come true, where a set of literals holds before it.
use Rattle.std.specs.Prelude.{ℕ, ◌==◌, Bool, not, ◌&&◌, ◌||◌, if◌then◌else◌}
use Rattle.std.specs.List.{list_any, list_all}
use Rattle.gt_core.specs.Literal.{opposite}
use Rattle.gt_core.specs.Task.{Action}
use Rattle.implied_literals.specs.Breaks.{is_add}

-- an effect surely makes a literal true: each literal of its condition is in the set
abbrev pub makes_surely : (ℕ → Bool) → Action → ℕ → Bool
makes_surely set x l = list_any (λ e. (e.literal == l) && list_all set e.condition) x.effects

-- an effect may make a literal true: the set has the opposite of no literal of its condition
abbrev pub makes_perhaps : (ℕ → Bool) → Action → ℕ → Bool
makes_perhaps set x l = list_any (λ e. (e.literal == l) && not (list_any (λ m. set (opposite m)) e.condition)) x.effects

-- a literal surely holds afterwards; an add wins over a delete of the same action
abbrev pub holds_surely : (ℕ → Bool) → Action → ℕ → Bool
holds_surely set x l =
    if is_add l
    then makes_surely set x l || (set l && not (makes_perhaps set x (opposite l)))
    else (set l || makes_surely set x l) && not (makes_perhaps set x (opposite l))

-- a literal may come true: it does not surely hold before, and an effect may make it true, unless that is a delete of a fact
-- that another effect surely adds
abbrev pub comes_perhaps : (ℕ → Bool) → Action → ℕ → Bool
comes_perhaps set x l = not (set l) && (makes_perhaps set x l && (is_add l || not (makes_surely set x (opposite l))))

-- a literal surely becomes false
abbrev pub goes_surely : (ℕ → Bool) → Action → ℕ → Bool
goes_surely set x l = set l && holds_surely set x (opposite l)
