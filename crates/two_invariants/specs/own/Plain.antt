use Rattle.std.specs.Prelude.{ℕ, ◌==◌, List, Bool, not, ◌&&◌, ◌||◌}
use Rattle.std.specs.List.{list_any}
use Rattle.gt_core.specs.Literal.{opposite}
use Rattle.gt_core.specs.Task.{Effect}
use Rattle.implied_literals.specs.Breaks.{is_add}

-- What effects without condition do, where a set is known.

-- some effect has this literal
abbrev pub adds_plainly : List Effect → ℕ → Bool
adds_plainly effects m = list_any (λ e. e.literal == m) effects

-- an effect has the opposite of a literal
abbrev pub has_opposite : List Effect → ℕ → Bool
has_opposite effects m = list_any (λ e. opposite e.literal == m) effects

-- an add overrules a delete
abbrev pub takes_plainly : (ℕ → Bool) → List Effect → ℕ → Bool
takes_plainly given effects m = list_any (λ e. (opposite e.literal == m) && not (is_add m && given m)) effects

-- such effects break the clause of two literals
abbrev pub breaks_plainly : (ℕ → Bool) → List Effect → ℕ → ℕ → Bool
breaks_plainly set effects l m =
    takes_plainly (adds_plainly effects) effects l
    && not ((set m || adds_plainly effects m) && not (takes_plainly (adds_plainly effects) effects m))
