-- What is left of a clause whose literals are false but for some.
use Rattle.std.specs.Prelude.{◌≡◌, ℕ, ◌==◌, List, [], ◌∷◌, Bool, true, false, Option, Some, None, if◌then◌else◌}
use Rattle.gt_core.specs.Literal.{opposite, is_in}
use Rattle.never_defs.specs.Propagation.{IsLeft}
use Rattle.never_check.specs.declared.left.Left.{Left}
use Rattle.never_check.specs.declared.left.Left.TheVariants as left

-- the literals of a clause that are not false: none, one, or more, after what was seen before
abbrev pub left_at_end : Option ℕ → Left
left_at_end None = left.Nothing
left_at_end (Some u) = left.One u

-- what a clause tells as it is looked through
abbrev pub left_from : (ℕ → Bool) → Option ℕ → List ℕ → Left
left_from set one [] = left_at_end one
left_from set None (l ∷ c) = if set (opposite l) then left_from set None c else left_from set (Some l) c
left_from set (Some u) (l ∷ c) = if set (opposite l) then left_from set (Some u) c else (if u == l then left_from set (Some u) c else left.More)

-- what is said of a clause
abbrev pub TellsLeft : (ℕ → Bool) → List ℕ → Left → Type 0
TellsLeft set c left.Nothing = (l : ℕ) → IsLeft set c l
TellsLeft set c (left.One u) = (is_in c u ≡ true) × (set (opposite u) ≡ false) × IsLeft set c u × ((l : ℕ) → IsLeft set c l → u ≡ l)
TellsLeft set c left.More = (l : ℕ) → IsLeft set c l → ⊥
