-- What grows or shrinks by one element after the other.
use Rattle.std.specs.Prelude.{ℕ, ◌≡◌, List, [], ◌∷◌, ◌++◌, Bool, not, ◌&&◌, map, Option, Some, None, if◌then◌else◌}
use Rattle.std.specs.List.{filter}
use Rattle.gt_core.specs.Task.{Effect}
use Rattle.pd_model.specs.State.{is_in}
use Rattle.pd_model.specs.declared.atoms.Atom.{Atom}
use Rattle.pd_model.specs.declared.parts.Parts.{Parts}
use Rattle.grounding_defs.specs.Instance.{Change}
use Rattle.grounding_defs.specs.Simplify.{is_left, effect_of}
use Rattle.grounder.specs.declared.effects.Keyed.{Keyed}

-- a literal, where there is one, comes last
abbrev pub add_literal : Option ℕ → List ℕ → List ℕ
add_literal None literals = literals
add_literal (Some l) literals = literals ++ l ∷ []

-- the effect that is kept so
abbrev pub effect_at : Keyed → Effect
effect_at k = record { condition = k.condition.items; literal = k.literal }

-- the effects that such values stand for
abbrev pub effects_at : List Keyed → List Effect
effects_at keys = map effect_at keys

-- the effect of a change comes last where it is left
abbrev pub add_change : Parts → List Atom → Change → List Effect → List Effect
add_change p facts c effects = if is_left p facts c then effects ++ effect_of facts c ∷ [] else effects

-- the effects of changes that are left, in their order
abbrev pub left_effects : Parts → List Atom → List Change → List Effect
left_effects p facts changes = map (effect_of facts) (filter (is_left p facts) changes)

-- the atoms that fail a test are left
abbrev pub LeavesOut : (Atom → Bool) → List Atom → List Atom → Type 0
LeavesOut test old new = (a : Atom) → is_in a new ≡ (is_in a old && not (test a))

-- the atoms of a state are those that pass a test
abbrev pub HasExactly : (Atom → Bool) → List Atom → Type 0
HasExactly test s = (a : Atom) → is_in a s ≡ test a
