-- Which variables an effect names, each by its place.
use Rattle.std.specs.Prelude.{◌≡◌, ℕ, ◌==◌, ◌||◌, Bool, true, false, List, length, take}
use Rattle.std.specs.List.{list_any}
use Rattle.pd_model.specs.declared.atoms.Term.{Term}
use Rattle.pd_model.specs.declared.atoms.Term.TheVariants.{Object, Variable}
use Rattle.pd_model.specs.declared.atoms.Pattern.{Pattern}
use Rattle.pd_model.specs.declared.conds.Cond.{Cond}
use Rattle.pd_model.specs.declared.conds.Cond.TheVariants.{Has, Same}
use Rattle.pd_model.specs.declared.effects.Effect.{Effect}

-- whether a term is the variable at a place
abbrev pub is_variable : ℕ → Term → Bool
is_variable place (Object o) = false
is_variable place (Variable v) = v == place

-- whether an atom names it
abbrev pub atom_names : ℕ → Pattern → Bool
atom_names place atom = list_any (is_variable place) atom.terms

-- whether a literal of a condition names it
abbrev pub cond_names : ℕ → Cond → Bool
cond_names place (Has atom want) = atom_names place atom
cond_names place (Same left right want) = is_variable place left || is_variable place right

-- whether an effect names it, in its atom or its condition
abbrev pub effect_names : ℕ → Effect → Bool
effect_names place e = atom_names place e.atom || list_any (cond_names place) e.cond

-- objects stand for all of a list: they are all of it where the variable is named, and else one where there is one
abbrev pub StandForAll : Bool → List ℕ → List ℕ → Type 0
StandForAll true all some = some ≡ all
StandForAll false all some = length some ≡ length (take 1 all)
