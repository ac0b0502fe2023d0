-- Instances, made by substitution: objects for variables, by place.
use Rattle.std.specs.Prelude.{ℕ, ◌==◌, Bool, true, false, List, map, not, slice_index}
use Rattle.std.specs.List.{list_all}
use Rattle.pd_model.specs.State.{is_in}
use Rattle.pd_model.specs.declared.atoms.Term.{Term}
use Rattle.pd_model.specs.declared.atoms.Term.TheVariants.{Object, Variable}
use Rattle.pd_model.specs.declared.atoms.Pattern.{Pattern}
use Rattle.pd_model.specs.declared.atoms.Atom.{Atom}
use Rattle.pd_model.specs.declared.conds.Cond.{Cond}
use Rattle.pd_model.specs.declared.conds.Cond.TheVariants.{Has, Same}

-- the object that a term stands for
abbrev pub value : List ℕ → Term → ℕ
value objects (Object o) = o
value objects (Variable v) = slice_index objects v

-- the ground atom that an atom with variables stands for
abbrev pub instance : List ℕ → Pattern → Atom
instance objects a = record { predicate = a.predicate; objects = map (value objects) a.terms }

-- the fact itself where it is wanted, else its opposite
abbrev pub agrees : Bool → Bool → Bool
agrees true fact = fact
agrees false fact = not fact

-- whether a literal's instance holds in a state: a positive one where its atom is in the state, a negated
-- one where it is not
abbrev pub holds : List Atom → List ℕ → Cond → Bool
holds s objects (Has atom want) = agrees want (is_in (instance objects atom) s)
holds s objects (Same left right want) = agrees want (value objects left == value objects right)

-- whether each literal's instance holds
abbrev pub all_hold : List Atom → List ℕ → List Cond → Bool
all_hold s objects conds = list_all (holds s objects) conds
