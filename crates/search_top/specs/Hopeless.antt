-- The first condition of a goal that no state has which calls lead to, by grounding alone, as text.
use Rattle.std.specs.Prelude.{ℕ, Bool, true, false, List, [], ◌∷◌, ◌++◌, codes, if◌then◌else◌}
use Rattle.pd_model.specs.Instance.{value, instance}
use Rattle.pd_model.specs.Text.{atom_text, object_name}
use Rattle.pd_model.specs.declared.conds.Cond.{Cond}
use Rattle.pd_model.specs.declared.conds.Cond.TheVariants.{Has, Same}
use Rattle.pd_model.specs.declared.parts.Parts.{Parts}
use Rattle.grounding_defs.specs.Grounded.{Grounded}
use Rattle.grounding_defs.specs.Instance.{literal_of}
use Rattle.grounding_defs.specs.Simplify.{is_never}

-- what stands before the atom of a literal that is wanted, or is not
abbrev pub wanted_front : Bool → List ℕ
wanted_front true = []
wanted_front false = codes "(not "

-- what stands after it
abbrev pub wanted_back : Bool → List ℕ
wanted_back true = []
wanted_back false = codes ")"

-- an equation of objects
abbrev pub equation_text : Parts → ℕ → ℕ → List ℕ
equation_text p left right = codes "(= " ++ (object_name p left ++ (codes " " ++ (object_name p right ++ codes ")")))

-- the text of a condition without variables, as PDDL
abbrev pub condition_text : Parts → Cond → List ℕ
condition_text p (Has atom want) = wanted_front want ++ (atom_text p (instance [] atom) ++ wanted_back want)
condition_text p (Same left right want) = wanted_front want ++ (equation_text p (value [] left) (value [] right) ++ wanted_back want)

-- that of the first of some conditions that is never true
abbrev pub hopeless_text : Parts → Grounded → List Cond → List ℕ
hopeless_text p g [] = []
hopeless_text p g (c ∷ cs) = if is_never p g.facts (literal_of [] c) then condition_text p c else hopeless_text p g cs
