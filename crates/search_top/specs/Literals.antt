-- The text of fact literals.
use Rattle.std.specs.Prelude.{ℕ, ◌/◌, ◌%◌, ◌==◌, List, [], ◌++◌, codes, slice_index_or, if◌then◌else◌}
use Rattle.pd_model.specs.Text.{atom_text}
use Rattle.pd_model.specs.declared.atoms.Atom.{Atom}
use Rattle.pd_model.specs.declared.parts.Parts.{Parts}
use Rattle.grounding_defs.specs.Grounded.{Grounded}

-- the atom of a fact, by its number
abbrev pub atom_at : Grounded → ℕ → Atom
atom_at g f = slice_index_or g.facts f (record { predicate = 0; objects = [] })

-- the text of a fact literal, as PDDL: 2f says that fact f is true, 2f + 1 that it is false
abbrev pub literal_text : Parts → Grounded → ℕ → List ℕ
literal_text p g l = if l % 2 == 0 then atom_text p (atom_at g (l / 2)) else codes "(not " ++ (atom_text p (atom_at g (l / 2)) ++ codes ")")
