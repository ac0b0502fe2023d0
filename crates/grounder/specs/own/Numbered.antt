-- Facts with the actions and the task that were made of them.
use Rattle.std.specs.Prelude.{List}
use Rattle.pd_model.specs.declared.atoms.Atom.{Atom}
use Rattle.grounding_defs.specs.Grounded.{Grounded}
use Rattle.grounder.specs.declared.grounded.Numbered.{Numbered}

-- these facts, with the calls and the task that were made of them
abbrev pub grounded_with : List Atom → Numbered → Grounded
grounded_with facts n = record { facts = facts; calls = n.calls; task = n.task }
