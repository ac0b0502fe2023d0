-- To where a trail is taken back.
use Rattle.std.specs.Prelude.{List, take}
use Rattle.cdcl_defs.specs.Learn.{backtracked}
use Rattle.cdcl_defs.specs.declared.trail.Assigned.{Assigned}
use Rattle.propagation.specs.declared.undo.Back.{Back}
use Rattle.propagation.specs.declared.undo.Back.TheVariants.{Length, Level}

-- what is left of a trail that is taken back to a length or to a level
abbrev pub taken_back : Back → List Assigned → List Assigned
taken_back (Length length) entries = take length entries
taken_back (Level level) entries = backtracked level entries
