-- Whether the last of some entries learns the empty clause, as one sees it who meets them one after another.
use Rattle.std.specs.Prelude.{List, [], ◌∷◌, Bool}
use Rattle.clause_base.specs.Derivation.{learns_empty}
use Rattle.clause_base.specs.declared.log.Entry.{Entry}

-- whether the last one does; where there is none, whether the one before them did
abbrev pub ends_by : Bool → List Entry → Bool
ends_by before [] = before
ends_by before (entry ∷ log) = ends_by (learns_empty entry) log
