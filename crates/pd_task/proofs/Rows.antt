-- Small domains and problems, computed from the definitions alone. The same rows are a test of the reader.
use Rattle.std.proofs.Common.{ℕ, List, Option, Some, None}
use Rattle.std.specs.Prelude.{Result}
use Rattle.pd_sexp.specs.Tree.{Tree}
use Rattle.pd_sexp.specs.Progress.{gap, before, run, tree_after}
use Rattle.pd_model.specs.declared.parts.Parts.{Parts}
use Rattle.pd_task.specs.declared.error.PddlError.{PddlError}
use Rattle.pd_task.specs.Reading.{reading}

-- the tree that the bytes of a text are; none where they are no file
abbrev tree_of : List ℕ → Option Tree
tree_of text = tree_after (run (gap before) 0 text)

-- what two texts say
abbrev said : List ℕ → List ℕ → Option (Result Parts PddlError)
said domain problem = elim (tree_of domain) [
  | None ↦ None
  | Some d ↦ elim (tree_of problem) [
    | None ↦ None
    | Some p ↦ Some (reading d p)
  ]
]

-- ---- one row for each cause, and for what is asked first

-- ---- one task: the variable of the `forall` has the number after the parameter's, and hides it
