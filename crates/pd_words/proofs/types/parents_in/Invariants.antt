use Rattle.std.proofs.Common.{◌≡◌, take}
use Rattle.pd_model.specs.Types.{parents_of}
use Rattle.pd_words.proofs.types.parents_in.Given as goal

abbrev pub invariant-loop-decl : goal.invariant-loop-decl
invariant-loop-decl l = l.parents.items ≡ parents_of (take l.decl-index l.decls)
