use Rattle.std.proofs.Common.{◌≡◌, [], drop}
use Rattle.pd_sexp.specs.View.{views}
use Rattle.pd_words.specs.First.{each}
use Rattle.pd_task.specs.Declarations.{and_predicate}
use Rattle.pd_task.proofs.predicates.read_predicates.Given as goal

abbrev pub invariant-loop-item : goal.invariant-loop-item
invariant-loop-item l = each (and_predicate l.types) l.predicates.decls.items (views (drop l.item-index l.items)) ≡ each (and_predicate l.types) [] (views l.items)
