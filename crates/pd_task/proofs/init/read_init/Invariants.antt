use Rattle.std.proofs.Common.{◌≡◌, [], drop}
use Rattle.pd_sexp.specs.View.{views}
use Rattle.pd_words.specs.First.{each}
use Rattle.pd_task.specs.Declarations.{and_init}
use Rattle.pd_task.specs.own.Scope.{names_with}
use Rattle.pd_task.proofs.init.read_init.Given as goal

abbrev pub invariant-loop-item : goal.invariant-loop-item
invariant-loop-item l =
    each (and_init (names_with l.vocabulary [])) l.atoms.items (views (drop l.item-index l.items)) ≡ each (and_init (names_with l.vocabulary [])) [] (views l.items)
