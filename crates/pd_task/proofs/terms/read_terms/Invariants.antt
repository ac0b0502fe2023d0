use Rattle.std.proofs.Common.{◌≡◌, drop}
use Rattle.pd_sexp.specs.View.{views}
use Rattle.pd_words.specs.First.{every, after}
use Rattle.pd_task.specs.Atoms.{term}
use Rattle.pd_task.specs.own.Scope.{names_with}
use Rattle.pd_task.proofs.terms.read_terms.Given as goal

abbrev pub invariant-loop-tree : goal.invariant-loop-tree
invariant-loop-tree l =
    after l.terms.items (every (term (names_with l.vocabulary l.scope.levels)) (views (drop l.tree-index l.trees)))
    ≡ every (term (names_with l.vocabulary l.scope.levels)) (views l.trees)
