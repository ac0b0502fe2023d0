use Rattle.std.proofs.Common.{◌≡◌, [], drop}
use Rattle.pd_sexp.specs.View.{views}
use Rattle.pd_words.specs.First.{every, after}
use Rattle.pd_task.specs.Declarations.{object_at}
use Rattle.pd_task.specs.own.Scope.{names_with}
use Rattle.pd_task.proofs.init.read_ground_objects.Given as goal

abbrev pub invariant-loop-tree : goal.invariant-loop-tree
invariant-loop-tree l =
    after l.objects.items (every (object_at (names_with l.vocabulary [])) (views (drop l.tree-index l.trees)))
    ≡ every (object_at (names_with l.vocabulary [])) (views l.trees)
