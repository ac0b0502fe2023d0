use Rattle.std.proofs.Common.{◌≡◌, drop}
use Rattle.pd_task.specs.Declarations.{give_objects}
use Rattle.pd_task.proofs.objects.ObjectTableTypedList.give.Given as goal

abbrev pub invariant-loop-word : goal.invariant-loop-word
invariant-loop-word l =
    give_objects l.self.decls.items l.kind (drop l.word-index l.waiting) ≡ give_objects l.fn.self.decls.items l.kind l.waiting
