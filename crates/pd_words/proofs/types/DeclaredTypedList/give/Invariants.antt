use Rattle.std.proofs.Common.{◌≡◌, drop}
use Rattle.pd_words.specs.Types.{give_parent}
use Rattle.pd_words.specs.own.TypeList.{declared}
use Rattle.pd_words.proofs.types.DeclaredTypedList.give.Given as goal

abbrev pub invariant-loop-word : goal.invariant-loop-word
invariant-loop-word l = give_parent (declared l.self) l.parent (drop l.word-index l.waiting) ≡ give_parent (declared l.fn.self) l.parent l.waiting
