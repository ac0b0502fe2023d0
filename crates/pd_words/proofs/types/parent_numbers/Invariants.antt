use Rattle.std.proofs.Common.{◌≡◌, ◌∷◌, take, map}
use Rattle.pd_words.specs.Types.{number_in}
use Rattle.pd_words.proofs.types.parent_numbers.Given as goal

abbrev pub invariant-loop-parent : goal.invariant-loop-parent
invariant-loop-parent l = l.numbers.items ≡ 0 ∷ map (number_in l.names) (take l.parent-index l.parents)
