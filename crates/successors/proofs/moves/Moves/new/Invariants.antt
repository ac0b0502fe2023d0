use Rattle.successors.specs.Moves.{AreMoves}
use Rattle.successors.proofs.moves.Moves.new.Given as goal

-- the actions so far were copied
abbrev pub invariant-loop-act : goal.invariant-loop-act
invariant-loop-act l = AreMoves l.task l.moves l.act-index
