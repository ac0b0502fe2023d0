use Rattle.std.proofs.Common.{◌*◌}
use Rattle.two_invariants.specs.own.Losses.{AreLosses}
use Rattle.two_invariants.proofs.round.piece_losses.Given as goal

abbrev pub invariant-loop-i : goal.invariant-loop-i
invariant-loop-i l = AreLosses l.round.facts l.round.known.now l.round.clauses.now l.round.acts.now l.round.todo.now (2048 * l.piece) l.i l.lost.items
