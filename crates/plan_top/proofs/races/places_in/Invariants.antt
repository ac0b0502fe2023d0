use Rattle.std.proofs.Common.{◌≡◌}
use Rattle.plan_top.proofs.Turns.{first_turns}
use Rattle.plan_top.proofs.races.places_in.Given as goal

abbrev pub invariant-loop-turn : goal.invariant-loop-turn
invariant-loop-turn l = l.places.items ≡ first_turns l.turns l.count l.turn
