use Rattle.std.proofs.Common.{◌-◌}
use Rattle.std.specs.Prelude.{vec_capacity}
use Rattle.proof_log.proofs.NumbersLaws.{IsRead}
use Rattle.proof_log.proofs.literals.decode.Given as goal

abbrev pub invariant-loop : goal.invariant-loop
invariant-loop l = IsRead l.bytes l.count l.into.items l.rest l.last (l.count - l.counter) (vec_capacity l.into)
