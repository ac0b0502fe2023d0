use Rattle.std.specs.Prelude.{vec_capacity}
use Rattle.proof_log.proofs.NumbersLaws.{IsPut}
use Rattle.proof_log.proofs.numbers.put_numbers.Given as goal

abbrev pub invariant-loop-number : goal.invariant-loop-number
invariant-loop-number l = IsPut l.initial.bytes.items l.bytes.items l.last l.number-index l.numbers (vec_capacity l.bytes)
