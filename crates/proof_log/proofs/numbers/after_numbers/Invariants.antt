use Rattle.std.proofs.Common.{◌≡◌, ◌-◌}
use Rattle.proof_log.specs.own.Numbers.{after_numbers}
use Rattle.proof_log.proofs.numbers.after_numbers.Given as goal

abbrev pub invariant-loop : goal.invariant-loop
invariant-loop l = after_numbers (l.count - l.counter) l.rest ≡ after_numbers l.count l.bytes
