use Rattle.std.proofs.Common.{◌≡◌, [], ap, arith, length, rules}
use Rattle.proof_log.specs.own.Reading.{numbered}
use Rattle.proof_log.proofs.Lengths.{row_counted, row_all_counted}
use Rattle.proof_log.proofs.length.row_length.Goals as goal

pub overflow_add-digits : goal.overflow_add-digits
overflow_add-digits c = record { fits = omega (arith, c.digits.ensures.few) }

pub loop-number-init : goal.loop-number-init
loop-number-init c =
    let long = ap (λ ns. length (numbered ns [])) c.copy-rest.ensures in
    record { total = omega (arith, long); small = omega arith }

pub loop-number-preserved : goal.loop-number-preserved
loop-number-preserved c = record {
  total = row_counted c.loop-number.rest c.next.new.self c.in-Some.number c.loop-number.sum c.digits.result c.saturating_add-sum.result _ c.in-Some.ensures.some c.loop-number.invariant.total c.digits.ensures.value c.saturating_add-sum.ensures;
  small = omega (arith, c.saturating_add-sum.ensures);
}

pub returns : goal.returns
returns c =
    let none : c.loop-number.rest ≡ [] = search rules in
    row_all_counted c.loop-number.rest c.loop-number.sum _ none c.loop-number.invariant.total c.loop-number.invariant.small
