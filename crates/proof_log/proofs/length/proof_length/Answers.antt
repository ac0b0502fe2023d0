use Rattle.std.proofs.Common.{◌≡◌, [], arith, rules}
use Rattle.proof_log.specs.Step.{told}
use Rattle.proof_log.proofs.Lengths.{all_counted, entry_counted, first_counted}
use Rattle.proof_log.proofs.length.proof_length.Goals as goal

pub overflow_add-sum : goal.overflow_add-sum
overflow_add-sum c = record { fits = omega (arith, c.digits-sum.ensures.few) }

pub loop-step-init : goal.loop-step-init
loop-step-init c = record {
  total = first_counted c.args.horizon c.digits-sum.result c.args.log.now c.entries-reader.result c.digits-sum.ensures.few c.digits-sum.ensures.value c.entries-reader.ensures;
  small = omega (arith, c.digits-sum.ensures.few);
}

pub loop-step-preserved : goal.loop-step-preserved
loop-step-preserved c = record {
  total = entry_counted c.loop-step.reader c.next.new.self (told c.in-Some.step) c.loop-step.sum c.entry_length.result c.saturating_add-sum.result _ c.in-Some.ensures.some c.loop-step.invariant.total c.entry_length.ensures c.saturating_add-sum.ensures;
  small = omega (arith, c.saturating_add-sum.ensures);
}

pub returns : goal.returns
returns c =
    let none : c.loop-step.reader ≡ [] = search rules in
    all_counted c.args.horizon c.loop-step.reader c.args.log.now c.loop-step.sum none c.loop-step.invariant.total c.loop-step.invariant.small
