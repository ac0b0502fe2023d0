use Rattle.proof_log.proofs.NumbersLaws.{first_still}
use Rattle.proof_log.proofs.HeldLaws.{both_by}
use Rattle.proof_log.proofs.steps.put_hints.Goals as goal

pub returns-clause-ok : goal.returns-clause-ok
returns-clause-ok c =
    both_by c.put_numbers.result _ c.put_number.new.bytes.items c.args.steps.now.items _ _ c.in_ok-put_number.ensures.ok c.put_numbers.ensures.ok

pub returns-clause-before : goal.returns-clause-before
returns-clause-before c =
    first_still c.args.steps.now.items c.put_number.new.bytes.items c.put_numbers.new.bytes.items c.put_number.ensures.before c.put_numbers.ensures.before
