use Rattle.std.proofs.Common.{arith, List, ℕ, length, ap}
use Rattle.std.proofs.lemmas.List.{length-append}
use Rattle.proof_log.specs.own.Number.{bytes_of}
use Rattle.proof_log.proofs.NumberLaws.{five_bytes}
use Rattle.proof_log.proofs.NumbersLaws.{step_small}
use Rattle.proof_log.proofs.numbers.put_step_within.Goals as goal

pub put_within-requires : goal.put_within-requires
put_within-requires c =
    let few = five_bytes c.step_to.result (omega (arith, step_small c.args.last c.args.number (omega arith) (omega arith), c.step_to.ensures)) in
    omega (arith, few, c.requires)

pub returns-clause-few : goal.returns-clause-few
returns-clause-few c =
    let few = five_bytes c.step_to.result (omega (arith, step_small c.args.last c.args.number (omega arith) (omega arith), c.step_to.ensures)) in
    omega (arith, few, ap (λ (xs : List ℕ). length xs) c.put_within.ensures.put, length-append c.args.bytes.now.items (bytes_of c.step_to.result))
