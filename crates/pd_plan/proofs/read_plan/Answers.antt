use Rattle.pd_plan.proofs.Kept.{are_calls_of, few_of}
use Rattle.pd_plan.proofs.read_plan.Goals as goal

pub returns-clause-are_calls : goal.returns-clause-are_calls
returns-clause-are_calls c = are_calls_of c.args.pddl.now c.deref.result.now c.read_calls.result c.read_calls.ensures

pub returns-clause-few : goal.returns-clause-few
returns-clause-few c = few_of c.args.pddl.now c.args.bytes.now c.deref.result.now c.read_calls.result c.requires (rw c.deref.ensures.value c.in_ok-lists.ensures) c.read_calls.ensures
