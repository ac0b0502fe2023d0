use Rattle.state_search.proofs.LeastLaw.{entered_all}
use Rattle.state_search.proofs.answer.answer_of.Goals as goal

pub returns-clause-answer : goal.returns-clause-answer
returns-clause-answer c = record {
  entered = entered_all c.args.task.now c.args.store.now c.len.result c.facts-facts.ensures.lawful c.laws.ensures.tree c.requires.walk c.len.ensures.distinct c.len.ensures.len;
  ends = rw c.len.ensures.len c.requires.ends;
}
