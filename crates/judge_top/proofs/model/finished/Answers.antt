use Rattle.sat_text.specs.Values.{Values, refused_by}
use Rattle.judge_top.proofs.Given.{read_at_end}
use Rattle.judge_top.proofs.model.finished.Goals as goal

pub returns-in-Some : goal.returns-in-Some
returns-in-Some c variables given tape read goes is = read_at_end given tape.given goes is variables (refused_by c.in-Some.refused) (rw c.in-Some.is at (c.finish.ensures.refused variables given.bytes read))

pub returns-in-None : goal.returns-in-None
returns-in-None c variables given tape read goes is = read_at_end given tape.given goes is variables (Values c.finish.new.self.table.truths) (c.finish.ensures.values variables given.bytes read c.in-None.is)
