use Rattle.commands.proofs.generated.answer_gen.Goals as goal

pub returns-in-None : goal.returns-in-None
returns-in-None g c = rw c.in-None.is (rw (c.in_ok-made.ensures.domain, c.in_ok-made.ensures.problem) at c.race_made.ensures)
