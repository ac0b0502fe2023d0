use Rattle.sat_text.proofs.Eight.{number_told}
use Rattle.sat_text.proofs.short.number_of_eight.Goals as goal

pub returns-clause-value : goal.returns-clause-value
returns-clause-value c digits long each is = number_told c.args.eight digits long each is
