use Rattle.std.proofs.Common.{arith, ◌-◌, refl, w64}
use Rattle.std.specs.Int.{leading_zeros}
use Rattle.std.proofs.lemmas.Nat.{leading_top}
use Rattle.conflict_analysis.proofs.Sought.{top_bit}
use Rattle.conflict_analysis.proofs.latest.greatest_bit.Goals as goal

pub overflow_sub-result : goal.overflow_sub-result
overflow_sub-result c = omega (arith, (leading_top 64 c.args.word c.requires c.ranges.word.fits).1)

pub returns-clause-small : goal.returns-clause-small
returns-clause-small c = (top_bit c.args.word (63 - leading_zeros w64 c.args.word) c.requires c.ranges.word.fits refl).0

pub returns-clause-has : goal.returns-clause-has
returns-clause-has c = (top_bit c.args.word (63 - leading_zeros w64 c.args.word) c.requires c.ranges.word.fits refl).1

pub returns-clause-rest : goal.returns-clause-rest
returns-clause-rest c = (top_bit c.args.word (63 - leading_zeros w64 c.args.word) c.requires c.ranges.word.fits refl).2
