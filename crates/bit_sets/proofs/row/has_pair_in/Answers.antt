use Rattle.std.proofs.Common.{refl}
use Rattle.bit_sets.proofs.PairLaw.{pair_in_rows, no_pair_more}
use Rattle.bit_sets.proofs.row.has_pair_in.Goals as goal

pub loop-i-preserved : goal.loop-i-preserved
loop-i-preserved c = no_pair_more c.args.words.now c.args.others.now c.loop-i.i _ _ refl refl c.if-has_pair_across.ensures c.loop-i.invariant

pub returns-then-has_pair_across : goal.returns-then-has_pair_across
returns-then-has_pair_across c = pair_in_rows c.args.words.now c.args.others.now c.loop-i.i _ _ refl refl (c.type_inv.others c.loop-i.i).fits c.if-has_pair_across.ensures
