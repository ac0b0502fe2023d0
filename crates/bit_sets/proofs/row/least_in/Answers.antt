use Rattle.std.proofs.Common.{arith}
use Rattle.bit_sets.proofs.RowLaw.{zero_word, found_first, first_none, found_later}
use Rattle.bit_sets.proofs.row.least_in.Goals as goal

pub returns-then-word-ne0 : goal.returns-then-word-ne0
returns-then-word-ne0 c =
    found_first c.args.words.now c.args.others.now c.args.from c.least_bit.result c.from_bit-word.result c.common.result
    c.least_bit.ensures.small c.common.ensures c.from_bit-word.ensures c.least_bit.ensures.least

pub loop-i-init : goal.loop-i-init
loop-i-init c = first_none c.args.words.now c.args.others.now c.args.from c.from_bit-word.result c.common.result c.common.ensures c.from_bit-word.ensures c.if-word-ne0.false

pub loop-i-preserved : goal.loop-i-preserved
loop-i-preserved c =
    zero_word c.args.words.now c.args.others.now c.args.from c.loop-i.i c.common-word.result
    c.common-word.ensures
    c.if-word-ne0-2.false c.loop-i.invariant

pub returns-then-word-ne0-2 : goal.returns-then-word-ne0-2
returns-then-word-ne0-2 c =
    found_later c.args.words.now c.args.others.now c.args.from c.loop-i.i c.least_bit-then-word-ne0-2.result c.common-word.result
    (omega (arith, c.loop-i.auto.i)) c.least_bit-then-word-ne0-2.ensures.small c.common-word.ensures c.least_bit-then-word-ne0-2.ensures.least c.loop-i.invariant
