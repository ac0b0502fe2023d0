use Rattle.std.proofs.Common.{arith, ◌<◌, ℕ, Bool, length, get_or, length-set, not, ◌&&◌, ◌||◌, ap, ◌∙◌}
use Rattle.bit_sets.specs.Rows.{word_has}
use Rattle.bit_sets.proofs.RowLaw.{changed_more, left_more, put_before}
use Rattle.bit_sets.proofs.row.unite_words_less.Goals as goal

pub loop-i-preserved : goal.loop-i-preserved
loop-i-preserved c =
    let words = c.loop-i.words in
    let before = c.args.words.now in
    let others = c.args.others.now in
    let thirds = c.args.thirds.now in
    let i = c.loop-i.i in
    let inv = c.loop-i.invariant in
    let inside : i < length words = omega (arith, c.loop-i-test.true, c.requires.words, inv.long) in
    record {
      long = length-set words i c.united.result ∙ inv.long;
      done = changed_more words i c.united.result (λ j k. word_has (get_or before j 0) k || (word_has (get_or others j 0) k && not (word_has (get_or thirds j 0) k))) inside (λ k. c.united.ensures k ∙ ap (λ (w : ℕ). word_has w k || word_has c.without.result k) (inv.left i (omega arith)) ∙ ap (λ (b : Bool). word_has (get_or before i 0) k || b) (c.without.ensures k)) inv.done;
      left = left_more words before i c.united.result inv.left;
    }

pub returns-clause-has : goal.returns-clause-has
returns-clause-has c =
    let others = c.args.others.now in
    let thirds = c.args.thirds.now in
    let inv = c.loop-i.invariant in
    put_before c.loop-i.words c.args.words.now (λ j k. word_has (get_or others j 0) k && not (word_has (get_or thirds j 0) k)) c.args.end c.loop-i.i c.loop-i-test.false c.loop-i.auto.i-end inv.done inv.left
