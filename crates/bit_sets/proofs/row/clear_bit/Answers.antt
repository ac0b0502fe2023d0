use Rattle.std.proofs.Common.{arith, ◌*◌, ◌/◌, ◌<◌, ℕ, length, ap, ◌∙◌}
use Rattle.std.proofs.lemmas.List.{get_or_read}
use Rattle.bit_sets.specs.Rows.{word_has}
use Rattle.bit_sets.proofs.RowLaw.{clear_one}
use Rattle.bit_sets.proofs.row.clear_bit.Goals as goal

pub returns-then-place-len-clause-has : goal.returns-then-place-len-clause-has
returns-then-place-len-clause-has c =
    let words = c.args.words.now.items in
    let inside : c.args.number / 64 < length words = omega (arith, c.if-place-len.true) in
    let read = get_or_read words (c.args.number / 64) c.index-word.result.now inside c.index-word.ensures 0 in
    let all : c.args.number < 64 * length words = omega (arith, inside) in
    clear_one words c.args.number c.without_bit.result all c.without_bit.ensures.same (λ k d. c.without_bit.ensures.others k d ∙ ap (λ (w : ℕ). word_has w k) read)
