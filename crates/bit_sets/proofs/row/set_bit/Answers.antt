use Rattle.std.proofs.Common.{arith, ◌/◌, ◌<◌, ℕ, length, ap, ◌∙◌}
use Rattle.std.proofs.lemmas.List.{get_or_read}
use Rattle.bit_sets.specs.Rows.{word_has}
use Rattle.bit_sets.proofs.RowLaw.{set_one}
use Rattle.bit_sets.proofs.row.set_bit.Goals as goal

pub returns-clause-has : goal.returns-clause-has
returns-clause-has c =
    let words = c.args.words.now.items in
    let place = c.args.number / 64 in
    let inside : place < length words = omega (arith, c.requires) in
    let read = get_or_read words place c.index-word.result.now inside c.index-word.ensures 0 in
    set_one words c.args.number c.with_bit.result c.requires c.with_bit.ensures.same (λ k d. c.with_bit.ensures.others k d ∙ ap (λ (w : ℕ). word_has w k) read)
