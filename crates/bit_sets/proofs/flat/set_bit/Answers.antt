use Rattle.std.proofs.Common.{arith, ◌==◌, ◌/◌, ℕ, true, ap, ◌∙◌, get_or-set_other}
use Rattle.std.proofs.lemmas.List.{get_or_read}
use Rattle.bit_sets.specs.Layered.{word_has, words_have}
use Rattle.bit_sets.proofs.Firsts.{changed, has_or}
use Rattle.bit_sets.proofs.flat.set_bit.Goals as goal

pub returns-clause-has : goal.returns-clause-has
returns-clause-has c k =
    let words = c.args.words.now.items in
    let read = get_or_read words (c.args.number / 64) c.index-word.result.now (omega (arith, c.requires)) c.index-word.ensures 0 in
    changed words c.args.number c.with_bit.result true c.requires c.with_bit.ensures.same (λ k d. c.with_bit.ensures.others k d ∙ ap (λ (w : ℕ). word_has w k) read) k
    ∙ has_or (k == c.args.number) (words_have words k)

pub returns-clause-others : goal.returns-clause-others
returns-clause-others c j d = get_or-set_other c.args.words.now.items (c.args.number / 64) j c.with_bit.result 0 d
