use Rattle.std.proofs.Common.{◌∙◌, drop, codes, sym, ap}
use Rattle.sat_text.specs.Words.{begins_with}
use Rattle.sat_text.proofs.WordsLaws.{letter, no_letter, longer_word}
use Rattle.sat_text.proofs.words.Words.is_deletion.Goals as goal

pub returns-then-ends_word-clause-is : goal.returns-then-ends_word-clause-is
returns-then-ends_word-clause-is c =
    let e = letter c.self.inside.rest.now c.in-Some.more.now 100 (sym c.after_blanks.ensures ∙ c.in-Some.ensures.some) (sym c.ends_word.ensures ∙ c.if-ends_word.true) in
    sym (ap (begins_with (codes "d")) (sym c.self.view_is ∙ e))

pub returns-then-ends_word-clause-passed : goal.returns-then-ends_word-clause-passed
returns-then-ends_word-clause-passed c =
    let e = letter c.self.inside.rest.now c.in-Some.more.now 100 (sym c.after_blanks.ensures ∙ c.in-Some.ensures.some) (sym c.ends_word.ensures ∙ c.if-ends_word.true) in
    sym (ap (drop 1) (sym c.self.view_is ∙ e))

pub returns-else-ends_word-clause-is : goal.returns-else-ends_word-clause-is
returns-else-ends_word-clause-is c =
    let e = longer_word c.self.inside.rest.now c.in-Some.more.now (sym c.after_blanks.ensures ∙ c.in-Some.ensures.some) (sym c.ends_word.ensures ∙ c.if-ends_word.false) in
    sym (ap (begins_with (codes "d")) (sym c.self.view_is) ∙ e)

pub returns-in_default-clause-is : goal.returns-in_default-clause-is
returns-in_default-clause-is c =
    let e = no_letter c.self.inside.rest.now (λ more at. c.in_default.ensures.none more (c.after_blanks.ensures ∙ at)) in
    sym (ap (begins_with (codes "d")) (sym c.self.view_is) ∙ e)
