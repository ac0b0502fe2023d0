use Rattle.std.proofs.Common.{◌∙◌, ◌<◌, ℕ, List, false, drop, length, sym, ap, subst}
use Rattle.sat_text.specs.Words.{first_number}
use Rattle.sat_text.proofs.FewDigits.{short_first, short_passed}
use Rattle.sat_text.proofs.WordsLaws.{fewer_words}
use Rattle.sat_text.proofs.words.Words.number.Goals as goal

pub returns-in-Some-clause-number : goal.returns-in-Some-clause-number
returns-in-Some-clause-number c =
    sym (ap first_number (sym c.self.view_is) ∙ short_first c.self.inside.rest.now c.in-Some.rest.now c.in-Some.number c.in-Some.ensures.number c.in-Some.ensures.rest)

pub returns-in-Some-clause-passed : goal.returns-in-Some-clause-passed
returns-in-Some-clause-passed c =
    short_passed c.self.inside.rest.now c.in-Some.rest.now c.in-Some.number c.in-Some.ensures.number c.in-Some.ensures.rest ∙ ap (drop 1) c.self.view_is

pub returns-in-Some-clause-fewer : goal.returns-in-Some-clause-fewer
returns-in-Some-clause-fewer c =
    let passed = returns-in-Some-clause-passed c in
    let number = returns-in-Some-clause-number c in
    subst (λ (words : List (List ℕ)). length words < length c.args.self.now) (sym passed) (fewer_words c.args.self.now (record { minus = false; number = c.in-Some.number }) number)
