use Rattle.std.proofs.Common.{◌≡◌, ◌∙◌, ℕ, List, length, take, sym, ap}
use Rattle.sat_text.proofs.Fronts.{next_word, no_word}
use Rattle.sat_text.proofs.words.Words.next.Goals as goal

pub returns-then-count-eq0-clause-none : goal.returns-then-count-eq0-clause-none
returns-then-count-eq0-clause-none c =
    let text = c.after_blanks-text.result.now in
    let none = ap (λ (w : List ℕ). length w) (sym c.word_length-count.ensures.front) ∙ ap (λ (k : ℕ). length (take k text)) c.if-count-eq0.true in
    sym c.self.view_is ∙ no_word c.self.inside.rest.now text c.after_blanks-text.ensures none

pub returns-clause-some : goal.returns-clause-some
returns-clause-some c =
    let text = c.after_blanks-text.result.now in
    let some : length c.split_at.result.0.now ≡ 0 → ⊥ = λ e. c.if-count-eq0.false (sym c.split_at.ensures.front_len ∙ e) in
    sym c.self.view_is
    ∙ next_word c.self.inside.rest.now text c.after_blanks-text.ensures c.split_at.result.0.now c.split_at.result.1.now (c.split_at.ensures.front ∙ c.word_length-count.ensures.front) (c.split_at.ensures.back ∙ c.word_length-count.ensures.rest) some
