use Rattle.std.proofs.Common.{◌==◌, ◌∙◌, List, ℕ, length, ap}
use Rattle.sat_text.proofs.WordsLaws.{is_left}
use Rattle.sat_text.proofs.words.Words.is_over.Goals as goal

pub returns : goal.returns
returns c = let e = is_left c.self.inside.rest.now c.after_blanks.result.now c.after_blanks.ensures in c.is_empty.ensures ∙ e ∙ ap (λ (words : List (List ℕ)). length words == 0) c.self.view_is
