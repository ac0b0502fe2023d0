use Rattle.std.proofs.Common.{arith, ap, sym, subst, ◌≡◌, ◌∙◌, ◌==◌, ◌||◌, length, List, ℕ, Some}
use Rattle.bit_sets.specs.Layered.{words_have, words_with, IsPast, IsInside}
use Rattle.bit_sets.proofs.Firsts.{first_new, first_more}
use Rattle.bit_sets.proofs.first.FirstNumberSet.insert.Goals as goal

pub returns-in-None-clause-has : goal.returns-in-None-clause-has
returns-in-None-clause-has g c k =
    let words = c.self.inside.others.words in
    let empty : words_with words c.self.inside.least ≡ words = ap (words_with words) c.in-None.is in
    let view : words ≡ c.args.self.now = sym empty ∙ c.self.view_is in
    first_new words c.args.number (omega (arith, c.requires, ap (λ (ws : List ℕ). length ws) view)) (subst (IsPast (words_have words)) c.in-None.is c.self.invariant.past) k
    ∙ ap (λ (ws : List ℕ). k == c.args.number || words_have ws k) view

pub returns-in-Some-clause-has : goal.returns-in-Some-clause-has
returns-in-Some-clause-has g c k =
    let words = c.self.inside.others.words in
    let view : words_with words (Some c.in-Some.least) ≡ c.args.self.now = ap (words_with words) (sym c.in-Some.is) ∙ c.self.view_is in
    first_more words c.put_beside-next.new.others.words c.in-Some.least c.put_beside-next.result c.args.number (subst (IsInside words) c.in-Some.is c.self.invariant.inside) c.put_beside-next.ensures.inside c.put_beside-next.ensures.has k
    ∙ ap (λ (ws : List ℕ). k == c.args.number || words_have ws k) view
