use Rattle.std.proofs.Common.{ap, sym, subst, ◌≡◌, ◌∙◌, ◌==◌, ◌&&◌, not, List, ℕ, Some}
use Rattle.bit_sets.specs.Layered.{words_have, words_with, IsFirst, IsLeast}
use Rattle.bit_sets.proofs.Firsts.{first_out, first_least, least_same}
use Rattle.bit_sets.proofs.first.First.remove_least.Goals as goal

pub returns-in-Some-clause-has : goal.returns-in-Some-clause-has
returns-in-Some-clause-has g c n least k =
    let words = c.self.inside.others.words in
    let own = c.in-Some.least in
    let view : words_with words (Some own) ≡ c.args.self.now = ap (words_with words) (sym c.in-Some.is) ∙ c.self.view_is in
    let first = subst (IsFirst words) c.in-Some.is c.self.invariant in
    let same = least_same (words_have c.args.self.now) own n (subst (λ (ws : List ℕ). IsLeast (words_have ws) (Some own)) view (first_least words (Some own) first)) least in
    first_out words c.take_next-self-inside.new.set.words own c.take_next-self-inside.result first c.take_next-self-inside.ensures.taken
    c.take_next-self-inside.ensures.inside k
    ∙ ap (λ (ws : List ℕ). not (k == own) && words_have ws k) view ∙ ap (λ (m : ℕ). not (k == m) && words_have c.args.self.now k) same
