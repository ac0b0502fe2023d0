use Rattle.std.proofs.Common.{arith, ap, sym, subst, ◌≡◌, ◌∙◌, ◌==◌, ◌&&◌, not, List, ℕ, Some}
use Rattle.bit_sets.specs.Layered.{words_have, words_with, IsFirst}
use Rattle.bit_sets.proofs.Firsts.{first_out, first_without, is_least, not_least, past_taken, past_less, inside_same}
use Rattle.bit_sets.proofs.first.FirstNumberSet.remove.Goals as goal

pub returns-then-eq-clause-has : goal.returns-then-eq-clause-has
returns-then-eq-clause-has g c k =
    let words = c.self.inside.others.words in
    let is : c.self.inside.least ≡ Some c.args.number = is_least c.self.inside.least c.args.number (sym c.if-eq.true ∙ c.eq.ensures) in
    let view : words_with words (Some c.args.number) ≡ c.args.self.now = ap (words_with words) (sym is) ∙ c.self.view_is in
    first_out words c.take_next-self-inside.new.set.words c.args.number c.take_next-self-inside.result (subst (IsFirst words) is c.self.invariant) c.take_next-self-inside.ensures.taken c.take_next-self-inside.ensures.inside k
    ∙ ap (λ (ws : List ℕ). not (k == c.args.number) && words_have ws k) view

pub returns-else-eq-clause-has : goal.returns-else-eq-clause-has
returns-else-eq-clause-has g c k =
    let words = c.self.inside.others.words in
    first_without words c.remove.new.self.words c.args.number c.self.inside.least c.self.invariant.inside (omega (arith, c.remove.ensures.room)) (not_least c.self.inside.least c.args.number (sym c.if-eq.false ∙ c.eq.ensures)) c.remove.ensures.has k
    ∙ ap (λ (ws : List ℕ). not (k == c.args.number) && words_have ws k) c.self.view_is

pub invariant_of-self : goal.invariant_of-self
invariant_of-self g c = record {
  past = past_taken (words_have c.self.inside.others.words) (words_have c.take_next-self-inside.new.set.words) c.take_next-self-inside.result c.take_next-self-inside.ensures.taken;
  inside = c.take_next-self-inside.ensures.inside;
}

pub invariant_of-self-else-eq : goal.invariant_of-self-else-eq
invariant_of-self-else-eq g c = record {
  past = past_less (words_have c.self.inside.others.words) (words_have c.remove.new.self.words) c.args.number c.self.inside.least c.remove.ensures.has c.self.invariant.past;
  inside = inside_same c.self.inside.others.words c.remove.new.self.words c.self.inside.least (omega (arith, c.remove.ensures.room)) c.self.invariant.inside;
}
