use Rattle.std.proofs.Common.{arith, ◌≡◌, ◌∙◌, ℕ, List, Some, ap, sym, subst}
use Rattle.bit_sets.specs.Layered.{words_have, words_with, IsFirst, IsLeast}
use Rattle.bit_sets.proofs.Firsts.{first_least}
use Rattle.bit_sets.proofs.first.FirstNumberSet.least_near.Goals as goal

pub returns-in-Some : goal.returns-in-Some
returns-in-Some g c =
    let words = c.self.inside.others.words in
    let own = c.in-Some.least in
    let view : words_with words (Some own) ≡ c.args.self.now = ap (words_with words) (sym c.in-Some.is) ∙ c.self.view_is in
    let first = subst (IsFirst words) c.in-Some.is c.self.invariant in
    let least = subst (λ (ws : List ℕ). IsLeast (words_have ws) (Some own)) view (first_least words (Some own) first) in
    record { near = omega (arith, c.if-least-number.true); own = least.0; none = λ j e h. least.1 j h }
