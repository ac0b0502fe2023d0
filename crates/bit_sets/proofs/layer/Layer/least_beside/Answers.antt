use Rattle.std.proofs.Common.{◌≡◌, ◌+◌, ◌*◌, ℕ, List, Some, get_or, ap, sym, subst}
use Rattle.std.proofs.lemmas.List.{get_or_read}
use Rattle.bit_sets.specs.Layered.{word_has, words_have, LayerView, IsLeast, IsPast}
use Rattle.bit_sets.proofs.BitLemmas.{above_full, inside_full, near_least}
use Rattle.bit_sets.proofs.layer.Layer.least_beside.Goals as goal

pub returns-in-Some : goal.returns-in-Some
returns-in-Some g c =
    let words = c.self.inside.words.items in
    let place = c.in-Some.place in
    let bit = c.least_bit.result in
    let view : words ≡ c.args.self.now.words = ap (λ (v : LayerView _). v.words) c.self.view_is in
    let full = above_full words _ place c.self.invariant.2 c.in-Some.ensures.own in
    let read : c.index.result.now ≡ get_or words place 0 = get_or_read words place c.index.result.now (inside_full words place full) c.index.ensures 0 in
    subst (λ (ws : List ℕ). IsLeast (words_have ws) (Some (64 * place + bit))) view
    (near_least words _ c.args.past place bit c.self.invariant.2 (subst (λ (ws : List ℕ). IsPast (words_have ws) (Some c.args.past)) (sym view) c.requires.past)
    c.in-Some.ensures c.least_bit.ensures.small (subst (λ (w : ℕ). IsLeast (word_has w) (Some bit)) read c.least_bit.ensures.least))
