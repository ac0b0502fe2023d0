use Rattle.std.proofs.Common.{arith, refl, ◌+◌, ◌/◌, ℕ, List, length, ◌∙◌, ap}
use Rattle.std.proofs.lemmas.List.{length-replicate}
use Rattle.bit_sets.specs.Layered.{words_have}
use Rattle.conflict_analysis.proofs.Marked.{no_marks}
use Rattle.conflict_analysis.proofs.resolvent.Resolvent.new.Goals as goal

pub returns : goal.returns
returns c =
    let words = c.in_ok-vec.ensures.items_if_clones_equal (λ y h. h) in
    let size = c.args.variables / 64 + 1 in
    let long = ap (λ (ws : List ℕ). length ws) words ∙ length-replicate size 0 in
    record {
      room = omega (arith, long);
      none = λ k. ap (λ (ws : List ℕ). words_have ws k) words ∙ no_marks size k;
      count = refl;
    }
