use Rattle.std.proofs.Common.{◌∙◌, ◌*◌, ap}
use Rattle.bit_sets.specs.Marks.{places}
use Rattle.bit_sets.proofs.published.Places.{covers_none, places_none}
use Rattle.bit_sets.proofs.marks.Marks.new.Goals as goal

pub invariant_of-result : goal.invariant_of-result
invariant_of-result c = covers_none _ _ _ (c.in_ok-vec.ensures.items_if_clones_equal (λ y h. h)) c.new.ensures.items

pub returns-clause-empty : goal.returns-clause-empty
returns-clause-empty c = ap (places 0) (c.in_ok-vec.ensures.items_if_clones_equal (λ y h. h)) ∙ places_none 0 (2 * c.args.variables)
