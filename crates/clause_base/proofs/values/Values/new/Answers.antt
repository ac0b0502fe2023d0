use Rattle.clause_base.proofs.ValueLemmas.{none_of}
use Rattle.clause_base.proofs.values.Values.new.Goals as goal

pub returns : goal.returns
returns c =
    none_of c.args.variables c.in_ok-vec.field-0.items (c.in_ok-vec.ensures.items_if_clones_equal (λ y h. h))
