use Rattle.std.proofs.Common.{arith, ◌+◌, ◌∙◌, List, Bool, take, true, ap}
use Rattle.std.proofs.lemmas.List.{take-replicate}
use Rattle.propagation.proofs.room.keep_all.Goals as goal

pub returns : goal.returns
returns c =
    c.truncate.ensures.items
    ∙ ap (λ (xs : List Bool). take c.args.count xs) c.in_ok-refill.ensures
    ∙ take-replicate c.args.count (c.args.count + 4096) true (omega arith)
