use Rattle.std.proofs.Common.{◌==◌, ◌||◌, ◌∙◌, Bool, ap}
use Rattle.bit_sets.specs.Layered.{words_have}
use Rattle.bit_sets.proofs.Firsts.{put_two}
use Rattle.bit_sets.proofs.first.put_beside.Goals as goal

pub returns-clause-has : goal.returns-clause-has
returns-clause-has g c k =
    ap (λ (b : Bool). k == c.min.result || b) (c.insert.ensures.has k)
    ∙ put_two c.args.number c.args.least c.min.result c.max.result k (words_have c.args.others.now.words k) c.min.ensures c.max.ensures
