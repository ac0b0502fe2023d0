use Rattle.std.proofs.Common.{◌≡◌, length, replicate, rules}
use Rattle.std.proofs.lemmas.List.{length-map}
use Rattle.pd_model.specs.Types.{parents_of}
use Rattle.pd_model.proofs.TypeWalk.{walk_starts}
use Rattle.pd_model.proofs.walk.Walk.start.Goals as goal

pub returns : goal.returns
returns c =
    let entries : c.in_ok-entries.entries.items ≡ replicate (length c.args.types.now) 0 = search rules in
    let exits : c.in_ok-vec.field-0.items ≡ replicate (length c.args.types.now) 0 = search rules in
    rw (entries, exits) (walk_starts (parents_of c.args.types.now) _ _ (length c.args.types.now) (length-map c.args.types.now (λ t. t.parent)) (c.requires.rooted) (c.in_ok-last.ensures))
