use Rattle.std.proofs.Common.{◌≡◌, length, subst, replicate, arith, rules}
use Rattle.std.proofs.lemmas.List.{length-map, get_or_read}
use Rattle.pd_model.specs.Types.{parents_of}
use Rattle.pd_model.specs.own.Walk.{AreChains}
use Rattle.pd_model.proofs.TypeWalk.{no_chains, chains_more}
use Rattle.pd_model.proofs.walk.chain_children.Goals as goal

pub loop-kind-preserved : goal.loop-kind-preserved
loop-kind-preserved c =
    let parents = parents_of c.args.types.now in
    let long = length-map c.args.types.now (λ t. t.parent) in
    let below = c.requires.rooted.below c.loop-kind.kind in
    let here = get_or_read c.loop-kind.last.items c.parent_of-parent.result c.index.result.now (rw c.parent_of-parent.ensures (omega (arith, below, c.loop-kind.invariant.last_long))) c.index.ensures 0 in
    rw (here, c.parent_of-parent.ensures) (chains_more parents _ _ c.loop-kind.kind (c.loop-kind.invariant) (omega arith) (omega (arith, long)) below)

pub loop-kind-init : goal.loop-kind-init
loop-kind-init c =
    let last : c.in_ok-last.last.items ≡ replicate (length c.args.types.now) 0 = search rules in
    let before : c.in_ok-before.before.items ≡ replicate (length c.args.types.now) 0 = search rules in
    rw (last, before) (no_chains (parents_of c.args.types.now) (length c.args.types.now) (length-map c.args.types.now (λ t. t.parent)))

pub returns : goal.returns
returns c =
    let parents = parents_of c.args.types.now in
    let long = length-map c.args.types.now (λ t. t.parent) in
    let done : c.loop-kind.kind ≡ length c.args.types.now = omega (arith, long, c.requires.rooted.some) in
    subst (λ n. AreChains parents c.loop-kind.last.items c.loop-kind.before.items n) done (c.loop-kind.invariant)
