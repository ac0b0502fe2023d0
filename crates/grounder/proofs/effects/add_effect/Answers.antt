use Rattle.std.proofs.Common.{arith, ◌∙◌, sym, ap}
use Rattle.grounding_defs.specs.Instance.{change_of}
use Rattle.grounder.specs.own.Putting.{effects_at}
use Rattle.grounder.proofs.Placed.{placed}
use Rattle.grounder.proofs.Put.{left_added, literal_is}
use Rattle.grounder.proofs.effects.add_effect.Goals as goal

pub fact_literal-literal-requires : goal.fact_literal-literal-requires
fact_literal-literal-requires c =
    let at = placed c.args.known.now.facts _ c.place_in.result c.in-Some.place c.place_in.ensures c.in-Some.is in
    omega (arith, at.below, c.requires.few)

pub returns : goal.returns
returns c =
    let facts = c.args.known.now.facts in
    let change = change_of c.args.effect.now c.args.objects.now in
    let at = placed facts change.atom c.place_in.result c.in-Some.place c.place_in.ensures c.in-Some.is in
    let never = rw c.as_slice-conds.ensures at (sym c.any_never.ensures ∙ c.if-any_never.false) in
    let condition = rw c.as_slice-conds.ensures at (c.into_vec-condition.ensures ∙ c.in_ok-simplified.ensures) in
    ap effects_at c.in_ok-push.ensures.items
    ∙ left_added c.args.known.now.domains.now facts change c.args.into.now.items (record { literal = c.fact_literal-literal.result; condition = c.into_vec-condition.result })
    at.has never condition (c.fact_literal-literal.ensures ∙ literal_is facts change.atom c.in-Some.place c.args.effect.now.adds at.at)
