use Rattle.std.proofs.Common.{◌≡◌, true, sym, ◌∙◌, arith, rules}
use Rattle.pd_words.proofs.published.TypeLemmas.{rooted_more}
use Rattle.pd_words.proofs.types.check_rooted.Goals as goal

pub loop-place-preserved : goal.loop-place-preserved
loop-place-preserved c =
    let is : c.is_rooted.result ≡ true = search rules in
    (omega arith, rooted_more c.args.parents.now c.args.places.now c.loop-place.kind c.loop-place.place-index _ c.loop-place-test.true (sym c.is_rooted.ensures ∙ is) c.loop-place.invariant.1)
