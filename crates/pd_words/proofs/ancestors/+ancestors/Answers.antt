use Rattle.std.proofs.Common.{◌≡◌, ℕ, ◌+◌, ◌/◌, ◌∙◌, ap, arith, map, slice_index, List}
use Rattle.pd_words.specs.Types.{ancestors}
use Rattle.pd_words.proofs.Lineage.{composed_is, one_more}
use Rattle.pd_words.proofs.ancestors.+ancestors.Goals as goal

pub returns-then-steps-eq0-clause-ancestors : goal.returns-then-steps-eq0-clause-ancestors
returns-then-steps-eq0-clause-ancestors t c = rw c.if-steps-eq0.true c.numbers_below.ensures.numbers

pub returns-then-steps-eq0-2-clause-ancestors : goal.returns-then-steps-eq0-2-clause-ancestors
returns-then-steps-eq0-2-clause-ancestors t c =
    let parents = c.args.parents.now in
    let h = c.args.steps / 2 in
    let first : c.as_slice.result.now ≡ ancestors parents h = c.as_slice.ensures.value ∙ c.in_ok-half.ensures.ancestors in
    let second : c.as_slice-2.result.now ≡ ancestors parents h = c.as_slice-2.ensures.value ∙ c.in_ok-half.ensures.ancestors in
    rw (c.in_ok-even.ensures.composed, first, second) (composed_is parents h h c.args.steps c.requires (omega arith))

pub returns-clause-ancestors : goal.returns-clause-ancestors
returns-clause-ancestors t c =
    let parents = c.args.parents.now in
    let h = c.args.steps / 2 in
    let first : c.as_slice.result.now ≡ ancestors parents h = c.as_slice.ensures.value ∙ c.in_ok-half.ensures.ancestors in
    let second : c.as_slice-2.result.now ≡ ancestors parents h = c.as_slice-2.ensures.value ∙ c.in_ok-half.ensures.ancestors in
    let even : c.as_slice-3.result.now ≡ ancestors parents (h + h) =
    c.as_slice-3.ensures.value ∙ rw (c.in_ok-even.ensures.composed, first, second) (composed_is parents h h (h + h) c.requires (omega arith)) in
    let last : map (slice_index parents) c.as_slice-3.result.now ≡ ancestors parents c.args.steps =
    ap (λ (xs : List ℕ). map (slice_index parents) xs) even ∙ one_more parents (h + h) c.args.steps (omega arith) in
    rw (← last) c.composed-2.ensures.composed
