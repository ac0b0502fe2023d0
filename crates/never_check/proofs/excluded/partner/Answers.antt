use Rattle.std.proofs.Common.{◌∙◌, ◌∷◌, ℕ, List, [], sym, subst}
use Rattle.std.specs.Prelude.{slice_index}
use Rattle.std.specs.List.{AllByRecursion}
use Rattle.std.proofs.lemmas.List.{take_all}
use Rattle.gt_core.proofs.published.Literals.{among_in}
use Rattle.never_check.specs.Trail.{Reached}
use Rattle.never_check.specs.Verdicts.{IsBase, HasLeast}
use Rattle.never_check.proofs.Grown.{when_true, when_false}
use Rattle.never_check.proofs.Placed.{among_place}
use Rattle.never_check.proofs.Least.{base_least}
use Rattle.never_check.proofs.Turns.{next_at}
use Rattle.never_check.proofs.Excluding.{some_partner}
use Rattle.never_check.proofs.excluded.partner.Goals as goal

pub returns-then-branch : goal.returns-then-branch
returns-then-branch c = when_true c.in_ok-are_refuted.field-0 _ c.if-branch.true (c.in_ok-are_refuted.ensures.told [] (base_least c.args.rules.now c.args.trail.now c.requires.base))

pub returns-then-branch-2 : goal.returns-then-branch-2
returns-then-branch-2 c =
    let rules = c.args.rules.now in
    let before = c.args.before.now in
    let i = c.loop-other.other-index in
    let base = subst (λ (r : Reached). IsBase rules r) (sym (c.loop-other.invariant.kept ∙ c.in_ok-are_refuted.ensures.kept)) c.requires.base in
    (among_in before (slice_index before i) (among_place before i c.loop-other-test.true), when_true c.in_ok-are_refuted-2.field-0 _ c.if-branch-2.true (c.in_ok-are_refuted-2.ensures.told [] (base_least rules c.loop-other.trail base)))

pub loop-other-preserved : goal.loop-other-preserved
loop-other-preserved c =
    let rules = c.args.rules.now in
    let base = subst (λ (r : Reached). IsBase rules r) (sym (c.loop-other.invariant.kept ∙ c.in_ok-are_refuted.ensures.kept)) c.requires.base in
    record {
      kept = c.in_ok-are_refuted-2.ensures.kept ∙ c.loop-other.invariant.kept;
      each =
          next_at (λ a. HasLeast rules (a ∷ c.args.lit ∷ [])) c.args.before.now c.loop-other.other-index c.loop-other-test.true c.loop-other.invariant.each
          (when_false c.in_ok-are_refuted-2.field-0 _ c.if-branch-2.false (c.in_ok-are_refuted-2.ensures.told [] (base_least rules c.loop-other.trail base)));
    }

pub unreachable-requires : goal.unreachable-requires
unreachable-requires c =
    let rules = c.args.rules.now in
    let before = c.args.before.now in
    let alone = when_false c.in_ok-are_refuted.field-0 _ c.if-branch.false (c.in_ok-are_refuted.ensures.told [] (base_least rules c.args.trail.now c.requires.base)) in
    some_partner rules c.requires.none c.args.lit alone before c.requires.least
    (subst (λ (ls : List ℕ). AllByRecursion (λ a. HasLeast rules (a ∷ c.args.lit ∷ [])) ls) (take_all c.loop-other.other-index before c.loop-other-test.false) c.loop-other.invariant.each) c.requires.refuted
