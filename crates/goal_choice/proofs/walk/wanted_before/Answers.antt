use Rattle.std.proofs.Common.{arith, ◌<◌, ◌/◌, ◌+◌, ◌++◌, ◌∙◌, ℕ, [], ◌∷◌, ap, sym, subst, refl}
use Rattle.std.specs.List.{AllByRecursion}
use Rattle.goal_choice.specs.own.Members.{Literals, members_from}
use Rattle.goal_choice.specs.Walk.{support_of}
use Rattle.goal_choice.proofs.Sets.{all_from}
use Rattle.goal_choice.proofs.Joined.{all_of_first, all_of_second}
use Rattle.goal_choice.proofs.Steps.{gathered_more, put_both, wants_none}
use Rattle.goal_choice.proofs.walk.wanted_before.Goals as goal

pub stepping-init : goal.stepping-init
stepping-init c =
    let support = support_of c.args.means.now c.args.values.now c.args.step in (
      omega arith,
      refl,
      [],
      ap (λ (s : Literals). s.members) c.requires.before,
      wants_none support _ _ (all_from c.args.wanted.now.members),
    )

pub put_all-requires : goal.put_all-requires
put_all-requires c =
    let facts = c.stepping.invariant.1 ∙ ap (λ (s : Literals). s.facts) c.requires.before in
    subst (λ (n : ℕ). AllByRecursion (λ l. l / 2 < n) c.in-Want.precondition.now) (sym facts)
    (all_of_first _ c.in-Want.precondition.now c.in-Want.condition.now c.in-Want.ensures.within)

pub put_all-requires-in-Want : goal.put_all-requires-in-Want
put_all-requires-in-Want c =
    let facts = ap (λ (s : Literals). s.facts) c.put_all.ensures ∙ c.stepping.invariant.1 ∙ ap (λ (s : Literals). s.facts) c.requires.before in
    subst (λ (n : ℕ). AllByRecursion (λ l. l / 2 < n) c.in-Want.condition.now) (sym facts)
    (all_of_second _ c.in-Want.precondition.now c.in-Want.condition.now c.in-Want.ensures.within)

pub stepping-preserved-in-Want : goal.stepping-preserved-in-Want
stepping-preserved-in-Want c =
    let first = c.in-Want.precondition.now in
    let second = c.in-Want.condition.now in
    let all = c.put_all-in-Want.ensures ∙ put_both c.stepping.before c.put_all.new.self first second c.put_all.ensures in
    gathered_more _ (support_of c.args.means.now c.args.values.now c.args.step) _ c.stepping.from c.in-Some.lit (members_from c.stepping.from c.args.wanted.now.members) (members_from (c.in-Some.lit + 1) c.args.wanted.now.members) (first ++ second) c.stepping.before c.put_all-in-Want.new.self c.stepping.invariant
    all c.in-Some.ensures.small c.in-Some.ensures.some c.in-Want.ensures.support

pub stepping-preserved : goal.stepping-preserved
stepping-preserved c =
    gathered_more _ (support_of c.args.means.now c.args.values.now c.args.step) _ c.stepping.from c.in-Some.lit (members_from c.stepping.from c.args.wanted.now.members) (members_from (c.in-Some.lit + 1) c.args.wanted.now.members) (c.in-Some.lit ∷ []) c.stepping.before c.put.new.self c.stepping.invariant
    c.put.ensures c.in-Some.ensures.small c.in-Some.ensures.some c.in-Keep.ensures.support
