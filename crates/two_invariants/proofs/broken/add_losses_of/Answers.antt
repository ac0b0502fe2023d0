use Rattle.std.proofs.Common.{◌≡◌, ◌∙◌, ◌*◌, ◌<◌, ◌==◌, ◌&&◌, ◌||◌, ap, sym, subst, true, not, length, Bool, ℕ, List}
use Rattle.std.specs.List.{AllByRecursion, list_all}
use Rattle.bit_sets.specs.Rows.{row_has, IsPairAcross}
use Rattle.gt_core.specs.Literal.{opposite}
use Rattle.gt_core.specs.Task.{Effect}
use Rattle.gt_core.proofs.published.Basics.{apart}
use Rattle.implied_literals.specs.Rows.{clause_in}
use Rattle.implied_literals.specs.Tested.{EffectFits, AreRowsOf, with_more, has_no_pair, breaks_by}
use Rattle.two_invariants.specs.own.Harmless.{IsKept}
use Rattle.two_invariants.specs.own.Plain.{breaks_plainly, has_opposite}
use Rattle.two_invariants.specs.own.Groups.{effect_with, group_with, breaks_under, GroupFits}
use Rattle.two_invariants.specs.declared.groups.Group.{Group}
use Rattle.two_invariants.proofs.Contradicted.{breaks_nothing}
use Rattle.two_invariants.proofs.Steps.{more_within}
use Rattle.two_invariants.proofs.Firm.{not_broken, nothing_more}
use Rattle.implied_literals.proofs.published.Exact.{pair_test_is}
use Rattle.two_invariants.proofs.PlainEffects.{breaks_the_same}
use Rattle.two_invariants.proofs.broken.add_losses_of.Goals as goal

-- what is known before the action: what its condition tells
set_is : (none : ℕ → Bool) {given rows : List (List ℕ)} {pre condition : List ℕ} {set : ℕ → Bool} → ((m : ℕ) → set m ≡ with_more given none pre m) → given ≡ rows → pre ≡ condition
    → set ≡ with_more rows none condition
set_is none has value is = (λ i m. has m i) ∙ (λ i. with_more (value i) none (is i))

pub add_all_groups-requires-clause-before : goal.add_all_groups-requires-clause-before
add_all_groups-requires-clause-before c =
    let known = c.args.known.now in
    let value = c.as_slice-rows.ensures.value in
    record {
      few = c.requires.clauses.few;
      rows = subst (λ (rs : List (List ℕ)). AreRowsOf (2 * c.args.facts) rs) (sym value) c.requires.rows;
      set = λ m t.
          more_within (2 * c.args.facts) known.rows.items (row_has known.none) c.pre.result.now c.requires.rows c.requires.none m
          (ap (λ (rs : List (List ℕ)). with_more rs (row_has known.none) c.pre.result.now m) (sym value) ∙ sym (c.in_ok-set.ensures m) ∙ t);
      groups =
          subst (λ (gs : List Group). AllByRecursion (GroupFits (2 * c.args.facts)) gs) (sym c.as_slice.ensures.value)
          (c.in_ok-groups.ensures.fit (2 * c.args.facts) (subst (λ (es : List Effect). AllByRecursion (EffectFits (2 * c.args.facts)) es) (sym c.effects-effects.ensures) c.requires.act.effects));
    }

pub returns-then-has_pair-clause-lost : goal.returns-then-has_pair-clause-lost
returns-then-has_pair-clause-lost c = λ l m.
    let known = c.args.known.now in
    let x = c.args.act.now in
    let set = set_is (row_has known.none) c.in_ok-set.ensures c.as_slice-rows.ensures.value c.pre.ensures in
    let pair = subst (λ (s : ℕ → Bool). IsPairAcross s s true) set c.if-has_pair.ensures in
    let breaks : Bool = breaks_by c.args.facts known x l m in
    nothing_more (clause_in c.args.lost.now.items l m) (clause_in c.args.clauses.now l m) breaks
    (λ _ _ t. apart breaks t (breaks_nothing c.args.facts known x c.requires.rows c.requires.none pair l m))

pub returns-clause-lost : goal.returns-clause-lost
returns-clause-lost c = λ l m.
    let value = c.as_slice-rows.ensures.value in
    let set = set_is (row_has c.args.known.now.none) c.in_ok-set.ensures value c.pre.ensures in
    let has : group_with c.as_slice.result.now ≡ effect_with c.args.act.now.effects = (λ i. group_with (c.as_slice.ensures.value i)) ∙ (λ i l test. c.in_ok-groups.ensures.same l test i) ∙ (λ i. effect_with (c.effects-effects.ensures i)) in
    c.in_ok-add_all_groups.ensures.lost l m ∙ (λ i. clause_in c.args.lost.now.items l m || (clause_in c.args.clauses.now l m && has i (opposite l) (breaks_under c.args.facts (value i) (has i) (set i) l m)))

pub returns-then-are_plain-clause-lost : goal.returns-then-are_plain-clause-lost
returns-then-are_plain-clause-lost c = λ l m.
    let facts = c.args.facts in
    let known = c.args.known.now in
    let x = c.args.act.now in
    let rows = known.rows.items in
    let none = row_has known.none in
    let set = set_is none c.in_ok-set.ensures c.as_slice-rows.ensures.value c.pre.ensures in
    let within : (k : ℕ) → row_has c.in_ok-set.set k ≡ true → k < 2 * facts = λ k t. more_within (2 * facts) rows none x.precondition c.requires.rows c.requires.none k (sym (λ i. set i k) ∙ t) in
    let free : has_no_pair facts (with_more rows none x.precondition) ≡ true =
    ap (has_no_pair facts) (sym set) ∙ sym (pair_test_is facts (row_has c.in_ok-set.set) c.has_pair.result within c.has_pair.ensures) ∙ ap not c.if-has_pair.false in
    let plain : list_all (λ (e : Effect). length e.condition == 0) x.effects ≡ true = ap (list_all (λ (e : Effect). length e.condition == 0)) (sym c.effects-effects.ensures) ∙ sym c.are_plain.ensures ∙ c.if-are_plain.true in
    let old = clause_in c.args.lost.now.items l m in
    c.in_ok-add_plain_losses.ensures.lost l m
    ∙ (λ i. old || (clause_in c.args.clauses.now l m && breaks_plainly (set i) (c.effects-effects.ensures i) l m))
    ∙ ap (λ (b : Bool). old || (clause_in c.args.clauses.now l m && b)) (breaks_the_same facts rows (with_more rows none x.precondition) x.effects plain free l m)

pub are_harmless-requires-clause-effects : goal.are_harmless-requires-clause-effects
are_harmless-requires-clause-effects c = subst (λ (es : List Effect). AllByRecursion (EffectFits (2 * c.args.facts)) es) (sym c.effects-effects.ensures) c.requires.act.effects

pub are_harmless-requires-clause-lost : goal.are_harmless-requires-clause-lost
are_harmless-requires-clause-lost c = ap (λ (ls : List (List ℕ)). length ls) c.as_slice-so_far.ensures.value ∙ c.requires.lost

pub returns-then-harmless-clause-lost : goal.returns-then-harmless-clause-lost
returns-then-harmless-clause-lost c = λ l m.
    let known = c.args.known.now in
    let x = c.args.act.now in
    let clauses = c.args.clauses.now in
    let none = row_has known.none in
    let set = set_is none c.in_ok-set.ensures c.as_slice-rows.ensures.value c.pre.ensures in
    let firm = subst (λ (es : List Effect). has_opposite es l ≡ true → IsKept clauses c.as_slice-so_far.result.now (λ k. row_has c.in_ok-set.set k && not (has_opposite es k)) l m) c.effects-effects.ensures (c.in_ok-harmless.ensures c.if-harmless.true l m) in
    let kept = subst (λ (s : ℕ → Bool). has_opposite x.effects l ≡ true → IsKept clauses c.as_slice-so_far.result.now (λ k. s k && not (has_opposite x.effects k)) l m) set firm in
    nothing_more (clause_in c.args.lost.now.items l m) (clause_in clauses l m) (breaks_by c.args.facts known x l m)
    (λ f v. not_broken c.args.facts known.rows.items x.effects (with_more known.rows.items none x.precondition) l m
    (λ o. kept o v (ap (λ (ls : List (List ℕ)). clause_in ls l m) c.as_slice-so_far.ensures.value ∙ f)))
