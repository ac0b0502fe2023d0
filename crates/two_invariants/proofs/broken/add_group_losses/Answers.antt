use Rattle.std.proofs.Common.{arith, ◌≡◌, ◌∙◌, ◌*◌, ◌<◌, ◌⊎◌, inl, inr, ap, sym, subst, not, true, length, ◌&&◌, ◌||◌, Bool, ℕ, List}
use Rattle.std.specs.List.{list_all}
use Rattle.bit_sets.specs.Rows.{row_has}
use Rattle.gt_core.specs.Literal.{opposite}
use Rattle.implied_literals.specs.Breaks.{is_add}
use Rattle.implied_literals.specs.Rows.{clause_in}
use Rattle.implied_literals.specs.Tested.{with_more, has_no_pair}
use Rattle.two_invariants.specs.own.Groups.{group_with, may_lose, may_take_by, is_sure_by}
use Rattle.implied_literals.proofs.published.Exact.{pair_test_is}
use Rattle.two_invariants.proofs.Steps.{more_within, and_true}
use Rattle.gt_core.proofs.published.Basics.{or_split}
use Rattle.two_invariants.proofs.Grouping.{none_lost}
use Rattle.two_invariants.proofs.Indexing.{givers_more, takers_more, more_of, given_within, told_twice, firm_sure, kept_sure}
use Rattle.two_invariants.proofs.broken.add_group_losses.Goals as goal

pub fill_given-requires-clause-set : goal.fill_given-requires-clause-set
fill_given-requires-clause-set c m t =
    let few = c.requires.clauses.few in
    let lt = more_within (2 * c.args.before.now.facts) c.args.before.now.rows.now (row_has c.args.before.now.set.now) c.as_slice.result.now c.requires.before.rows c.requires.before.set m (sym (c.in_ok-known.ensures m) ∙ t) in
    omega arith

pub fill_given-requires-clause-givers : goal.fill_given-requires-clause-givers
fill_given-requires-clause-givers c =
    givers_more (row_has c.args.before.now.set.now) (row_has c.in_ok-known.known) c.args.before.now.groups.now (length c.args.before.now.groups.now) c.args.givers.now
    (λ m t. c.in_ok-known.ensures m ∙ more_of c.args.before.now.rows.now (row_has c.args.before.now.set.now) c.as_slice.result.now m t) c.requires.givers

pub take_all_lost-requires-clause-takers : goal.take_all_lost-requires-clause-takers
take_all_lost-requires-clause-takers c =
    takers_more c.args.before.now.facts c.args.before.now.rows.now (row_has c.args.before.now.set.now) (row_has c.in_ok-known.known) c.args.before.now.groups.now (length c.args.before.now.groups.now) c.args.takers.now
    (λ m t. c.in_ok-known.ensures m ∙ more_of c.args.before.now.rows.now (row_has c.args.before.now.set.now) c.as_slice.result.now m t) c.requires.takers

pub take_all_lost-requires-clause-sure : goal.take_all_lost-requires-clause-sure
take_all_lost-requires-clause-sure c m t = by (or_split _ _ (sym (c.in_ok-unite.ensures.has m) ∙ t))
  where
    by : (row_has c.in_ok-sure.sure m ≡ true) ⊎ (row_has c.fill_given.new.given m ≡ true) → m < 2 * c.args.before.now.facts
    by (inl h) =
        more_within (2 * c.args.before.now.facts) c.args.before.now.rows.now (row_has c.args.before.now.set.now) c.as_slice.result.now c.requires.before.rows c.requires.before.set m
        (sym (c.in_ok-known.ensures m) ∙ sym (c.in_ok-sure.ensures m) ∙ h)
    by (inr h) = given_within c.args.before.now.facts m c.args.before.now.groups.now (list_all (row_has c.in_ok-known.known)) c.requires.before.groups (sym (c.in_ok-fill_given.ensures m) ∙ h)

pub take_all_lost-requires-clause-consistent : goal.take_all_lost-requires-clause-consistent
take_all_lost-requires-clause-consistent c =
    let facts = c.args.before.now.facts in
    let within : (k : ℕ) → row_has c.in_ok-known.known k ≡ true → k < 2 * facts = λ k t. more_within (2 * facts) c.args.before.now.rows.now (row_has c.args.before.now.set.now) c.as_slice.result.now c.requires.before.rows c.requires.before.set k (sym (c.in_ok-known.ensures k) ∙ t) in
    sym (pair_test_is facts (row_has c.in_ok-known.known) c.has_pair.result within c.has_pair.ensures) ∙ ap not c.if-has_pair.false

pub take_all_lost-requires-clause-own : goal.take_all_lost-requires-clause-own
take_all_lost-requires-clause-own c m =
    let rows = c.args.before.now.rows.now in
    let set = row_has c.args.before.now.set.now in
    let cond = c.args.group.now.condition.items in
    let here : row_has c.in_ok-known.known ≡ with_more rows set cond = (λ i k. c.in_ok-known.ensures k i) ∙ (λ i. with_more rows set (c.as_slice.ensures.value i)) in
    (λ i. with_more rows (here i) cond m) ∙ told_twice rows set cond m ∙ (λ i. sym here i m)

pub take_all_lost-requires-clause-here : goal.take_all_lost-requires-clause-here
take_all_lost-requires-clause-here c =
    let before = c.args.before.now in
    let rows = before.rows.now in
    let set = row_has before.set.now in
    let cond = c.as_slice.result.now in
    record {
      before = c.requires.before;
      set = λ m t. more_within (2 * before.facts) rows set cond c.requires.before.rows c.requires.before.set m (sym (c.in_ok-known.ensures m) ∙ t);
      givers = givers_more set (row_has c.in_ok-known.known) before.groups.now (length before.groups.now) c.args.givers.now (λ m t. c.in_ok-known.ensures m ∙ more_of rows set cond m t) c.requires.givers;
      given = c.in_ok-fill_given.ensures;
      lists = c.requires.takers.lists;
    }

pub returns-then-has_pair-clause-lost : goal.returns-then-has_pair-clause-lost
returns-then-has_pair-clause-lost c = λ l m.
    let facts = c.args.before.now.facts in
    let rows = c.args.before.now.rows.now in
    let set = row_has c.args.before.now.set.now in
    let cond = c.args.group.now.condition.items in
    let has = group_with c.args.before.now.groups.now in
    let here : row_has c.in_ok-known.known ≡ with_more rows set cond = (λ i k. c.in_ok-known.ensures k i) ∙ (λ i. with_more rows set (c.as_slice.ensures.value i)) in
    let free = pair_test_is facts (row_has c.in_ok-known.known) c.has_pair.result (λ k t. more_within (2 * facts) rows set cond c.requires.before.rows c.requires.before.set k (sym (ap (λ (s : ℕ → Bool). s k) here) ∙ t)) c.has_pair.ensures in
    none_lost (clause_in c.args.lost.now.items l m) (clause_in c.args.clauses.now l m) (row_has c.args.group.now.literals (opposite l)) (has_no_pair facts (with_more rows set cond)) (not (is_add l && has l (list_all (with_more rows set cond)))) (not (is_sure_by facts rows has (with_more rows set cond) m))
    (ap (has_no_pair facts) (sym here) ∙ sym free ∙ ap not c.if-has_pair.true)

pub returns-clause-lost : goal.returns-clause-lost
returns-clause-lost c = λ l m.
    let facts = c.args.before.now.facts in
    let rows = c.args.before.now.rows.now in
    let set = row_has c.args.before.now.set.now in
    let cond = c.args.group.now.condition.items in
    let has = group_with c.args.before.now.groups.now in
    let old = clause_in c.args.lost.now.items l m in
    let clause = clause_in c.args.clauses.now l m in
    let lits = row_has c.args.group.now.literals (opposite l) in
    let here : row_has c.in_ok-known.known ≡ with_more rows set cond = (λ i k. c.in_ok-known.ensures k i) ∙ (λ i. with_more rows set (c.as_slice.ensures.value i)) in
    let free = pair_test_is facts (row_has c.in_ok-known.known) c.has_pair.result (λ k t. more_within (2 * facts) rows set cond c.requires.before.rows c.requires.before.set k (sym (ap (λ (s : ℕ → Bool). s k) here) ∙ t)) c.has_pair.ensures in
    let given : row_has c.fill_given.new.given l ≡ has l (list_all (with_more rows set cond)) = c.in_ok-fill_given.ensures l ∙ (λ i. has l (list_all (here i))) in
    let sure : row_has c.take_all_lost.new.sure m ≡ is_sure_by facts rows has (with_more rows set cond) m =
    c.in_ok-take_all_lost.ensures m
    ∙ (λ i. c.in_ok-unite.ensures.has m i && not (may_lose facts rows has (row_has c.in_ok-known.known) m))
    ∙ (λ i. (c.in_ok-sure.ensures m i || c.in_ok-fill_given.ensures m i) && not (may_lose facts rows has (row_has c.in_ok-known.known) m))
    ∙ (λ i. is_sure_by facts rows has (here i) m) in
    c.in_ok-add_losses.ensures.lost l m
    ∙ (λ i. old || (clause && (c.requires.group.turned l i && (not (is_add l && given i) && not (sure i)))))
    ∙ ap (λ (b : Bool). old || (clause && (lits && (b && not (is_sure_by facts rows has (with_more rows set cond) m)))))
    (and_true (has_no_pair facts (with_more rows set cond)) (not (is_add l && has l (list_all (with_more rows set cond)))) (ap (has_no_pair facts) (sym here) ∙ sym free ∙ ap not c.if-has_pair.false))

pub add_losses-requires-clause-lits : goal.add_losses-requires-clause-lits
add_losses-requires-clause-lits c = c.requires.group.within

pub add_losses-requires-clause-clauses : goal.add_losses-requires-clause-clauses
add_losses-requires-clause-clauses c = c.requires.clauses

pub is_harmless-requires-clause-few : goal.is_harmless-requires-clause-few
is_harmless-requires-clause-few c = let few = c.requires.clauses.few in let long = c.requires.clauses.long in omega arith

pub is_harmless-requires-clause-lits : goal.is_harmless-requires-clause-lits
is_harmless-requires-clause-lits c = λ m t. subst (λ (n : ℕ). m < n) (sym c.requires.clauses.long) (c.requires.group.within m t)

pub is_harmless-requires-clause-lost : goal.is_harmless-requires-clause-lost
is_harmless-requires-clause-lost c = ap (λ (ls : List (List ℕ)). length ls) c.as_slice-so_far.ensures.value ∙ c.requires.rows ∙ sym c.requires.clauses.long

pub returns-then-harmless-clause-lost : goal.returns-then-harmless-clause-lost
returns-then-harmless-clause-lost c = λ l m.
    let facts = c.args.before.now.facts in
    let rows = c.args.before.now.rows.now in
    let groups = c.args.before.now.groups.now in
    let set = row_has c.args.before.now.set.now in
    let cond = c.args.group.now.condition.items in
    let has = group_with groups in
    let here : row_has c.in_ok-known.known ≡ with_more rows set cond = (λ i k. c.in_ok-known.ensures k i) ∙ (λ i. with_more rows set (c.as_slice.ensures.value i)) in
    let takers = takers_more facts rows set (row_has c.in_ok-known.known) groups (length groups) c.args.takers.now (λ k t. c.in_ok-known.ensures k ∙ more_of rows set c.as_slice.result.now k t) c.requires.takers in
    kept_sure (clause_in c.args.lost.now.items l m) (clause_in c.args.clauses.now l m) (row_has c.args.group.now.literals (opposite l)) (may_take_by facts has (with_more rows set cond) l) (is_sure_by facts rows has (with_more rows set cond) m)
    (λ f i v. (λ j. is_sure_by facts rows has (sym here j) m) ∙ firm_sure facts (2 * facts) rows groups (row_has c.in_ok-known.known) c.args.takers.now c.requires.before.groups takers m
    (c.in_ok-harmless.ensures c.if-harmless.true l m (c.requires.group.turned l ∙ i) v (ap (λ (ls : List (List ℕ)). clause_in ls l m) c.as_slice-so_far.ensures.value ∙ f)))
