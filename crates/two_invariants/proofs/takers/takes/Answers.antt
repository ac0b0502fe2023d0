use Rattle.std.proofs.Common.{arith, ◌≡◌, ◌∙◌, ◌*◌, ◌<◌, ◌==◌, ◌&&◌, ap, sym, not, true, false, length, Bool, ℕ, List, subst}
use Rattle.std.specs.List.{list_all, AllByRecursion}
use Rattle.bit_sets.specs.Rows.{row_has}
use Rattle.implied_literals.specs.Breaks.{is_add}
use Rattle.implied_literals.specs.Tested.{with_more, has_no_pair}
use Rattle.two_invariants.specs.own.Groups.{group_with}
use Rattle.implied_literals.proofs.published.Exact.{pair_test_is}
use Rattle.two_invariants.proofs.Steps.{more_within}
use Rattle.two_invariants.proofs.Indexing.{givers_more, more_of}
use Rattle.two_invariants.proofs.Taking.{takes_none, takes_where}
use Rattle.two_invariants.proofs.takers.takes.Goals as goal

pub returns-then-has_pair : goal.returns-then-has_pair
returns-then-has_pair c =
    let facts = c.args.here.now.before.now.facts in
    let rows = c.args.here.now.before.now.rows.now in
    let here = row_has c.args.here.now.set.now in
    let there : row_has c.fill_with.new.row ≡ with_more rows here c.args.group.now.condition.items = (λ i k. c.in_ok-fill_with.ensures k i) ∙ (λ i. with_more rows here (c.as_slice.ensures.value i)) in
    let within : (k : ℕ) → row_has c.fill_with.new.row k ≡ true → k < 2 * facts = λ k t. more_within (2 * facts) rows here c.as_slice.result.now c.requires.here.before.rows c.requires.here.set k (sym (c.in_ok-fill_with.ensures k) ∙ t) in
    takes_none facts rows c.args.here.now.before.now.groups.now here c.args.group.now c.args.l
    (ap (has_no_pair facts) (sym there) ∙ sym (pair_test_is facts (row_has c.fill_with.new.row) c.has_pair.result within c.has_pair.ensures) ∙ ap not c.if-has_pair.true)

pub returns-then-l-eq1 : goal.returns-then-l-eq1
returns-then-l-eq1 c =
    let facts = c.args.here.now.before.now.facts in
    let rows = c.args.here.now.before.now.rows.now in
    let here = row_has c.args.here.now.set.now in
    let cond = c.args.group.now.condition.items in
    let there : row_has c.fill_with.new.row ≡ with_more rows here cond = (λ i k. c.in_ok-fill_with.ensures k i) ∙ (λ i. with_more rows here (c.as_slice.ensures.value i)) in
    let within : (k : ℕ) → row_has c.fill_with.new.row k ≡ true → k < 2 * facts = λ k t. more_within (2 * facts) rows here c.as_slice.result.now c.requires.here.before.rows c.requires.here.set k (sym (c.in_ok-fill_with.ensures k) ∙ t) in
    let odd : is_add c.args.l ≡ false = ap (λ (r : ℕ). r == 0) c.if-l-eq1.true in
    takes_where facts rows c.args.here.now.before.now.groups.now here c.args.group.now c.args.l (sym c.contains.ensures ∙ c.if-not-contains.false)
    (ap (has_no_pair facts) (sym there) ∙ sym (pair_test_is facts (row_has c.fill_with.new.row) c.has_pair.result within c.has_pair.ensures) ∙ ap not c.if-has_pair.false)
    true (ap (λ (b : Bool). not (b && group_with c.args.here.now.before.now.groups.now c.args.l (list_all (with_more rows here cond)))) (sym odd))

pub fill_given-requires-clause-set : goal.fill_given-requires-clause-set
fill_given-requires-clause-set c m t =
    let few = c.requires.here.before.few in
    let lt = more_within (2 * c.args.here.now.before.now.facts) c.args.here.now.before.now.rows.now (row_has c.args.here.now.set.now) c.as_slice.result.now c.requires.here.before.rows c.requires.here.set m (sym (c.in_ok-fill_with.ensures m) ∙ t) in
    omega arith

pub fill_given-requires-clause-givers : goal.fill_given-requires-clause-givers
fill_given-requires-clause-givers c =
    givers_more (row_has c.args.here.now.set.now) (row_has c.fill_with.new.row) c.args.here.now.before.now.groups.now (length c.args.here.now.before.now.groups.now) c.args.here.now.givers.now
    (λ m t. c.in_ok-fill_with.ensures m ∙ more_of c.args.here.now.before.now.rows.now (row_has c.args.here.now.set.now) c.as_slice.result.now m t) c.requires.here.givers

pub returns : goal.returns
returns c =
    let facts = c.args.here.now.before.now.facts in
    let rows = c.args.here.now.before.now.rows.now in
    let here = row_has c.args.here.now.set.now in
    let l = c.args.l in
    let there : row_has c.fill_with.new.row ≡ with_more rows here c.args.group.now.condition.items = (λ i k. c.in_ok-fill_with.ensures k i) ∙ (λ i. with_more rows here (c.as_slice.ensures.value i)) in
    let within : (k : ℕ) → row_has c.fill_with.new.row k ≡ true → k < 2 * facts = λ k t. more_within (2 * facts) rows here c.as_slice.result.now c.requires.here.before.rows c.requires.here.set k (sym (c.in_ok-fill_with.ensures k) ∙ t) in
    takes_where facts rows c.args.here.now.before.now.groups.now here c.args.group.now l (sym c.contains.ensures ∙ c.if-not-contains.false)
    (ap (has_no_pair facts) (sym there) ∙ sym (pair_test_is facts (row_has c.fill_with.new.row) c.has_pair.result within c.has_pair.ensures) ∙ ap not c.if-has_pair.false)
    c.is_taken.result
    (c.is_taken.ensures ∙ ap (λ (b : Bool). not (is_add l && b)) (c.in_ok-fill_given.ensures l ∙ (λ i. group_with c.args.here.now.before.now.groups.now l (list_all (there i)))))

pub fill_with-requires : goal.fill_with-requires
fill_with-requires c =
    subst (λ (n : ℕ). AllByRecursion (λ l. l < n) c.as_slice.result.now) (sym c.requires.here.before.rows.long)
    (subst (λ (ls : List ℕ). AllByRecursion (λ l. l < 2 * c.args.here.now.before.now.facts) ls) (sym c.as_slice.ensures.value) c.requires.group.condition)
