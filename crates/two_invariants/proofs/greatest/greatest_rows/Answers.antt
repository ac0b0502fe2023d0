use Rattle.std.proofs.Common.{◌≡◌, ◌<◌, ◌*◌, ◌∙◌, ap, sym, subst, refl, inl, ℕ, List, length}
use Rattle.std.specs.List.{AllByRecursion}
use Rattle.bit_sets.specs.Rows.{row_has}
use Rattle.gt_core.specs.Literal.{opposite, state_of}
use Rattle.gt_core.proofs.published.Within.{lawful, among_at}
use Rattle.implied_literals.specs.Rows.{clause_in, AreRows}
use Rattle.implied_literals.specs.Tested.{IsSetOf, AreKnown, act_at}
use Rattle.two_invariants.specs.own.First.{is_first}
use Rattle.implied_literals.specs.Renewed.{WereKnown, IsSettled, IsTested}
use Rattle.two_invariants.proofs.Surrounding.{surrounds_first, not_opposite}
use Rattle.two_invariants.proofs.RoundLaw.{actions_fit, all_settled, were_known}
use Rattle.two_invariants.proofs.GreatestLaw.{still_around, are_invariants}
use Rattle.implied_literals.proofs.published.Unmoved.{asked_among, asked_within}
use Rattle.two_invariants.proofs.greatest.greatest_rows.Goals as goal

pub first_known-requires-clause-clauses : goal.first_known-requires-clause-clauses
first_known-requires-clause-clauses g c =
    let long = (lawful c.args.task.now c.facts-facts.ensures.lawful).initial in
    subst (λ (r : List (List ℕ)). AreRows c.facts-facts.result r) (sym c.as_slice.ensures.value)
    (subst (λ (n : ℕ). AreRows n c.in_ok-rows.rows.items) (ap (λ xs. length xs) c.init.ensures ∙ long ∙ sym c.facts-facts.ensures.facts) c.in_ok-rows.ensures.rows)

pub first_known-requires-clause-either : goal.first_known-requires-clause-either
first_known-requires-clause-either g c =
    let task = c.args.task.now in
    let long = (lawful task c.facts-facts.ensures.lawful).initial in
    let around = surrounds_first task c.in_ok-rows.rows.items long (λ l m. c.in_ok-rows.ensures.clauses l m ∙ (λ i. is_first (length (c.init.ensures i)) (state_of (c.init.ensures i)) l m)) in
    subst (λ (r : List (List ℕ)). (l m : ℕ) → clause_in r l m ≡ clause_in r m l) (sym c.as_slice.ensures.value) around.either

pub first_known-requires-clause-asked : goal.first_known-requires-clause-asked
first_known-requires-clause-asked g c =
    let task = c.args.task.now in
    subst (λ (n : ℕ). IsSetOf (2 * n) (row_has c.args.asked.now)) (sym c.facts-facts.ensures.facts)
    (asked_within task.actions (row_has c.args.asked.now) c.requires (2 * task.facts) (actions_fit task c.facts-facts.ensures.lawful))

pub round-init : goal.round-init
round-init g c =
    let task = c.args.task.now in
    let rows = c.in_ok-rows.rows.items in
    let asked = row_has c.args.asked.now in
    let known = c.in_ok-known.known in
    let long = (lawful task c.facts-facts.ensures.lawful).initial in
    let size : length c.acts.result.now ≡ length task.actions = ap (λ xs. length xs) c.acts.ensures.acts in
    record {
      rows = subst (λ (n : ℕ). AreRows n rows) (ap (λ xs. length xs) c.init.ensures ∙ long) c.in_ok-rows.ensures.rows;
      around = surrounds_first task rows long (λ l m. c.in_ok-rows.ensures.clauses l m ∙ (λ i. is_first (length (c.init.ensures i)) (state_of (c.init.ensures i)) l m));
      known = subst (λ (n : ℕ). AreKnown (clause_in rows) (2 * n) asked known) c.facts-facts.ensures.facts
          (subst (λ (r : List (List ℕ)). AreKnown (clause_in r) (2 * c.facts-facts.result) asked known) c.as_slice.ensures.value c.in_ok-known.ensures);
      tested = record {
        numbers = subst (λ (n : ℕ). AllByRecursion (λ a. a < n) c.in_ok-todo.todo.items) size c.in_ok-todo.ensures.numbers;
        settled = λ a lt. inl (c.in_ok-todo.ensures.all a (subst (λ (n : ℕ). a < n) (sym size) lt));
      };
    }

pub returns-then-not-dropped-clause-either : goal.returns-then-not-dropped-clause-either
returns-then-not-dropped-clause-either g c =
    let task = c.args.task.now in
    let asked = row_has c.args.asked.now in
    let inv = c.round.invariant in
    let after = c.drop_broken.new.rows.items in
    let around = still_around task asked (asked_among task.actions asked c.requires) c.round.rows.items inv.rows inv.around c.round.known inv.known after _ c.in_ok-dropped.ensures.round in
    around.either

pub returns-then-not-dropped-clause-apart : goal.returns-then-not-dropped-clause-apart
returns-then-not-dropped-clause-apart g c = λ l t.
    let task = c.args.task.now in
    let asked = row_has c.args.asked.now in
    let inv = c.round.invariant in
    let after = c.drop_broken.new.rows.items in
    let around = still_around task asked (asked_among task.actions asked c.requires) c.round.rows.items inv.rows inv.around c.round.known inv.known after _ c.in_ok-dropped.ensures.round in
    not_opposite l (opposite l) (around.proper l (opposite l) t) refl

pub returns-then-not-dropped-clause-greatest : goal.returns-then-not-dropped-clause-greatest
returns-then-not-dropped-clause-greatest g c = λ list listed facts same.
    let task = c.args.task.now in
    let asked = row_has c.args.asked.now in
    let inv = c.round.invariant in
    are_invariants task asked (asked_among task.actions asked c.requires) c.round.rows.items inv.rows inv.around c.round.known inv.known c.drop_broken.new.rows.items _ c.in_ok-dropped.ensures.round c.if-not-dropped.true list listed facts same

pub prepare-requires-clause-either : goal.prepare-requires-clause-either
prepare-requires-clause-either g c =
    let task = c.args.task.now in
    let asked = row_has c.args.asked.now in
    let inv = c.round.invariant in
    let after = c.drop_broken.new.rows.items in
    let around = still_around task asked (asked_among task.actions asked c.requires) c.round.rows.items inv.rows inv.around c.round.known inv.known after _ c.in_ok-dropped.ensures.round in
    subst (λ (r : List (List ℕ)). (l m : ℕ) → clause_in r l m ≡ clause_in r m l) (sym c.as_slice-in-round-2.ensures.value) around.either

pub prepare-requires-clause-asked : goal.prepare-requires-clause-asked
prepare-requires-clause-asked g c =
    let task = c.args.task.now in
    asked_within task.actions (row_has c.args.asked.now) c.requires (2 * task.facts) (actions_fit task c.facts-facts.ensures.lawful)

pub prepare-requires-clause-among : goal.prepare-requires-clause-among
prepare-requires-clause-among g c = asked_among c.args.task.now.actions (row_has c.args.asked.now) c.requires

pub prepare-requires-clause-were : goal.prepare-requires-clause-were
prepare-requires-clause-were g c =
    let task = c.args.task.now in
    let asked = row_has c.args.asked.now in
    let stale = row_has c.drop_broken.new.stale in
    subst (λ (r : List (List ℕ)). WereKnown (clause_in r) stale (2 * task.facts) asked c.round.known) (sym c.as_slice-in-round-2.ensures.value)
    (were_known task asked c.round.known c.round.rows.items c.drop_broken.new.rows.items _ stale c.round.invariant.rows c.round.invariant.known c.in_ok-dropped.ensures.round c.in_ok-dropped.ensures.stale)

pub prepare-requires-clause-settled : goal.prepare-requires-clause-settled
prepare-requires-clause-settled g c = λ a lt.
    let task = c.args.task.now in
    subst (λ (r : List (List ℕ)). IsSettled task.facts c.round.known r (act_at task.actions a)) (sym c.as_slice-in-round-2.ensures.value)
    (all_settled task c.round.known c.round.rows.items c.drop_broken.new.rows.items _ c.round.invariant.around.either c.in_ok-dropped.ensures.round (act_at task.actions a) (among_at task.actions a _ lt))

pub round-preserved : goal.round-preserved
round-preserved g c =
    let task = c.args.task.now in
    let asked = row_has c.args.asked.now in
    let inv = c.round.invariant in
    let after = c.drop_broken.new.rows.items in
    let around = still_around task asked (asked_among task.actions asked c.requires) c.round.rows.items inv.rows inv.around c.round.known inv.known after _ c.in_ok-dropped.ensures.round in
    record {
      rows = c.in_ok-dropped.ensures.rows;
      around = around;
      known = subst (λ (r : List (List ℕ)). AreKnown (clause_in r) (2 * task.facts) asked c.prepare.new.known) c.as_slice-in-round-2.ensures.value c.in_ok-todo-2.ensures.known;
      tested = subst (λ (r : List (List ℕ)). IsTested task c.prepare.new.known r c.in_ok-todo-2.todo.items) c.as_slice-in-round-2.ensures.value c.in_ok-todo-2.ensures.tested;
    }
