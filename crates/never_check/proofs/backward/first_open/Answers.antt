use Rattle.std.proofs.Common.{◌*◌, ◌∙◌, ◌++◌, ℕ, List, [], map, ap, sym, subst}
use Rattle.std.specs.Prelude.{slice_index_or}
use Rattle.std.specs.List.{AllByRecursion}
use Rattle.gt_core.specs.Literal.{opposite}
use Rattle.gt_core.proofs.published.Basics.{each_at}
use Rattle.never_check.specs.Trail.{Reached}
use Rattle.never_check.specs.Follow.{AreBelow}
use Rattle.never_check.specs.Verdicts.{IsLeast, AreRefuted, HasLeast}
use Rattle.never_check.proofs.Grown.{when_true, when_false}
use Rattle.never_check.proofs.Following.{clause_among}
use Rattle.never_check.proofs.Pairing.{turned_below}
use Rattle.never_check.proofs.Least.{least_open}
use Rattle.never_check.proofs.Turns.{number_at, clause_next}
use Rattle.never_check.proofs.backward.first_open.Goals as goal

pub are_refuted-requires-clause-lits : goal.are_refuted-requires-clause-lits
are_refuted-requires-clause-lits c =
    let rules = c.args.plain.now in
    let at = clause_among c.args.given.now.clauses.now c.loop-number.number c.at.result.now c.at.ensures in
    let below = turned_below rules.known.now.facts c.at.result.now (each_at (AreBelow (2 * rules.known.now.facts)) c.args.given.now.clauses.now c.at.result.now (subst (λ (k : ℕ). AllByRecursion (AreBelow (2 * k)) c.args.given.now.clauses.now) (sym c.requires.given.facts) c.requires.given.over) at.0) in
    let facts = ap (λ (r : Reached). r.facts) c.loop-number.invariant.kept ∙ c.requires.goal.facts in
    subst (λ (k : ℕ). AreBelow (2 * k) c.deref.result.now) (sym facts) (subst (λ (ls : List ℕ). AreBelow (2 * rules.known.now.facts) ls) (sym (c.deref.ensures.value ∙ c.in_ok-lits.ensures)) below)

pub returns-then-not-branch-clause-told : goal.returns-then-not-branch-clause-told
returns-then-not-branch-clause-told c =
    let rules = c.args.plain.now in
    let goal_literals = c.args.given.now.task.now.goal in
    let at = clause_among c.args.given.now.clauses.now c.loop-number.number c.at.result.now c.at.ensures in
    let same = c.deref.ensures.value ∙ c.in_ok-lits.ensures ∙ ap (map opposite) (sym at.1) in
    let least = subst (λ (r : Reached). IsLeast rules goal_literals r) (sym c.loop-number.invariant.kept) c.requires.goal in
    let has = when_false c.in_ok-are_refuted.field-0 _ c.if-not-branch.true (c.in_ok-are_refuted.ensures.told goal_literals least) in
    (number_at c.args.given.now.clauses.now c.loop-number.number c.at.result.now c.at.ensures, least_open rules (goal_literals ++ map opposite (slice_index_or c.args.given.now.clauses.now c.loop-number.number [])) (subst (λ (ls : List ℕ). HasLeast rules (goal_literals ++ ls)) same has))

pub loop-number-preserved : goal.loop-number-preserved
loop-number-preserved c =
    let rules = c.args.plain.now in
    let goal_literals = c.args.given.now.task.now.goal in
    let at = clause_among c.args.given.now.clauses.now c.loop-number.number c.at.result.now c.at.ensures in
    let same = c.deref.ensures.value ∙ c.in_ok-lits.ensures in
    let least = subst (λ (r : Reached). IsLeast rules goal_literals r) (sym c.loop-number.invariant.kept) c.requires.goal in
    let one = when_true c.in_ok-are_refuted.field-0 _ c.if-not-branch.false (c.in_ok-are_refuted.ensures.told goal_literals least) in
    record {
      kept = c.in_ok-are_refuted.ensures.kept ∙ c.loop-number.invariant.kept;
      all =
          clause_next (λ d. AreRefuted rules (goal_literals ++ map opposite d)) c.args.given.now.clauses.now c.loop-number.number c.at.result.now c.at.ensures c.loop-number.invariant.all
          (subst (λ (ls : List ℕ). AreRefuted rules (goal_literals ++ ls)) same one);
    }
