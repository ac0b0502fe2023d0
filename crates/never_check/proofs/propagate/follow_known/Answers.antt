use Rattle.std.proofs.Common.{arith, ◌≡◌, ◌≤◌, ◌<◌, ◌*◌, ℕ, ap, ◌∙◌}
use Rattle.bit_sets.specs.Rows.{row_has}
use Rattle.gt_core.specs.Literal.{opposite}
use Rattle.gt_core.specs.Interference.{has_clause}
use Rattle.never_check.proofs.Grown.{when_true, when_false, front_in}
use Rattle.never_check.proofs.KnownLaw.{told_all, told_top, told_next, told_clause, known_clash, known_grown}
use Rattle.never_check.proofs.propagate.follow_known.Goals as goal

pub returns-then-other-top-clause-told : goal.returns-then-other-top-clause-told
returns-then-other-top-clause-told c =
    let known = c.args.known.now in
    let is : (m : ℕ) → m < 2 * known.facts → row_has c.row-row.result.now m ≡ has_clause known.clauses (opposite c.args.lit) m = λ m lt. c.row-row.ensures m lt ∙ ap (λ (k : ℕ). has_clause known.clauses k m) c.opposite.ensures in
    let past : 2 * known.facts ≤ c.in-Some.other = let t = c.if-other-top.true in let f = c.facts-top.ensures in omega (arith, t, f) in
    (c.row.invariant.grown, told_top known c.requires.known (opposite c.args.lit) c.row-row.result.now is c.row.from c.in-Some.other c.row.trail.literals past c.row.invariant.told c.in-Some.ensures)

pub returns-then-branch-clause-told : goal.returns-then-branch-clause-told
returns-then-branch-clause-told c =
    let known = c.args.known.now in
    let is : (m : ℕ) → m < 2 * known.facts → row_has c.row-row.result.now m ≡ has_clause known.clauses (opposite c.args.lit) m = λ m lt. c.row-row.ensures m lt ∙ ap (λ (k : ℕ). has_clause known.clauses k m) c.opposite.ensures in
    let within : c.in-Some.other < 2 * known.facts = let t = c.if-other-top.false in let f = c.facts-top.ensures in omega (arith, t, f) in
    known_clash known.clauses c.args.lit c.args.trail.now.literals c.row.trail.literals c.requires.reached c.row.invariant.grown c.in-Some.other
    (told_clause known c.requires.known (opposite c.args.lit) c.row-row.result.now is c.row.from c.in-Some.other within c.in-Some.ensures)
    (when_true c.in_ok-add.field-0 _ c.if-branch.true c.in_ok-add.ensures.told)

pub row-preserved : goal.row-preserved
row-preserved c =
    let known = c.args.known.now in
    let is : (m : ℕ) → m < 2 * known.facts → row_has c.row-row.result.now m ≡ has_clause known.clauses (opposite c.args.lit) m = λ m lt. c.row-row.ensures m lt ∙ ap (λ (k : ℕ). has_clause known.clauses k m) c.opposite.ensures in
    let within : c.in-Some.other < 2 * known.facts = let t = c.if-other-top.false in let f = c.facts-top.ensures in omega (arith, t, f) in
    let added = when_false c.in_ok-add.field-0 _ c.if-branch.false c.in_ok-add.ensures.told in
    record {
      facts = c.in_ok-add.ensures.facts ∙ c.row.invariant.facts;
      within = let t = c.if-other-top.false in omega (arith, t);
      grown =
          known_grown known.clauses c.args.lit c.args.trail.now.literals c.row.trail.literals c.requires.reached c.row.invariant.grown c.add.new.trail.literals c.in-Some.other
          (told_clause known c.requires.known (opposite c.args.lit) c.row-row.result.now is c.row.from c.in-Some.other within c.in-Some.ensures) added.0;
      told =
          told_next known c.requires.known (opposite c.args.lit) c.row-row.result.now is c.row.from c.in-Some.other c.row.trail.literals c.add.new.trail.literals within
          (front_in c.row.trail.literals c.add.new.trail.literals added.0.front) added.1 c.row.invariant.told c.in-Some.ensures;
    }

pub returns-clause-told : goal.returns-clause-told
returns-clause-told c =
    let known = c.args.known.now in
    let is : (m : ℕ) → m < 2 * known.facts → row_has c.row-row.result.now m ≡ has_clause known.clauses (opposite c.args.lit) m = λ m lt. c.row-row.ensures m lt ∙ ap (λ (k : ℕ). has_clause known.clauses k m) c.opposite.ensures in
    (c.row.invariant.grown, told_all known c.requires.known (opposite c.args.lit) c.row-row.result.now is c.row.from c.row.trail.literals c.row.invariant.told c.in_default.ensures)
