use Rattle.std.proofs.Common.{arith, ◌≡◌, ◌<◌, ◌≤◌, ◌∙◌, ◌∷◌, ℕ, List, Bool, true, false, ap, sym, subst, length, take}
use Rattle.clause_base.specs.Derivation.{IsFirstUnderived}
use Rattle.clause_base.specs.declared.log.Entry.{Entry}
use Rattle.proof_log.specs.declared.reader.Kind.{Kind}
use Rattle.rup_check.proofs.KeptLemmas.{derived_more}
use Rattle.rup_check.proofs.EndsLaws.{ends_next, ends_all}
use Rattle.rup_check.proofs.TakenLaws.{entry_at, taken_more, true_ok}
use Rattle.proof_log.specs.Step.{told_by}
use Rattle.proof_log.proofs.published.Turns.{turn, some_left}
use Rattle.rup_check.proofs.check.go_through.Goals as goal

-- the literals and the hints as they are lent are those that were read
told_next : (kind : Kind) (lits clause lent hints : List ℕ) (now rest : List Entry) → lits ≡ clause → lent ≡ hints → now ≡ told_by kind clause hints ∷ rest → now ≡ told_by kind lits lent ∷ rest
told_next kind lits clause lent hints now rest c l n = n ∙ ap (λ (ns : List ℕ). told_by kind ns hints ∷ rest) (sym c) ∙ ap (λ (ns : List ℕ). told_by kind lits ns ∷ rest) (sym l)

apart : (b : Bool) → b ≡ false → b ≡ true → ⊥
apart b e f = cc

pub take_into-requires : goal.take_into-requires
take_into-requires c =
    let log = c.args.log.now in
    let within : c.loop-number.number < length log = omega (arith, c.loop-number-test.true, c.len-number-end.ensures) in
    some_left log c.loop-number.reader c.loop-number.number within c.loop-number.invariant.left

pub returns-then-not-branch-clause-rejected : goal.returns-then-not-branch-clause-rejected
returns-then-not-branch-clause-rejected c = λ e told.
    let log = c.args.log.now in
    let n = c.loop-number.number in
    let same : n ≡ e = cc in
    let entry = told_by c.in_ok-kind.kind c.as_slice-clause.result.now c.deref.result.now in
    let within : n < length log = omega (arith, c.loop-number-test.true, c.len-number-end.ensures) in
    let answer =
    entry_at c.args.formula.now c.loop-number.checker.formula log c.loop-number.reader c.take_into.new.self n entry c.in_ok-take_step.field-0 c.loop-number.invariant.formula within
    c.loop-number.invariant.left (told_next c.in_ok-kind.kind c.as_slice-clause.result.now c.take_into.new.lits.items c.deref.result.now c.take_into.new.hints.items c.loop-number.reader c.take_into.new.self c.as_slice-clause.ensures.value c.deref.ensures.value c.in_ok-kind.ensures.next) (c.in_ok-take_step.ensures.answer (take n log) c.loop-number.invariant.taken) in
    subst (λ (m : ℕ). IsFirstUnderived c.args.formula.now.variables c.args.formula.now.clauses log m) same (record {
      in_range = within;
      earlier = c.loop-number.invariant.derived;
      here = λ d. apart c.in_ok-take_step.field-0 c.if-not-branch.true (sym answer ∙ d);
    })

pub loop-number-preserved : goal.loop-number-preserved
loop-number-preserved c =
    let log = c.args.log.now in
    let n = c.loop-number.number in
    let entry = told_by c.in_ok-kind.kind c.as_slice-clause.result.now c.deref.result.now in
    let within : n < length log = omega (arith, c.loop-number-test.true, c.len-number-end.ensures) in
    let next = turn log c.loop-number.reader c.take_into.new.self n entry within c.loop-number.invariant.left (told_next c.in_ok-kind.kind c.as_slice-clause.result.now c.take_into.new.lits.items c.deref.result.now c.take_into.new.hints.items c.loop-number.reader c.take_into.new.self c.as_slice-clause.ensures.value c.deref.ensures.value c.in_ok-kind.ensures.next) in
    let answer =
    entry_at c.args.formula.now c.loop-number.checker.formula log c.loop-number.reader c.take_into.new.self n entry c.in_ok-take_step.field-0 c.loop-number.invariant.formula within
    c.loop-number.invariant.left (told_next c.in_ok-kind.kind c.as_slice-clause.result.now c.take_into.new.lits.items c.deref.result.now c.take_into.new.hints.items c.loop-number.reader c.take_into.new.self c.as_slice-clause.ensures.value c.deref.ensures.value c.in_ok-kind.ensures.next) (c.in_ok-take_step.ensures.answer (take n log) c.loop-number.invariant.taken) in
    record {
      derived = derived_more c.args.formula.now.variables c.args.formula.now.clauses log n c.loop-number.invariant.derived (answer ∙ c.if-not-branch.false);
      formula = c.in_ok-take_step.ensures.formula ∙ c.loop-number.invariant.formula;
      taken = taken_more _ log n entry within next.is (c.in_ok-take_step.ensures.taken (take n log) c.loop-number.invariant.taken (true_ok c.in_ok-take_step.field-0 c.if-not-branch.false));
      left = next.next;
      ends = ends_next log n entry c.learns_empty-ends_empty.result within next.is (c.learns_empty-ends_empty.ensures c.deref.result.now);
    }

pub returns-then-not-branch-clause-accepted : goal.returns-then-not-branch-clause-accepted
returns-then-not-branch-clause-accepted c = λ refuted.
    let log = c.args.log.now in
    let n = c.loop-number.number in
    let entry = told_by c.in_ok-kind.kind c.as_slice-clause.result.now c.deref.result.now in
    let within : n < length log = omega (arith, c.loop-number-test.true, c.len-number-end.ensures) in
    let answer =
    entry_at c.args.formula.now c.loop-number.checker.formula log c.loop-number.reader c.take_into.new.self n entry c.in_ok-take_step.field-0 c.loop-number.invariant.formula within
    c.loop-number.invariant.left (told_next c.in_ok-kind.kind c.as_slice-clause.result.now c.take_into.new.lits.items c.deref.result.now c.take_into.new.hints.items c.loop-number.reader c.take_into.new.self c.as_slice-clause.ensures.value c.deref.ensures.value c.in_ok-kind.ensures.next) (c.in_ok-take_step.ensures.answer (take n log) c.loop-number.invariant.taken) in
    absurd (apart c.in_ok-take_step.field-0 c.if-not-branch.true (sym answer ∙ refuted.derived n within))

pub returns-then-ends_empty-clause-refuted : goal.returns-then-ends_empty-clause-refuted
returns-then-ends_empty-clause-refuted c =
    let log = c.args.log.now in
    let i = c.loop-number.invariant in
    let all : length log ≤ c.loop-number.number = omega (arith, c.loop-number-test.false, c.len-number-end.ensures) in
    record {
      derived = λ k l. i.derived k (omega (arith, l, all));
      ends_empty = (ends_all log c.loop-number.number c.loop-number.ends_empty all i.ends).0 c.if-ends_empty.true;
    }

pub returns-clause-not_empty : goal.returns-clause-not_empty
returns-clause-not_empty c = λ told.
    let log = c.args.log.now in
    let i = c.loop-number.invariant in
    let all : length log ≤ c.loop-number.number = omega (arith, c.loop-number-test.false, c.len-number-end.ensures) in (
      λ k l. i.derived k (omega (arith, l, all)),
      λ ends. apart c.loop-number.ends_empty c.if-ends_empty.false ((ends_all log c.loop-number.number c.loop-number.ends_empty all i.ends).1 ends),
    )

pub returns-clause-accepted : goal.returns-clause-accepted
returns-clause-accepted c = λ refuted.
    let log = c.args.log.now in
    let all : length log ≤ c.loop-number.number = omega (arith, c.loop-number-test.false, c.len-number-end.ensures) in
    absurd (apart c.loop-number.ends_empty c.if-ends_empty.false ((ends_all log c.loop-number.number c.loop-number.ends_empty all c.loop-number.invariant.ends).1 refuted.ends_empty))
