use Rattle.std.proofs.Common.{◌≡◌, ◌∙◌, ℕ, Bool, true, sym, ap, Ok, subst, arith, rules}
use Rattle.sat_text.specs.LratLine.{line_of}
use Rattle.lrat_judge.specs.Judged.{Judged}
use Rattle.lrat_judge.specs.Follow.{follow}
use Rattle.lrat_judge.specs.declared.verdict.Verdict.TheVariants.{TooLong}
use Rattle.lrat_judge.specs.Reached.{IsBefore, Stands}
use Rattle.lrat_judge.proofs.Taking.{unread_comes, rejected_comes, refuted_comes, more_comes, line_comes, long_comes}
use Rattle.clause_base.specs.Formula.{Cnf, IsUnsatisfiable}
use Rattle.lrat_judge.proofs.Counted.{refuted_by}
use Rattle.lrat_judge.proofs.lines.Lines.take.Goals as goal

pub returns-then-is_refuted-clause-refuted : goal.returns-then-is_refuted-clause-refuted
returns-then-is_refuted-clause-refuted c _ _ =
    let same : c.take_read.new.checker.formula ≡ c.args.self.now.formula = search rules in
    subst (λ (f : Cnf). IsUnsatisfiable f.clauses) same (c.is_refuted.ensures.unsatisfiable c.if-is_refuted.true)

pub returns-then-is_refuted-clause-entries : goal.returns-then-is_refuted-clause-entries
returns-then-is_refuted-clause-entries c entries e =
    let same : c.take_read.new.checker.formula ≡ c.args.self.now.formula = search rules in
    let refuted : c.take_read.new.checker.refuted ≡ true = sym c.is_refuted.ensures.value ∙ c.if-is_refuted.true in
    let count : c.take_read.new.entries ≡ entries = cc in
    refuted_by c.take_read.new.checker c.args.self.now.formula c.take_read.new.entries entries c.take_read.ensures.counted refuted same count

pub returns-then-is_long-clause-comes : goal.returns-then-is_long-clause-comes
returns-then-is_long-clause-comes c known at count before =
    let b = subst (λ (v : Judged). IsBefore v known at count) (sym c.self.view_is) before in
    let number = b.count_is in
    long_comes c.args.self.now.formula known at count c.args.bytes.now _ _ _ _ (sym c.is_long.ensures ∙ c.if-is_long.true) (ap (λ (k : ℕ). TooLong k) (omega (arith, number)))

pub returns-then-not-branch-clause-comes : goal.returns-then-not-branch-clause-comes
returns-then-not-branch-clause-comes c known at count before =
    let b = subst (λ (v : Judged). IsBefore v known at count) (sym c.self.view_is) before in
    let number = b.count_is in
    let place = b.at_is in
    line_comes c.args.self.now.formula known at count c.args.bytes.now _ _ _ _ (sym c.is_long.ensures ∙ c.if-is_long.false)
    (unread_comes c.args.self.now.formula known at count _ _ _ _ (line_of c.args.bytes.now) _ c.self.inside.at (c.in_ok-read.ensures.none (ap Ok c.if-not-branch.true)) c.unread.ensures b.at_is b.stands (omega (arith, place)) (omega (arith, number)))

pub returns-then-not-branch-2-clause-comes : goal.returns-then-not-branch-2-clause-comes
returns-then-not-branch-2-clause-comes c known at count before =
    let b = subst (λ (v : Judged). IsBefore v known at count) (sym c.self.view_is) before in
    let line = c.in_ok-read.ensures.line (ap Ok c.if-not-branch.false) in
    let stands = c.in_ok-take_read.ensures.exact known line.0 b.stands line.2 in
    let not_so = subst (λ (answer : Bool). Stands answer c.take_read.new.checker c.take_read.new.ids c.take_read.new.entries (follow c.self.inside.checker.formula known line.0)) c.if-not-branch-2.true stands in
    let number = b.count_is in
    line_comes c.args.self.now.formula known at count c.args.bytes.now _ _ _ _ (sym c.is_long.ensures ∙ c.if-is_long.false)
    (rejected_comes c.args.self.now.formula known at count _ _ _ _ (line_of c.args.bytes.now) line.0 c.self.inside.checker.formula c.take_read.new.checker c.take_read.new.ids c.take_read.new.entries c.saturating_add-self-inside-2.result
    line.1 (ap (λ (j : Judged). j.formula) c.self.view_is) not_so (omega (arith, number)))

pub returns-then-is_refuted-clause-comes : goal.returns-then-is_refuted-clause-comes
returns-then-is_refuted-clause-comes c known at count before =
    let b = subst (λ (v : Judged). IsBefore v known at count) (sym c.self.view_is) before in
    let line = c.in_ok-read.ensures.line (ap Ok c.if-not-branch.false) in
    let stands = c.in_ok-take_read.ensures.exact known line.0 b.stands line.2 in
    let so = subst (λ (answer : Bool). Stands answer c.take_read.new.checker c.take_read.new.ids c.take_read.new.entries (follow c.self.inside.checker.formula known line.0)) c.if-not-branch-2.false stands in
    line_comes c.args.self.now.formula known at count c.args.bytes.now _ _ _ _ (sym c.is_long.ensures ∙ c.if-is_long.false)
    (refuted_comes c.args.self.now.formula known at count _ _ _ _ (line_of c.args.bytes.now) line.0 c.self.inside.checker.formula c.take_read.new.checker c.take_read.new.ids c.take_read.new.entries
    line.1 (ap (λ (j : Judged). j.formula) c.self.view_is) so (sym c.is_refuted.ensures.value ∙ c.if-is_refuted.true))

pub returns-clause-comes : goal.returns-clause-comes
returns-clause-comes c known at count before =
    let b = subst (λ (v : Judged). IsBefore v known at count) (sym c.self.view_is) before in
    let line = c.in_ok-read.ensures.line (ap Ok c.if-not-branch.false) in
    let stands = c.in_ok-take_read.ensures.exact known line.0 b.stands line.2 in
    let so = subst (λ (answer : Bool). Stands answer c.take_read.new.checker c.take_read.new.ids c.take_read.new.entries (follow c.self.inside.checker.formula known line.0)) c.if-not-branch-2.false stands in
    let number = b.count_is in
    let place = b.at_is in
    line_comes c.args.self.now.formula known at count c.args.bytes.now _ _ _ _ (sym c.is_long.ensures ∙ c.if-is_long.false)
    (more_comes c.args.self.now.formula known at count _ _ _ _ (line_of c.args.bytes.now) line.0 c.self.inside.checker.formula
    line.1 (ap (λ (j : Judged). j.formula) c.self.view_is) so (sym c.is_refuted.ensures.value ∙ c.if-is_refuted.false) (omega (arith, place)) (omega (arith, number)))
