use Rattle.std.proofs.Common.{◌≡◌, ◌∙◌, Ok, refl, sym, ap, subst}
use Rattle.clause_base.specs.Formula.{Cnf, IsUnsatisfiable}
use Rattle.lrat_judge.specs.declared.verdict.Verdict.TheVariants.{Refuted}
use Rattle.lrat_judge.specs.Judged.{Judged, IsRefutedBy}
use Rattle.lrat_judge.proofs.Counted.{unsatisfiable_once, refuted_at, ended_refutes}
use Rattle.lrat_judge.specs.Reached.{IsBefore}
use Rattle.lrat_judge.proofs.Taking.{comes_at}
use Rattle.lrat_judge.proofs.Reading.{at_once, at_end, last_line}
use Rattle.lrat_judge.proofs.judge.Judge.finish.Goals as goal

pub returns-then-is_refuted-clause-refuted : goal.returns-then-is_refuted-clause-refuted
returns-then-is_refuted-clause-refuted c entries e = unsatisfiable_once c.args.self.now.formula (sym c.is_refuted.ensures ∙ c.if-is_refuted.true)

pub returns-then-is_refuted-clause-entries : goal.returns-then-is_refuted-clause-entries
returns-then-is_refuted-clause-entries c entries e = refuted_at c.args.self.now.formula entries (sym c.is_refuted.ensures ∙ c.if-is_refuted.true) e

pub returns-then-is_refuted-clause-verdict : goal.returns-then-is_refuted-clause-verdict
returns-then-is_refuted-clause-verdict c text read = at_once c.args.self.now.formula text (sym c.is_refuted.ensures ∙ c.if-is_refuted.true)

pub returns-clause-verdict : goal.returns-clause-verdict
returns-clause-verdict c text read =
    let b = subst (λ (v : Judged). IsBefore v read.known read.at read.count) (sym c.self.view_is) read.before in
    let h = c.in_ok-verdict.ensures.comes read.known read.at read.count (record { stands = b.stands; at_is = b.at_is; count_is = b.count_is }) in
    let front = c.deref.ensures.value ∙ ap (λ (j : Judged). j.front) c.self.view_is in
    let comes = comes_at c.self.inside.lines.formula c.args.self.now.formula read.known read.at read.count c.deref.result.now c.args.self.now.front c.in_ok-verdict.verdict c.take.new.self c.take.new.self (ap (λ (j : Judged). j.formula) c.self.view_is) front refl refl refl refl refl h in
    let all = last_line c.args.self.now c.take.new.self text c.in_ok-verdict.verdict _ _ read comes in
    c.ended.ensures ∙ at_end c.args.self.now.formula text c.in_ok-verdict.verdict (sym c.is_refuted.ensures ∙ c.if-is_refuted.false) all

pub returns-clause-refuted : goal.returns-clause-refuted
returns-clause-refuted c entries e =
    let is : c.ended.result ≡ Refuted entries = cc in
    subst (λ (f : Cnf). IsUnsatisfiable f.clauses) (ap (λ (j : Judged). j.formula) c.self.view_is) (c.in_ok-verdict.ensures.refuted entries (ap Ok (ended_refutes c.in_ok-verdict.verdict entries (sym c.ended.ensures ∙ is))))

pub returns-clause-entries : goal.returns-clause-entries
returns-clause-entries c entries e =
    let is : c.ended.result ≡ Refuted entries = cc in
    subst (λ (f : Cnf). IsRefutedBy f entries) (ap (λ (j : Judged). j.formula) c.self.view_is) (c.in_ok-verdict.ensures.entries entries (ap Ok (ended_refutes c.in_ok-verdict.verdict entries (sym c.ended.ensures ∙ is))))
