use Rattle.std.proofs.Common.{◌≡◌, ◌==◌, ◌∙◌, ◌++◌, ℕ, List, length, refl, sym, ap, subst, rules}
use Rattle.std.proofs.lemmas.Bool.{eqb-true}
use Rattle.lrat_judge.proofs.Taking.{comes_at, ok_comes_at, none_left}
use Rattle.clause_base.specs.Formula.{Cnf, IsUnsatisfiable}
use Rattle.lrat_judge.specs.Judged.{Judged, IsRefutedBy}
use Rattle.lrat_judge.specs.Reached.{IsBefore}
use Rattle.lrat_judge.proofs.judge.Judge.take_end.Goals as goal

pub returns-then-is_empty-clause-refuted : goal.returns-then-is_empty-clause-refuted
returns-then-is_empty-clause-refuted c entries e =
    let same : c.self.inside.lines.formula ≡ c.args.self.now.formula = search rules in
    subst (λ (f : Cnf). IsUnsatisfiable f.clauses) same (c.take.ensures.refuted entries e)

pub returns-then-is_empty-clause-entries : goal.returns-then-is_empty-clause-entries
returns-then-is_empty-clause-entries c entries e =
    let same : c.self.inside.lines.formula ≡ c.args.self.now.formula = search rules in
    subst (λ (f : Cnf). IsRefutedBy f entries) same (c.take.ensures.entries entries e)

pub returns-clause-refuted : goal.returns-clause-refuted
returns-clause-refuted c entries e =
    let same : c.self.inside.lines.formula ≡ c.args.self.now.formula = search rules in
    subst (λ (f : Cnf). IsUnsatisfiable f.clauses) same (c.in_ok-verdict.ensures.refuted entries e)

pub returns-clause-entries : goal.returns-clause-entries
returns-clause-entries c entries e =
    let same : c.self.inside.lines.formula ≡ c.args.self.now.formula = search rules in
    subst (λ (f : Cnf). IsRefutedBy f entries) same (c.in_ok-verdict.ensures.entries entries e)

pub returns-then-is_empty-clause-comes : goal.returns-then-is_empty-clause-comes
returns-then-is_empty-clause-comes c known at count before =
    let b = subst (λ (v : Judged). IsBefore v known at count) (sym c.self.view_is) before in
    let h = c.take.ensures.comes known at count (record { stands = b.stands; at_is = b.at_is; count_is = b.count_is }) in
    let none = ap (λ (j : Judged). j.front) (sym c.self.view_is) ∙ none_left c.self.inside.front.items (eqb-true (length c.self.inside.front.items) 0 (ap (λ (front : List ℕ). length front == 0) (sym c.as_slice.ensures.value) ∙ (sym c.is_empty.ensures ∙ c.if-is_empty.true))) in
    let line = ap (λ (front : List ℕ). front ++ c.args.end.now) (sym none) in
    ok_comes_at c.take.result c.self.inside.lines.formula c.args.self.now.formula known at count c.args.end.now (c.args.self.now.front ++ c.args.end.now) c.take.new.self _ (ap (λ (j : Judged). j.formula) c.self.view_is) line refl refl refl refl refl h

pub returns-clause-comes : goal.returns-clause-comes
returns-clause-comes c known at count before =
    let b = subst (λ (v : Judged). IsBefore v known at count) (sym c.self.view_is) before in
    let h = c.in_ok-verdict.ensures.comes known at count (record { stands = b.stands; at_is = b.at_is; count_is = b.count_is }) in
    let line = c.deref.ensures.value ∙ (c.in_ok-extend_from_slice.ensures.items ∙ ap (λ (j : Judged). j.front ++ c.args.end.now) c.self.view_is) in
    comes_at c.self.inside.lines.formula c.args.self.now.formula known at count c.deref.result.now (c.args.self.now.front ++ c.args.end.now) c.in_ok-verdict.verdict c.take-2.new.self _ (ap (λ (j : Judged). j.formula) c.self.view_is) line refl refl refl refl refl h
