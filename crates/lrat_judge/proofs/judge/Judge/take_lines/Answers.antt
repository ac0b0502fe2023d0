use Rattle.std.proofs.Common.{◌≡◌, ◌∙◌, ◌++◌, ◌∷◌, [], ℕ, List, Ok, sym, ap, subst}
use Rattle.clause_base.specs.Formula.{Cnf, IsUnsatisfiable}
use Rattle.lrat_judge.specs.Judged.{IsRefutedBy, has_empty}
use Rattle.lrat_judge.specs.Verdicts.{verdict_of, last_part}
use Rattle.lrat_judge.specs.Reached.{HasRead}
use Rattle.lrat_judge.specs.declared.verdict.Verdict.TheVariants.{More}
use Rattle.sat_text.proofs.published.Texts.{text_on, text_longer}
use Rattle.lrat_judge.proofs.Reading.{ended, decided, went_on, held_on, ok_too_long}
use Rattle.lrat_judge.proofs.judge.Judge.take_lines.Goals as goal

pub returns-in_default-verdict : goal.returns-in_default-verdict
returns-in_default-verdict c = record {
  formula = c.take_end.ensures.formula ∙ c.loop-line.invariant.formula;
  refuted = λ entries e. subst (λ (f : Cnf). IsUnsatisfiable f.clauses) c.loop-line.invariant.formula (c.in_ok-verdict.ensures.refuted entries e);
  entries = λ entries e. subst (λ (f : Cnf). IsRefutedBy f entries) c.loop-line.invariant.formula (c.in_ok-verdict.ensures.entries entries e);
  verdict = λ text read ends more.
      let s = c.loop-line.invariant.read text read in
      let line = c.in-Some.ensures.some in
      let whole = ap (λ (t : List ℕ). t ++ more) (s.1 ∙ ap (λ (rest : List ℕ). s.0 ++ rest) line.1) ∙ text_longer s.0 c.in-Some.line.now c.in-Some.others.now more in
      let all = s.0 ++ (c.in-Some.line.now ++ 10 ∷ (c.in-Some.others.now ++ more)) in
      let said = ended c.loop-line.self c.take_end.new.self s.0 c.in-Some.line.now s.2 line.0 c.in_ok-verdict.verdict c.in_ok-verdict.ensures.comes (c.in-Some.others.now ++ more) (last_part all ∷ []) ends in
      let none = ap (λ (f : Cnf). has_empty f.clauses) c.loop-line.invariant.formula ∙ c.requires in
      decided c.loop-line.self.formula all c.in_ok-verdict.verdict none said ends
      ∙ (ap (λ (f : Cnf). verdict_of f all) c.loop-line.invariant.formula ∙ ap (verdict_of c.args.self.now.formula) (sym whole));
  read = λ text read e. absurd (c.in_default-verdict.not-More (let same : c.in_ok-verdict.verdict ≡ More = cc in same));
}

pub loop-line-preserved : goal.loop-line-preserved
loop-line-preserved c = record {
  formula = c.take_end.ensures.formula ∙ c.loop-line.invariant.formula;
  read = λ text read.
      let s = c.loop-line.invariant.read text read in
      let line = c.in-Some.ensures.some in
      let whole = s.1 ∙ ap (λ (rest : List ℕ). s.0 ++ rest) line.1 in (
        s.0 ++ (c.in-Some.line.now ++ 10 ∷ []),
        whole ∙ sym (text_on s.0 c.in-Some.line.now c.in-Some.others.now),
        went_on c.loop-line.self c.take_end.new.self s.0 c.in-Some.line.now s.2 line.0 c.in_ok-verdict.verdict c.in_ok-verdict.ensures.comes c.take_end.ensures.formula (c.in_ok-verdict.ensures.front (ap Ok c.in-More.is)) c.in-More.is,
      );
}

pub returns-clause-verdict : goal.returns-clause-verdict
returns-clause-verdict c text read = ok_too_long c.hold.result c.loop-line.self c.hold.new.self c.args.self.now.formula text c.args.piece.now c.loop-line.rest.now c.requires c.loop-line.invariant.formula (c.loop-line.invariant.read text read) c.in_default.ensures.none c.hold.ensures.long

pub returns-clause-read : goal.returns-clause-read
returns-clause-read c text read e =
    let s = c.loop-line.invariant.read text read in
    subst (λ (t : List ℕ). HasRead c.hold.new.self t) (sym s.1) (held_on c.loop-line.self c.hold.new.self s.0 c.loop-line.rest.now s.2 c.in_default.ensures.none (c.hold.ensures.held e))
