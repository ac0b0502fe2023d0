use Rattle.std.proofs.Common.{◌≡◌, List, ℕ, ◌++◌, length, drop, sym, ap, ◌∙◌, append_assoc, false, rules}
use Rattle.sat_text.specs.Dimacs.{comment_line, problem_line, clause_lines}
use Rattle.sat_text.proofs.DimacsLines.{else_is}
use Rattle.sat_text.proofs.dimacs.Text.next.Goals as goal

pub returns-then-not-self-clause-some : goal.returns-then-not-self-clause-some
returns-then-not-self-clause-some c _ =
    let t = c.self.inside in
    let f = t.formula.now in
    let head = comment_line t.word.now t.horizon in
    let problem = problem_line f.variables (length f.clauses) in
    let lines = clause_lines (drop t.number f.clauses) in
    let unbegun : t.begun ≡ false = search rules in
    let said : c.push_head.new.text.items ≡ head ++ problem = search rules in
    sym c.self.view_is ∙ else_is t.begun lines (head ++ (problem ++ lines)) unbegun ∙ sym (append_assoc head problem lines) ∙ ap (λ (ys : List ℕ). ys ++ lines) (sym said)
