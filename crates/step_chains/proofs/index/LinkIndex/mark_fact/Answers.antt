use Rattle.std.proofs.Common.{◌≡◌, ◌==◌, ℕ, ◌+◌, ◌-◌, ◌*◌, ◌/◌, ◌%◌, ◌||◌, false, refl, ap, ◌∙◌, arith}
use Rattle.step_chains.proofs.IndexLaw.{marks_then, marks_same, fact_is}
use Rattle.step_chains.proofs.index.LinkIndex.mark_fact.Goals as goal

pub returns-clause-marks : goal.returns-clause-marks
returns-clause-marks c =
    let lit = c.args.lit in
    let add : lit - lit % 2 ≡ 2 * (lit / 2) = omega arith in
    marks_same c.args.a (λ m. false) (λ m. false) (λ m. (lit - lit % 2 == m) || (lit - lit % 2 + 1 == m)) (λ m. lit / 2 == m / 2) c.args.self.now c.mark_reader-2.new.self (λ m. refl)
    (λ m. ap (λ (k : ℕ). (k == m) || (k + 1 == m)) add ∙ fact_is (lit / 2) m)
    (marks_then c.args.a (λ m. false) (λ m. false) (λ m. lit - lit % 2 == m) (λ m. lit - lit % 2 + 1 == m) c.args.self.now c.mark_reader.new.self c.mark_reader-2.new.self c.in_ok-mark_reader.ensures.marks c.in_ok-mark_reader-2.ensures.marks)
