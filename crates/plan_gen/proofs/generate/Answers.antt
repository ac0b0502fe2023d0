use Rattle.std.proofs.Common.{◌≡◌, ◌≤◌, ℕ, List, length, rules, subst, sym}
use Rattle.plan_gen.specs.Task.{domain_of, problem_of}
use Rattle.plan_gen.proofs.Lengths.{domain_le, problem_le}
use Rattle.plan_gen.proofs.generate.Goals as goal
use Rattle.containers.specs.Limits.{most_bytes}

pub returns-clause-domain_fits : goal.returns-clause-domain_fits
returns-clause-domain_fits c =
    let is : c.of.result ≡ domain_of c.args.kind = search rules in
    subst (λ (t : List ℕ). length t ≤ most_bytes) (sym is) (domain_le c.args.kind)

pub returns-clause-problem_fits : goal.returns-clause-problem_fits
returns-clause-problem_fits c =
    let is : c.match-kind.problem.1 ≡ problem_of c.args.kind c.args.number = search rules in
    subst (λ (t : List ℕ). length t ≤ most_bytes) (sym is) (problem_le c.args.kind c.args.number c.requires.number_in_range.1)
