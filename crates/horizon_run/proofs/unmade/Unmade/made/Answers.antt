use Rattle.std.proofs.Common.{◌≡◌, sym, ap, ◌∙◌}
use Rattle.goal_choice.specs.Choice.{choice_by}
use Rattle.cdcl_defs.specs.Run.{start_of, after}
use Rattle.horizon_run.specs.Run.{reached}
use Rattle.horizon_run.proofs.Runs.{begins}
use Rattle.horizon_run.proofs.unmade.Unmade.made.Goals as goal

pub invariant_of-result : goal.invariant_of-result
invariant_of-result c =
    let s = c.in_ok-solver.solver in
    let is = c.in_ok-solver.ensures.start in
    let first : s.state ≡ start_of s.formula = ap (λ v. v.state) is ∙ ap start_of (sym (ap (λ v. v.formula) is)) in
    begins s.formula c.advance.new.self.formula s.chooser c.advance.new.self.chooser s.state c.advance.new.self.state c.advance.new.self.spoilt
    c.conflicts-sound.ensures.sound first c.in_ok-advance.ensures.after c.advance.ensures.formula c.advance.ensures.chooser

pub returns : goal.returns
returns c =
    let n = c.advance.new.self in
    let u = c.self.inside in
    let is = c.in_ok-solver.ensures.start in
    let formula : n.formula ≡ u.formula = c.advance.ensures.formula ∙ ap (λ v. v.formula) is in
    let means : n.chooser ≡ u.chooser = c.advance.ensures.chooser ∙ ap (λ v. v.chooser) is in
    let state : n.state ≡ reached (choice_by u.chooser) u.formula 0 = c.in_ok-advance.ensures.after ∙ ap (λ v. after (choice_by v.chooser) v.state 0) is in
    (λ i. record { formula = formula i; means = means i; state = state i; granted = 0; spoilt = c.in_ok-advance.ensures.sound i }) ∙ c.self.view_is
