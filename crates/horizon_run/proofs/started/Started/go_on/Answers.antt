use Rattle.std.proofs.Common.{◌≡◌, ap, sym, subst, ◌∙◌}
use Rattle.horizon_run.specs.Run.{RunView, choice_in, AddsUp}
use Rattle.horizon_run.specs.own.Held.{run_in, IsOfLaws}
use Rattle.horizon_run.proofs.Begun.{on-any}
use Rattle.horizon_run.proofs.started.Started.go_on.Goals as goal

pub invariant_of-self : goal.invariant_of-self
invariant_of-self c =
    let laws : IsOfLaws c.args.self.now = record { reached_by = c.keeps_laws.ensures.reached; settled = c.keeps_laws.ensures.settled } in
    (c.self.invariant.0 ∙ sym (ap (λ (r : RunView). r.formula.name) c.take-held.ensures.left), c.take-held.ensures.laws (subst IsOfLaws (sym c.self.view_is) laws))

pub returns-clause-adds_up : goal.returns-clause-adds_up
returns-clause-adds_up c =
    let same = c.in_ok-run.ensures.made ∙ ap run_in c.take-held.ensures.taken ∙ c.self.view_is in
    on-any _ c.go_on-gone.result (subst (λ (r : RunView). AddsUp (choice_in r) r.formula) same c.go_on-gone.ensures.adds_up)

pub returns-clause-stays : goal.returns-clause-stays
returns-clause-stays c spoilt =
    let same : c.in_ok-run.run' ≡ c.args.self.now = c.in_ok-run.ensures.made ∙ ap run_in c.take-held.ensures.taken ∙ c.self.view_is in
    c.go_on-gone.ensures.stays (ap (λ (r : RunView). r.spoilt) same ∙ spoilt) ∙ same
