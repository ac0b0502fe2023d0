use Rattle.std.proofs.Common.{ℕ, ◌∙◌, ap, subst, IfOk, List}
use Rattle.std.proofs.lemmas.Result.{IfOk-weaker}
use Rattle.horizon_rates.specs.Ledger.{Account}
use Rattle.horizon_run.specs.Run.{RunView}
use Rattle.race.specs.Race.{judged}
use Rattle.race.specs.Runs.{moved_all}
use Rattle.race.specs.State.{RaceState}
use Rattle.race.specs.Tied.{race_state, Stands, SpendsMore, HasEnded}
use Rattle.race.proofs.Comes.{is-advanced}
use Rattle.race.proofs.Spends.{spends-step}
use Rattle.race.proofs.begun.Begun.judge.Goals as goal

pub returns-clause-stands : goal.returns-clause-stands
returns-clause-stands g c =
    subst (λ (race : RaceState). IfOk c.judge.result (λ step. Stands g.input step (judged g.input race))) c.close.ensures.state c.judge.ensures.stands

pub returns-clause-spends : goal.returns-clause-spends
returns-clause-spends g c =
    let h = c.requires.1.0 in
    let b = h.began in
    let moved = c.close.ensures.runs ∙ (h.moved ∙ (ap (λ (rs : List RunView). moved_all rs h.gs) b.out.runs_are ∙ ap (moved_all b.racing.runs.items) b.out.grants_are)) in
    IfOk-weaker c.judge.result (λ step. Stands g.input step (judged g.input (race_state c.close.result))) (SpendsMore c.args.self.ledger.spent)
    (λ step stands. spends-step g.input c.args.self.ledger.spent b.racing c.close.result step (ap (λ (a : Account). a.spent) b.out.ledger) b.tied b.low
    c.close.ensures.tied b.startable (c.close.ensures.state ∙ is-advanced g.input c.args.self c.args.runs.items h) moved stands)
    c.judge.ensures.stands

pub returns-clause-rounds : goal.returns-clause-rounds
returns-clause-rounds g c = subst (λ (n : ℕ). IfOk c.judge.result (HasEnded n)) c.close.ensures.rounds c.judge.ensures.rounds
