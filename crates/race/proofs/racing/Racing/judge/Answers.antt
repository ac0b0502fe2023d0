use Rattle.std.proofs.Common.{◌≡◌, ◌∙◌, sym, ap, subst, None, ℕ, List, map, IfOk}
use Rattle.horizon_run.specs.Run.{RunView}
use Rattle.race.specs.Found.{first_found}
use Rattle.race.specs.Race.{Stage, settled}
use Rattle.race.specs.Runs.{live_run_of}
use Rattle.race.specs.Tied.{race_state, Stands, HasEnded}
use Rattle.race.proofs.published.Ends.{judged-none}
use Rattle.race.proofs.racing.Racing.judge.Goals as goal

pub returns : goal.returns
returns g c =
    let none : first_found (map live_run_of c.args.self.runs.items) ≡ None = subst (λ (rs : List RunView). first_found (map live_run_of rs) ≡ None) c.as_slice.ensures.value c.in_default.ensures.none in
    let e = ap (settled g.input) c.in_ok-close.ensures.cleared ∙ sym (judged-none g.input (race_state c.args.self) none) in
    record { stands = subst (λ (stage : Stage). IfOk c.settle.result (λ step. Stands g.input step stage)) e c.settle.ensures.stands; rounds = subst (λ (n : ℕ). IfOk c.settle.result (HasEnded n)) c.in_ok-close.ensures.rounds c.settle.ensures.rounds }
