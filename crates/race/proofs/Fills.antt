-- A race whose list of runs was moved is the same race.
use Rattle.std.proofs.Common.{◌≡◌, ◌≤◌, ◌∙◌, sym, ap, subst, map}
use Rattle.std.specs.List.{AllByRecursion}
use Rattle.horizon_rates.specs.Window.{WindowState}
use Rattle.horizon_rates.specs.Ledger.{Account}
use Rattle.race_outcome.specs.Ends.{line_view}
use Rattle.race.specs.declared.racing.Racing.{Racing}
use Rattle.race.specs.Input.{RaceInput}
use Rattle.race.specs.own.Filling.{IsSame}
use Rattle.race.specs.Lines.{AreLines}
use Rattle.race.specs.Race.{last_started}
use Rattle.race.specs.Runs.{live_run_of, horizon_of, IsRunOf}
use Rattle.race.specs.State.{spent}
use Rattle.race.specs.Tied.{race_state, IsTied, KeepsBooks}
use Rattle.race.proofs.published.Starts.{same-race}

pub same-state : (old new : Racing) → IsSame old new → race_state new ≡ race_state old
same-state old new s =
    same-race (ap (map live_run_of) s.runs) (ap (λ (w : WindowState). w.next) s.window) (ap (λ ls. map line_view ls.items) s.lines)

pub same-tied : (input : RaceInput) (old new : Racing) → IsSame old new → IsTied input old → IsTied input new
same-tied input old new s t =
    let state = same-state old new s in
    record {
      rates = ap (λ (w : WindowState). w.rates) s.window ∙ t.rates;
      live = ap (λ (w : WindowState). w.live) s.window ∙ t.live ∙ ap (map horizon_of) (sym s.runs);
      last = s.last ∙ t.last ∙ ap (last_started input) (sym state);
      budget = ap (λ (a : Account). a.budget) s.ledger ∙ t.budget;
      aside = ap (λ (a : Account). a.set_aside) s.ledger ∙ t.aside;
      spent = ap (λ (a : Account). a.spent) s.ledger ∙ t.spent ∙ ap spent (sym state);
      within = subst (λ (a : Account). a.spent ≤ input.budget) (sym s.ledger) t.within;
      small = t.small;
      runs = subst (AllByRecursion (IsRunOf input)) (sym s.runs) t.runs;
      lines = subst (λ ls. AreLines input ls.items) (sym s.lines) t.lines;
    }

pub same-books : (old new after : Racing) → IsSame old new → KeepsBooks new after → KeepsBooks old after
same-books old new after s k = record { ledger = k.ledger ∙ s.ledger; lines = k.lines ∙ s.lines; rounds = k.rounds ∙ s.rounds }
