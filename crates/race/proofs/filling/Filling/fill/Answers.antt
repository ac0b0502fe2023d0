use Rattle.std.proofs.Common.{◌≡◌, ◌∙◌, sym, ap, None}
use Rattle.race.specs.own.Filling.{racing_of}
use Rattle.race.specs.Starts.{filled}
use Rattle.race.specs.Tied.{race_state}
use Rattle.race.proofs.published.Starts.{fill-on, fill-off}
use Rattle.race.proofs.published.Advances.{length-runners}
use Rattle.race.proofs.filling.Filling.fill.Goals as goal

pub loop-horizon-preserved : goal.loop-horizon-preserved
loop-horizon-preserved g c =
    let at = sym c.in-Some.is ∙ c.startable.ensures.value in
    let now = c.in_ok-start.ensures.books in
    let before = c.loop-horizon.invariant.books in
    record {
      tied = c.in_ok-start.ensures.tied;
      low = c.in_ok-start.ensures.low;
      filled = ap (filled g.input) c.in_ok-start.ensures.started ∙ (sym (fill-on g.input (race_state (racing_of c.loop-horizon.self)) _ c.in-Some.horizon (sym (length-runners c.loop-horizon.self.runs.items)) at) ∙ c.loop-horizon.invariant.filled);
      books = record { ledger = now.ledger ∙ before.ledger; lines = now.lines ∙ before.lines; rounds = now.rounds ∙ before.rounds };
    }

pub returns-clause-filled : goal.returns-clause-filled
returns-clause-filled g c =
    let none : c.startable.result ≡ None = cc in
    let at = sym none ∙ c.startable.ensures.value in
    sym (fill-off g.input (race_state (racing_of c.loop-horizon.self)) _ (sym (length-runners c.loop-horizon.self.runs.items)) at) ∙ c.loop-horizon.invariant.filled
