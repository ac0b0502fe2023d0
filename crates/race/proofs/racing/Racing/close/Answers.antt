use Rattle.std.proofs.Common.{◌≡◌, ◌∙◌, sym, ap, false, map, List}
use Rattle.horizon_run.specs.Run.{RunView}
use Rattle.race.specs.Clears.{any_refuted}
use Rattle.race.specs.Runs.{live_run_of}
use Rattle.race.proofs.Clears.{end-low, end-cleared}
use Rattle.race.proofs.racing.Racing.close.Goals as goal

pub returns-clause-low : goal.returns-clause-low
returns-clause-low g c =
    let none : any_refuted (map live_run_of c.closing.self.runs.items) ≡ false = ap (λ (rs : List RunView). any_refuted (map live_run_of rs)) (sym c.as_slice.ensures.value) ∙ (sym c.has_refuted.ensures ∙ c.closing-test.false) in
    end-low g.input c.closing.self c.closing.invariant.tied c.closing.invariant.unfound none

pub returns-clause-cleared : goal.returns-clause-cleared
returns-clause-cleared g c =
    let none : any_refuted (map live_run_of c.closing.self.runs.items) ≡ false = ap (λ (rs : List RunView). any_refuted (map live_run_of rs)) (sym c.as_slice.ensures.value) ∙ (sym c.has_refuted.ensures ∙ c.closing-test.false) in
    sym (end-cleared c.closing.self none) ∙ c.closing.invariant.cleared
