use Rattle.std.proofs.Common.{arith, ◌≡◌, ◌∙◌, refl, sym, ap, true, ℕ, List}
use Rattle.horizon_rates.specs.Window.{IsEnded}
use Rattle.race.specs.Found.{lines}
use Rattle.race.specs.State.{spent}
use Rattle.race.specs.Race.{Ended}
use Rattle.race.specs.Tied.{IsTied, race_state}
use Rattle.race_outcome.specs.Ends.{LineView, Exhausted, Unfinished}
use Rattle.race.proofs.published.Ends.{ended, unended, settled-exhausted, settled-unfinished, settled-on}
use Rattle.race.proofs.racing.Racing.settle.Goals as goal

pub returns-then-ended : goal.returns-then-ended
returns-then-ended g c =
    let r = c.args.self in
    let t : IsTied g.input r = c.requires.0 in
    let e = ended g.input r t (c.ended.ensures.0 c.if-ended.true) in
    record {
      stands = record {
        told = settled-exhausted g.input (race_state r) e ∙ (ap (λ (h : ℕ). Ended (Exhausted h (lines (race_state r)))) (sym t.last) ∙ ap (λ (es : List LineView). Ended (Exhausted r.last es)) (sym c.in_ok-lines.ensures.told));
        lines = c.in_ok-lines.ensures.lines;
        sums = let s = c.in_ok-lines.ensures.sums in omega (arith, s, t.within);
        modelled = tt;
      };
      rounds = tt;
    }

pub returns-then-spent-settings : goal.returns-then-spent-settings
returns-then-spent-settings g c =
    let r = c.args.self in
    let t : IsTied g.input r = c.requires.0 in
    let no : IsEnded r.window → ⊥ = λ x. let y : c.ended.result ≡ true = c.ended.ensures.1 x in let z = c.if-ended.false in cc in
    let e = unended g.input r t no in
    let full : spent (race_state r) ≡ g.input.budget = sym t.spent ∙ (sym c.spent.ensures.value ∙ (c.if-spent-settings.true ∙ sym c.requires.1.1)) in
    record {
      stands = record {
        told = settled-unfinished g.input (race_state r) e full ∙ ap (λ (es : List LineView). Ended (Unfinished es)) (sym c.in_ok-lines-2.ensures.told);
        lines = c.in_ok-lines-2.ensures.lines;
        sums = c.in_ok-lines-2.ensures.sums ∙ (t.spent ∙ full);
        modelled = tt;
      };
      rounds = tt;
    }

pub returns : goal.returns
returns g c =
    let r = c.args.self in
    let t : IsTied g.input r = c.requires.0 in
    let no : IsEnded r.window → ⊥ = λ x. let y : c.ended.result ≡ true = c.ended.ensures.1 x in let z = c.if-ended.false in cc in
    let e = unended g.input r t no in
    let some : spent (race_state r) ≡ g.input.budget → ⊥ = λ f. c.if-spent-settings.false (c.spent.ensures.value ∙ (t.spent ∙ (f ∙ c.requires.1.1))) in
    record { stands = record { on = settled-on g.input (race_state r) e some; tied = t; low = c.requires.1.0 }; rounds = refl }
