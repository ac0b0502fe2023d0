use Rattle.std.proofs.Common.{arith, ◌≡◌, ◌∷◌, ◌∙◌, List, length, drop, map, filter, nat_lt, length-drop, Contains, vec_len, ℕ, refl, sym, ap, subst, rules}
use Rattle.horizon_run.specs.Run.{RunView}
use Rattle.race.specs.Runs.{AreUnfound, horizon_of}
use Rattle.race.proofs.Clears.{IsClose, uncons, some-refuted, contains-first, live-close, tied-close, race-close, unfound-tail}
use Rattle.race.proofs.racing.Racing.close_first.Given.{Over}
use Rattle.race.proofs.racing.Racing.close_first.Goals.{In_ok-push-2}
use Rattle.race.proofs.racing.Racing.close_first.Goals as goal

pub remove-run-requires : goal.remove-run-requires
remove-run-requires g c =
    let long : vec_len c.args.self.now.runs ≡ length c.args.self.now.runs.items = search rules in
    let some = some-refuted c.args.self.now.runs.items c.requires.1.1 in
    omega (arith, long, some)

pub refute-requires : goal.refute-requires
refute-requires g c =
    let r = c.args.self.now in
    let run = c.remove-run.result in
    let runs = uncons r.runs.items run (some-refuted r.runs.items c.requires.1.1) c.remove-run.ensures.value in
    let live = live-close g.input r run (drop 1 r.runs.items) c.requires.0 runs in
    subst (λ (xs : List ℕ). Contains xs c.horizon-horizon.result) (sym live) (subst (λ (h : ℕ). Contains (run.formula.name ∷ map horizon_of (drop 1 r.runs.items)) h) (sym c.horizon-horizon.ensures) (contains-first run.formula.name (map horizon_of (drop 1 r.runs.items))))

-- the first run is closed
closes : (g : Over) (c : In_ok-push-2 g) → IsClose c.args.self.now (record c.args.self.now { window = c.refute.new.self; runs = c.remove-run.new.self; lines = c.push.new.self; ended = c.push-2.new.self }) c.remove-run.result (drop 1 c.args.self.now.runs.items) c.in_ok-line.line
closes g c =
    let r = c.args.self.now in
    record {
      runs = uncons r.runs.items c.remove-run.result (some-refuted r.runs.items c.requires.1.1) c.remove-run.ensures.value;
      runs' = c.remove-run.ensures.items;
      window = c.refute.ensures.removed ∙ ap (λ (h : ℕ). record r.window { live = filter (λ x. nat_lt h x) r.window.live }) c.horizon-horizon.ensures;
      last = refl;
      ledger = refl;
      lines = c.in_ok-push.ensures.items;
      told = c.in_ok-line.ensures.told;
    }

pub returns-clause-tied : goal.returns-clause-tied
returns-clause-tied g c =
    tied-close g.input _ _ _ _ _ c.requires.0 c.count-rising.ensures.window.rising (closes g (goal.at.returns-clause-tied g c).In_ok-push-2) c.in_ok-line.ensures.line

pub returns-clause-unfound : goal.returns-clause-unfound
returns-clause-unfound g c =
    let r = c.args.self.now in
    let run = c.remove-run.result in
    let runs = uncons r.runs.items run (some-refuted r.runs.items c.requires.1.1) c.remove-run.ensures.value in
    subst AreUnfound (sym c.remove-run.ensures.items) (unfound-tail r.runs.items (drop 1 r.runs.items) run runs c.requires.1.0).1

pub returns-clause-cleared : goal.returns-clause-cleared
returns-clause-cleared g c = race-close _ _ _ _ _ (closes g (goal.at.returns-clause-cleared g c).In_ok-push-2) c.requires.1.1

pub returns-clause-fewer : goal.returns-clause-fewer
returns-clause-fewer g c =
    let r = c.args.self.now in
    let some = some-refuted r.runs.items c.requires.1.1 in
    let same = ap (λ (xs : List RunView). length xs) c.remove-run.ensures.items in
    omega (arith, some, same, length-drop 1 r.runs.items)
