use Rattle.std.proofs.Common.{arith, rules, ◌≡◌, ◌≤◌, length, ◌∙◌, sym, ap, refl, subst}
use Rattle.horizon_rates.specs.declared.rates.Rates.{Rates}
use Rattle.horizon_rates.specs.Ledger.{left_of}
use Rattle.race.specs.Grants.{grants}
use Rattle.race.specs.Runs.{Fits}
use Rattle.race.proofs.published.Advances.{fits-grants, length-horizons, sound-runs}
use Rattle.race.proofs.filling.Filling.grant.Given.{Over}
use Rattle.race.proofs.filling.Filling.grant.Goals.{In_ok-grants}
use Rattle.race.proofs.filling.Filling.grant.Goals as goal

-- the grants are those of the definition
granted-by : (g : Over) (c : In_ok-grants g) → c.in_ok-grants.grants.items ≡ grants g.input.rates 0 (left_of c.args.self.ledger) (length c.args.self.runs.items)
granted-by g c =
    let r = c.args.self in
    let same : c.count-count.result ≡ length r.runs.items = c.count-count.ensures.value ∙ (ap length c.requires.0.live ∙ length-horizons r.runs.items) in
    c.in_ok-grants.ensures.grants ∙ (ap (grants c.args.rates.now 0 (left_of r.ledger)) same ∙ ap (λ (x : Rates). grants x 0 (left_of r.ledger) (length r.runs.items)) (sym c.requires.1.1.0))

-- so many runs as the window holds
few-runs : (g : Over) (c : In_ok-grants g) → length c.args.self.runs.items ≤ 16
few-runs g c =
    let w = c.count-count.ensures.window.within_width in
    let live = ap length c.requires.0.live ∙ length-horizons c.args.self.runs.items in
    let width = c.args.self.window.rates.width_in_range.1 in
    omega (arith, w, live, width)

pub returns-clause-granted : goal.returns-clause-granted
returns-clause-granted g c = record {
  runs_are = refl;
  grants_are = granted-by g (goal.at.returns-clause-granted g c).In_ok-grants;
  window = refl;
  last = refl;
  lines = refl;
  rounds = refl;
  ledger = c.in_ok-grants.ensures.aside;
  granted = search rules;
  used = c.requires.1.1.1;
  sums = c.left-left.ensures.sums;
  sums_now = c.left.ensures.sums;
  few = few-runs g (goal.at.returns-clause-granted g c).In_ok-grants;
}

pub returns-clause-out : goal.returns-clause-out
returns-clause-out g c =
    let r = c.args.self in
    let t = c.requires.0 in
    let small : left_of r.ledger ≤ 1000000 = omega (arith, t.budget, t.small) in
    record {
      fits = subst (Fits r.runs.items) (sym (granted-by g (goal.at.returns-clause-out g c).In_ok-grants)) (fits-grants g.input.rates r.runs.items 0 (left_of r.ledger) c.requires.1.0 small);
      few = few-runs g (goal.at.returns-clause-out g c).In_ok-grants;
      rising = search rules;
      sound = sound-runs g.input r.runs.items t.runs;
    }
