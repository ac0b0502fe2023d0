use Rattle.std.proofs.Common.{arith, ◌≡◌, ℕ, ◌+◌, ◌-◌, suc, min, List, ◌++◌, ◌∙◌, ap}
use Rattle.horizon_rates.specs.Ledger.{left_of}
use Rattle.race.specs.Grants.{grants}
use Rattle.race.proofs.Grants.{grants-next, aside-next}
use Rattle.race.proofs.grant.grant_all.Goals as goal

pub loop-place-preserved : goal.loop-place-preserved
loop-place-preserved c =
    let l = c.loop-place in
    let g = c.grant.result in
    let more : c.args.count - l.place ≡ suc (c.args.count - (l.place + 1)) = omega arith in
    let quota = c.quota.ensures.value in
    let less : left_of c.grant.new.self ≡ left_of l.ledger - g = ap left_of c.grant.ensures.set_aside ∙ omega arith in
    record {
      granted =
          ap (λ (xs : List ℕ). xs ++ grants c.args.rates.now (l.place + 1) (left_of c.grant.new.self) (c.args.count - (l.place + 1))) c.in_ok-push.ensures.items
          ∙ (grants-next c.args.rates.now l.place (left_of l.ledger) (left_of c.grant.new.self) (c.args.count - l.place) (c.args.count - (l.place + 1)) g l.granted.items more (c.grant.ensures.granted ∙ ap (λ (q : ℕ). min q (left_of l.ledger)) quota) less ∙ l.invariant.granted);
      aside = aside-next c.args.ledger.now l.ledger c.grant.new.self l.granted.items c.push.new.self.items g l.invariant.aside c.grant.ensures.set_aside c.in_ok-push.ensures.items;
    }
