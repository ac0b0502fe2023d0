use Rattle.std.proofs.Common.{◌≡◌, ◌+◌, ◌-◌, ◌++◌}
use Rattle.horizon_rates.specs.Ledger.{left_of}
use Rattle.race.specs.Grants.{grants}
use Rattle.race.specs.Runs.{total}
use Rattle.race.proofs.grant.grant_all.Given as goal

abbrev pub invariant-loop-place : goal.invariant-loop-place
invariant-loop-place l = record {
  granted : l.granted.items ++ grants l.rates l.place (left_of l.ledger) (l.count - l.place) ≡ grants l.rates 0 (left_of l.initial.ledger) l.count;
  aside : l.ledger ≡ record l.initial.ledger { set_aside = l.initial.ledger.set_aside + total l.granted.items };
}
