-- Settings with the same numbers are the same: each range has one proof at most.
use Rattle.std.proofs.Common.{◌≡◌, ◌≤◌, ap, subst}
use Rattle.std.proofs.Props.{props}
use Rattle.horizon_rates.specs.declared.settings.Settings.{Settings}
use Rattle.requests.specs.Seen.{Numbers, numbers}
use Rattle.horizon_rates.specs.Limits.{last_horizon}

abbrev RatesRanges : Numbers → Type 0
RatesRanges n =
    ((1 ≤ n.width) × (n.width ≤ 16)) × ((1 ≤ n.quota) × (n.quota ≤ 10000)) × ((1 ≤ n.percent) × (n.percent ≤ 99))
    × ((101 ≤ n.growth) × (n.growth ≤ 400)) × (n.start ≤ last_horizon) × (n.max ≤ last_horizon)

abbrev Ranges : Numbers → Type 0
Ranges n = RatesRanges n × (n.budget ≤ 1000000) × ((1 ≤ n.slice) × (n.slice ≤ 10000)) × ((1 ≤ n.workers) × (n.workers ≤ 16))

ranges_once : (n : Numbers) → IsProp (Ranges n)
ranges_once n = hlevel props

-- the settings with these numbers
settings_with : (n : Numbers) → Ranges n → Settings
settings_with n r = record {
  rates = record { algorithm = n.algorithm; width = n.width; width_in_range = r.0.0; quota = n.quota; quota_in_range = r.0.1; percent = n.percent; percent_in_range = r.0.2; growth = n.growth; growth_in_range = r.0.3; start = n.start; start_in_range = r.0.4; max = n.max; max_in_range = r.0.5 };
  budget = n.budget;
  budget_in_range = r.1;
  slice = n.slice;
  slice_in_range = r.2;
  workers = n.workers;
  workers_in_range = r.3;
}

abbrev ranges_of : (s : Settings) → Ranges (numbers s)
ranges_of s = (
  (s.rates.width_in_range, s.rates.quota_in_range, s.rates.percent_in_range, s.rates.growth_in_range, s.rates.start_in_range, s.rates.max_in_range),
  s.budget_in_range,
  s.slice_in_range,
  s.workers_in_range,
)

settled : (n m : Numbers) (e : n ≡ m) (r : Ranges n) (q : Ranges m) → settings_with n r ≡ settings_with m q
settled n m e r q = subst (λ (z : Numbers). (y : Ranges z) → settings_with n r ≡ settings_with z y) e (λ y. ap (settings_with n) (ranges_once n r y)) q

pub numbers_settle : (s t : Settings) → numbers s ≡ numbers t → s ≡ t
unfolding settings_with
numbers_settle s t e = settled (numbers s) (numbers t) e (ranges_of s) (ranges_of t)
