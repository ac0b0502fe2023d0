-- What a round grants and uses, in numbers.
use Rattle.std.proofs.Common.{arith, ◌≡◌, ℕ, ◌+◌, ◌-◌, ◌≤◌, List, ap}
use Rattle.std.specs.List.{AllByRecursion}
use Rattle.horizon_rates.specs.Ledger.{Account, left_of, SumsToBudget}
use Rattle.horizon_run.specs.Run.{RunView}
use Rattle.race.specs.Input.{RaceInput}
use Rattle.race.specs.Runs.{IsRunOf, total, conflicts_of, moved_all, IsBooked}
use Rattle.race.proofs.Spends.{by_grants}

pub booked : (input : RaceInput) (rs rs' : List RunView) (gs : List ℕ) (l m : Account) (left left' before after : ℕ)
    → AllByRecursion (IsRunOf input) rs → l.set_aside ≡ 0 → l.budget ≤ 1000000 → m ≡ record l { set_aside = l.set_aside + total gs }
    → SumsToBudget l → SumsToBudget m → left ≡ left_of l → left' ≡ left_of m
    → rs' ≡ moved_all rs gs → before ≡ conflicts_of rs → after ≡ conflicts_of rs' → IsBooked m.set_aside (left - left') before after
booked input rs rs' gs l m left left' before after runs none small is sums sums' a b moved e f =
    let budget = ap (λ (x : Account). x.budget) is in
    let spent = ap (λ (x : Account). x.spent) is in
    let aside = ap (λ (x : Account). x.set_aside) is in
    let bounds = by_grants input rs gs runs in
    let low = bounds.0 in
    let high = bounds.1 in
    let same = ap conflicts_of moved in
    record {
      rose = omega (arith, e, f, low, same);
      within = omega (arith, e, f, high, same, a, b, sums, sums', budget, spent, aside, none);
      few = omega (arith, a, sums, small);
      aside = omega (arith, a, b, sums, sums', budget, spent, aside, none);
    }
