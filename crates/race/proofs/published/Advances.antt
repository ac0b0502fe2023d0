use Rattle.std.proofs.Common.{arith, false, Vec, Global, ◌≡◌, ℕ, suc, ◌+◌, ◌-◌, ◌≤◌, min, List, [], ◌∷◌, map, length, refl, sym, ap, ◌∙◌, subst}
use Rattle.std.specs.List.{AllByRecursion}
use Rattle.horizon_rates.specs.declared.rates.Rates.{Rates}
use Rattle.horizon_rates.specs.Quotas.{quota_at}
use Rattle.horizon_run.specs.Run.{RunView}
use Rattle.horizon_rates.specs.Horizons.{horizon_at}
use Rattle.horizon_rates.specs.Window.{WindowState}
use Rattle.horizon_rates.specs.Ledger.{Account, left_of, SumsToBudget}
use Rattle.race.specs.Begun.{race_after, IsGranted}
use Rattle.race.specs.Grants.{raised, grants, advanced}
use Rattle.race.specs.Input.{RaceInput}
use Rattle.race.specs.Lines.{IsLine}
use Rattle.race.specs.Runs.{live_run_of, horizon_of, IsRunOf, AreLow, moved_all, conflicts_of, Fits}
use Rattle.race.specs.State.{conflicts_used, spent}
use Rattle.race.specs.Tied.{race_state, IsTied, KeepsBooks}
use Rattle.race_outcome.specs.Ends.{line_view, conflicts_in}
use Rattle.race.specs.declared.begun.Begun.{Begun}
use Rattle.race.specs.declared.racing.Racing.{Racing}
use Rattle.race_outcome.specs.declared.line.Line.{Line}
use Rattle.race.proofs.published.Starts.{same-race}

pub used-runs : (rs : List RunView) → conflicts_used (map live_run_of rs) ≡ conflicts_of rs
used-runs [] = refl
used-runs (r ∷ rs) = ap (λ (n : ℕ). r.state.conflicts + n) (used-runs rs)

-- races with the same ledger and the same lines have used as much
pub used-same : (input : RaceInput) (old new : Racing) → IsTied input old → IsTied input new → KeepsBooks old new
    → conflicts_of old.runs.items ≡ conflicts_of new.runs.items
used-same input old new t s k =
    let spent = ap (λ (a : Account). a.spent) k.ledger in
    let lines = ap (λ ls. conflicts_in (map line_view ls.items)) k.lines in
    let u = used-runs old.runs.items in
    let v = used-runs new.runs.items in
    omega (arith, spent, lines, t.spent, s.spent, u, v)

pub length-runners : (rs : List RunView) → length (map live_run_of rs) ≡ length rs
length-runners [] = refl
length-runners (r ∷ rs) = ap suc (length-runners rs)

pub length-horizons : (rs : List RunView) → length (map horizon_of rs) ≡ length rs
length-horizons [] = refl
length-horizons (r ∷ rs) = ap suc (length-horizons rs)

pub raise : (input : RaceInput) (rs : List RunView) (gs : List ℕ) → AllByRecursion (IsRunOf input) rs
    → map live_run_of (moved_all rs gs) ≡ raised input (map live_run_of rs) gs
raise input [] gs a = refl
raise input (r ∷ rs) [] a = refl
raise input (r ∷ rs) (g ∷ gs) a = rw (a.0.chosen, a.0.formula, raise input rs gs a.1) refl

pub moved-horizons : (rs : List RunView) (gs : List ℕ) → map horizon_of (moved_all rs gs) ≡ map horizon_of rs
moved-horizons [] gs = refl
moved-horizons (r ∷ rs) [] = refl
moved-horizons (r ∷ rs) (g ∷ gs) = ap (λ (xs : List ℕ). r.formula.name ∷ xs) (moved-horizons rs gs)

pub moved-runs : (input : RaceInput) (rs : List RunView) (gs : List ℕ) → AllByRecursion (IsRunOf input) rs
    → AllByRecursion (IsRunOf input) (moved_all rs gs)
moved-runs input [] gs a = tt
moved-runs input (r ∷ rs) [] a = a
moved-runs input (r ∷ rs) (g ∷ gs) a =
    (record { chosen = a.0.chosen; formula = a.0.formula; low = a.0.low; small = a.0.small; moved = refl; reached = a.0.reached }, moved-runs input rs gs a.1)

pub fits-grants : (rates : Rates) (rs : List RunView) (place left : ℕ) → AreLow rs → left ≤ 1000000 → Fits rs (grants rates place left (length rs))
fits-grants rates [] place left a l = tt
fits-grants rates (r ∷ rs) place left a l =
    let h = a.0.granted in
    (omega arith, fits-grants rates rs (place + 1) (left - min (quota_at rates place) left) a.1 (omega arith))

-- the race whose runs were advanced
pub race-advanced : (input : RaceInput) (racing : Racing) (runs : List RunView) (gs : List ℕ) (begun : Begun) → IsTied input racing
    → IsGranted input racing runs gs begun → race_after begun (moved_all runs gs) ≡ advanced input (race_state racing)
unfolding advanced
race-advanced input racing runs gs begun t out =
    let left = left_of racing.ledger in
    let same : length racing.runs.items ≡ length (map live_run_of racing.runs.items) = sym (length-runners racing.runs.items) in
    let less : left ≡ input.budget - spent (race_state racing) = omega (arith, t.aside, t.spent, t.budget) in
    let gs_are : gs ≡ grants input.rates 0 (input.budget - spent (race_state racing)) (length (map live_run_of racing.runs.items)) = out.grants_are ∙ (ap (λ (n : ℕ). grants input.rates 0 n (length racing.runs.items)) less ∙ ap (λ (n : ℕ). grants input.rates 0 (input.budget - spent (race_state racing)) n) same) in
    same-race (ap (λ (rs : List RunView). map live_run_of (moved_all rs gs)) out.runs_are ∙ (raise input racing.runs.items gs t.runs ∙ ap (raised input (map live_run_of racing.runs.items)) gs_are)) (ap (λ (w : WindowState). w.next) out.window) (ap (λ (ls : Vec Line Global). map line_view ls.items) out.lines)

-- and its parts still fit together
pub tied-advanced : (input : RaceInput) (racing racing' : Racing) (gs : List ℕ) → IsTied input racing → racing'.window ≡ racing.window
    → racing'.lines.items ≡ racing.lines.items → racing'.last ≡ racing.last → racing'.runs.items ≡ moved_all racing.runs.items gs
    → racing'.ledger.set_aside ≡ 0 → racing'.ledger.budget ≡ racing.ledger.budget
    → racing'.ledger.spent + conflicts_of racing.runs.items ≡ racing.ledger.spent + conflicts_of racing'.runs.items → SumsToBudget racing'.ledger
    → IsTied input racing'
tied-advanced input racing racing' gs t window lines last moved aside budget spent sums =
    let next = ap (λ (w : WindowState). w.next) window in
    let used = used-runs racing.runs.items in
    let used' = used-runs racing'.runs.items in
    let closed = ap (λ (ls : List Line). conflicts_in (map line_view ls)) lines in
    record {
      rates = ap (λ (w : WindowState). w.rates) window ∙ t.rates;
      live = ap (λ (w : WindowState). w.live) window ∙ (t.live ∙ (sym (moved-horizons racing.runs.items gs) ∙ ap (map horizon_of) (sym moved)));
      last = last ∙ (t.last ∙ ap (λ (n : ℕ). horizon_at input.rates (n - 1)) (sym next));
      budget = budget ∙ t.budget;
      aside = aside;
      spent = omega (arith, spent, t.spent, used, used', closed);
      within = omega (arith, sums, budget, t.budget);
      small = t.small;
      runs = subst (AllByRecursion (IsRunOf input)) (sym moved) (moved-runs input racing.runs.items gs t.runs);
      lines = subst (AllByRecursion (IsLine input)) (sym lines) t.lines;
    }

pub length-moved : (rs : List RunView) (gs : List ℕ) → length (moved_all rs gs) ≡ length rs
length-moved [] gs = refl
length-moved (r ∷ rs) [] = refl
length-moved (r ∷ rs) (g ∷ gs) = ap suc (length-moved rs gs)

pub sound-runs : (input : RaceInput) (rs : List RunView) → AllByRecursion (IsRunOf input) rs → AllByRecursion (λ (r : RunView). r.spoilt ≡ false) rs
sound-runs input [] a = tt
sound-runs input (r ∷ rs) a = (ap (λ (x : RunView). x.spoilt) a.0.moved, sound-runs input rs a.1)
