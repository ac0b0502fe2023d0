-- A command as a program makes it.
use Rattle.std.proofs.Common.{◌≡◌, List, Result, sym, subst}
use Rattle.std.specs.Prelude.{IfOk}
use Rattle.std.proofs.lemmas.Result.{IfOk-weaker}
use Rattle.clap.specs.Walk.{Row}
use Rattle.clap.specs.Simple.{App}
use Rattle.requests.specs.Fit.{IsFit}
use Rattle.requests.specs.Passed.{Passed}
use Rattle.requests.specs.Same.{IsSame}

-- what is shown of a command by its arguments holds of the one that is made
pub made : {C E : Type 0} (app_of : C → App) (r : Result C E) (app fixed : App) (has : List Row → Type 0) → IfOk r (λ c. app_of c ≡ app) → IsFit app → IsSame app fixed
    → ((rows : List Row) → Passed app.top.rules rows → has rows)
    → IfOk r (λ c. IsFit (app_of c)) × IfOk r (λ c. IsSame (app_of c) fixed) × IfOk r (λ c. (rows : List Row) → Passed (app_of c).top.rules rows → has rows)
made app_of r app fixed has is fit same values = (
  IfOk-weaker r _ _ (λ c e. subst IsFit (sym e) fit) is,
  IfOk-weaker r _ _ (λ c e. subst (λ (a : App). IsSame a fixed) (sym e) same) is,
  IfOk-weaker r _ _ (λ c e rows passed. values rows (subst (λ (a : App). Passed a.top.rules rows) e passed)) is,
)
