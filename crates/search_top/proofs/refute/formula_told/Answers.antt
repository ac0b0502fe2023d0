use Rattle.std.proofs.Common.{refl, ap, List, ℕ}
use Rattle.plan_endings.proofs.published.Stopped.{handed}
use Rattle.plan_endings.specs.declared.ending.Ending.TheVariants.{Listing}
use Rattle.search_top.specs.declared.ended.Ended.TheVariants.{Plain}
use Rattle.search_top.specs.Refuted.{too_large, formula}
use Rattle.search_top.proofs.refute.formula_told.Goals as goal

pub returns-in_err-formula : goal.returns-in_err-formula
returns-in_err-formula g c = handed Plain _ _ (λ end h. too_large end h refl) _ _ c.from_residual.ensures.1 c.in_err-formula.ensures.stops

pub returns : goal.returns
returns g c = formula c.in_ok-formula.formula c.in_ok-formula.ensures.formula (ap (λ (t : List ℕ). Plain (Listing t)) c.in_ok-text.ensures.text)
