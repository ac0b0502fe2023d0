use Rattle.std.proofs.Common.{◌≡◌, ℕ, List, ◌∷◌, Option, Some, None}
use Rattle.std.specs.Prelude.{IfSome}
use Rattle.std.specs.List.{All}
use Rattle.std.specs.Ordering.{nat_cmp}
use Rattle.std.specs.BTreeMap.Range.{IsLtBy}
use Rattle.action_order.specs.own.KeySet.{IsFirst}
use Rattle.action_order.proofs.ReadyLaw.{first_key}
use Rattle.action_order.proofs.ready.take_first.Goals as goal

taken : (before after : List ℕ) (r : Option ℕ) → IfSome r (λ k. before ≡ k ∷ after) → IfSome r (λ k. All (IsLtBy nat_cmp k) after) → IfSome r (λ k. IsFirst before k after)
taken before after None e h = e
taken before after (Some k) e h = first_key before k after e h

pub returns-clause-first : goal.returns-clause-first
returns-clause-first c = taken _ _ c.pop_first.result c.pop_first.ensures.removal c.pop_first.ensures.all_above
