use Rattle.std.proofs.Common.{arith, ◌≡◌, ℕ, ◌+◌, ◌*◌, ◌/◌, ◌<◌, List, [], ◌∷◌}
use Rattle.std.specs.List.{AllByRecursion}
use Rattle.gt_core.specs.Literal.{opposite}
use Rattle.gt_core.specs.Task.{Effect}
use Rattle.gt_core.specs.Active.{EffectWithin}
use Rattle.gt_core.proofs.published.Literals.{half_opposite}

-- The literals of a lawful action are below an index's length.

pub takers_below : (facts n : ℕ) (es : List Effect) → n ≡ 2 * facts → AllByRecursion (EffectWithin facts) es → AllByRecursion (λ e. opposite e.literal < n) es
takers_below facts n [] e w = tt
takers_below facts n (d ∷ es) e w = (let h = half_opposite d.literal in let l = w.0.literal in omega (arith, h, l, e), takers_below facts n es e w.1)

pub readers_below : (facts n : ℕ) (ls : List ℕ) → n ≡ 2 * facts → AllByRecursion (λ l. l / 2 < facts) ls → AllByRecursion (λ l. l < n) ls
readers_below facts n [] e w = tt
readers_below facts n (l ∷ ls) e w = (let h = w.0 in omega (arith, h, e), readers_below facts n ls e w.1)

facts_below : (facts n : ℕ) (ls : List ℕ) → n ≡ 2 * facts → AllByRecursion (λ l. l / 2 < facts) ls → AllByRecursion (λ c. 2 * (c / 2) + 1 < n) ls
facts_below facts n [] e w = tt
facts_below facts n (l ∷ ls) e w = (let h = w.0 in omega (arith, h, e), facts_below facts n ls e w.1)

pub conditions_below : (facts n : ℕ) (es : List Effect) → n ≡ 2 * facts → AllByRecursion (EffectWithin facts) es → AllByRecursion (λ e. AllByRecursion (λ c. 2 * (c / 2) + 1 < n) e.condition) es
conditions_below facts n [] e w = tt
conditions_below facts n (d ∷ es) e w = (facts_below facts n d.condition e w.0.condition, conditions_below facts n es e w.1)
