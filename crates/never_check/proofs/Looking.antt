-- What a look at one clause comes to.
use Rattle.std.proofs.Common.{◌≡◌, ◌<◌, ℕ, List, true, subst}
use Rattle.gt_core.specs.Literal.{opposite, is_in}
use Rattle.gt_core.proofs.published.Basics.{apart, each_at}
use Rattle.gt_core.proofs.published.Literals.{in_among}
use Rattle.never_defs.specs.Propagation.{IsLeft}
use Rattle.never_check.specs.declared.left.Left.TheVariants as left
use Rattle.never_check.specs.Left.{TellsLeft}
use Rattle.never_check.specs.Follow.{Obeys, AreBelow, IsGrown, IsContradiction}
use Rattle.never_check.proofs.Grown.{left_more, grown_same, grown_by}

module _ (old c : List ℕ) where
  pub one_below : (size u : ℕ) → AreBelow size c → TellsLeft (is_in old) c (left.One u) → u < size
  one_below size u below t = each_at (λ (l : ℕ). l < size) c u below (in_among c u t.0)

  pub looked_nothing : TellsLeft (is_in old) c left.Nothing → IsContradiction (λ set. Obeys set c) old
  looked_nothing t = λ set obeys has none.
      none 0 (obeys 0 (left_more (is_in old) set has c 0 (t 0))) (obeys 1 (left_more (is_in old) set has c 1 (t 1)))

  pub looked_clash : (u : ℕ) → TellsLeft (is_in old) c (left.One u) → is_in old (opposite u) ≡ true → IsContradiction (λ set. Obeys set c) old
  looked_clash u t h = absurd (apart _ h t.1)

  pub looked_one : (new : List ℕ) (u : ℕ) → TellsLeft (is_in old) c (left.One u) → IsGrown (λ set. set u ≡ true) old new × (is_in new u ≡ true)
      → IsGrown (λ set. Obeys set c) old new × ((l : ℕ) → IsLeft (is_in old) c l → is_in new l ≡ true)
  looked_one new u t added = (
    grown_by (λ set. Obeys set c) (λ set. set u ≡ true) old new (λ set obeys has. obeys u (left_more (is_in old) set has c u t.2)) added.0,
    λ l left. subst (λ (k : ℕ). is_in new k ≡ true) (t.3 l left) added.1,
  )

  pub looked_more : TellsLeft (is_in old) c left.More → IsGrown (λ set. Obeys set c) old old × ((l : ℕ) → IsLeft (is_in old) c l → is_in old l ≡ true)
  looked_more t = (grown_same (λ set. Obeys set c) old, λ l left. absurd (t l left))
