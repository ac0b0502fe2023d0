use Rattle.std.specs.Prelude.{◌≡◌, ℕ, ◌<◌, ◌≤◌, List, [], ◌∷◌, true, length, if◌then◌else◌}
use Rattle.gt_core.specs.Literal.{is_in}
use Rattle.gt_core.specs.Published.{order_of}
use Rattle.action_order.specs.own.Graph.{item}
use Rattle.gt_core.specs.Limits.{most_actions}

-- the name of the component in which an action stands: its first action, which is its least
abbrev pub name_in : List (List ℕ) → ℕ → ℕ
name_in [] a = a
name_in ([] ∷ rest) a = name_in rest a
name_in ((name ∷ ks) ∷ rest) a = if is_in (name ∷ ks) a then name else name_in rest a

-- what an order keeps beside its components: its actions one after the other, the place and the name of each
pub record IsOrder (components : List (List ℕ)) (order places names : List ℕ) : Type 0 where
  pub flat : order ≡ order_of components
  pub placed : (p : ℕ) → p < length order → (item order p < length places) × (item places (item order p) ≡ p)
  pub names_long : length names ≡ length places
  pub named : (a : ℕ) → is_in order a ≡ true → item names a ≡ name_in components a
  pub few : length components ≤ most_actions
  pub short : length order ≤ most_actions
