use Rattle.std.specs.Prelude.{◌≡◌, ℕ, ◌<◌, ◌==◌, List, Bool, true, false}
use Rattle.gt_core.specs.Literal.{is_in}
use Rattle.gt_core.specs.Task.{Task}
use Rattle.gt_core.specs.Interference.{disables}
use Rattle.gt_core.specs.Published.{Pairwise}
use Rattle.gt_core.specs.Step.{IsStep, IsStepPlan}

-- no member of a set disables another
abbrev pub NoneDisables : Task → (ℕ → Bool) → Type 0
NoneDisables task members = (a b : ℕ) → members a ≡ true → members b ≡ true → disables task a b ≡ false

-- a step in which no member disables another, so that its members run in every order (all-steps, Rintanen, Heljanko and
-- Niemelä 2006)
pub record IsAllStep (task : Task) (order : List ℕ) (s members t : ℕ → Bool) : Type 0 where
  pub step : IsStep task order s members t
  pub none : NoneDisables task members

-- a step plan of n steps, in each of which no member disables another
pub record IsAllStepPlan (task : Task) (order : List ℕ) (steps : ℕ → ℕ → Bool) (n : ℕ) : Type 0 where
  pub plan : IsStepPlan task order steps n
  pub none : (t : ℕ) → t < n → NoneDisables task (steps t)

-- a list has each member of a set once, and nothing else
pub record HasMembersOnce (members : ℕ → Bool) (ks : List ℕ) : Type 0 where
  pub all : (a : ℕ) → members a ≡ true → is_in ks a ≡ true
  pub only : (a : ℕ) → is_in ks a ≡ true → members a ≡ true
  pub once : Pairwise (λ a b. (a == b) ≡ false) ks
