-- What actions need and do, copied flat.
use Rattle.std.specs.Prelude.{◌≡◌, ℕ, ◌+◌, ◌*◌, ◌<◌, List, [], ◌∷◌, ◌++◌, Bool, true, false, Some, length, slice_get, slice_index_or}
use Rattle.std.specs.List.{AllByRecursion, list_any}
use Rattle.gt_core.specs.Literal.{is_in}
use Rattle.gt_core.specs.Task.{Effect, Action, Task, action}
use Rattle.gt_core.specs.Active.{is_active}
use Rattle.successors.specs.declared.moves.Moves.{Moves}

-- facts of effects: in any state these effects add just these facts (delete, where the rest is 1), which are some of so many
pub record AreMade (facts : ℕ) (es : List Effect) (rest : ℕ) (fs : List ℕ) : Type 0 where
  pub within : AllByRecursion (λ f. f < facts) fs
  pub made : (s : ℕ → Bool) (f : ℕ) → list_any (is_active s (2 * f + rest)) es ≡ is_in fs f

-- the copy of an action: what it needs, and, where no effect has a condition, what it deletes and what it adds
pub record IsMove (facts : ℕ) (x : Action) (plain : Bool) (needs deletes adds : List ℕ) : Type 0 where
  pub needing : needs ≡ x.precondition
  pub deleting : plain ≡ true → AreMade facts x.effects 1 deletes
  pub adding : plain ≡ true → AreMade facts x.effects 0 adds

-- one action more was copied
pub record IsAdded (facts : ℕ) (x : Action) (old now : Moves) : Type 0 where
  pub plain : Bool
  pub needs : List ℕ
  pub deletes : List ℕ
  pub adds : List ℕ
  pub is : IsMove facts x plain needs deletes adds
  pub plains : now.plain.items ≡ old.plain.items ++ plain ∷ []
  pub lists : now.lists ≡ ((old.lists ++ needs ∷ []) ++ deletes ∷ []) ++ adds ∷ []

-- the copy of the action with a number
pub record IsMoveAt (task : Task) (m : Moves) (a : ℕ) : Type 0 where
  pub needs : List ℕ
  pub deletes : List ℕ
  pub adds : List ℕ
  pub is : IsMove task.facts (action task a) (slice_index_or m.plain.items a false) needs deletes adds
  pub needed : slice_get m.lists (3 * a) ≡ Some needs
  pub deleted : slice_get m.lists (3 * a + 1) ≡ Some deletes
  pub added : slice_get m.lists (3 * a + 2) ≡ Some adds

-- so many actions were copied
pub record AreMoves (task : Task) (m : Moves) (count : ℕ) : Type 0 where
  pub plains : length m.plain.items ≡ count
  pub lists : length m.lists ≡ 3 * count
  pub each : (a : ℕ) → a < count → IsMoveAt task m a

-- all actions of a task were copied
abbrev pub IsMoves : Task → Moves → Type 0
IsMoves task m = AreMoves task m (length task.actions)
