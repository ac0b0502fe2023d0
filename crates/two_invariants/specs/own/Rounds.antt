use Rattle.std.specs.Prelude.{◌≡◌, ℕ, ◌*◌, ◌<◌, List, Bool, true, false, not, ◌&&◌, ◌||◌, if◌then◌else◌}
use Rattle.std.specs.List.{list_any}
use Rattle.gt_core.specs.Task.{Action, Task}
use Rattle.implied_literals.specs.Rows.{clause_in, total}
use Rattle.implied_literals.specs.Tested.{breaks_by}
use Rattle.implied_literals.specs.declared.known.Known.{Known}

-- some action breaks the clause of two literals
abbrev pub breaks_any : ℕ → Known → List Action → ℕ → ℕ → Bool
breaks_any facts known acts l m = list_any (λ x. breaks_by facts known x l m || breaks_by facts known x m l) acts

-- how many clauses there are, each counted in both rows
abbrev pub clause_count : ℕ → List (List ℕ) → ℕ
clause_count size rows = total (λ l. total (λ m. if clause_in rows l m then 1 else 0) size) size

-- one round: the clauses that no action breaks stay
pub record IsRound (task : Task) (known : Known) (before after : List (List ℕ)) (dropped : Bool) : Type 0 where
  pub kept : (l m : ℕ) → clause_in after l m ≡ (clause_in before l m && not (breaks_any task.facts known task.actions l m))
  pub fewer : dropped ≡ true → clause_count (2 * task.facts) after < clause_count (2 * task.facts) before
  pub same : dropped ≡ false → (l m : ℕ) → clause_in after l m ≡ clause_in before l m
