use Rattle.std.specs.Prelude.{◌≡◌, ℕ, ◌*◌, ◌+◌, ◌<◌, ◌≤◌, ◌||◌, List, Bool, true, false, length, slice_index}
use Rattle.std.specs.Global.{Vec}
use Rattle.std.specs.List.{list_any, AllZip, range_with_len}
use Rattle.bit_sets.specs.Rows.{row_has}
use Rattle.gt_core.specs.Literal.{opposite}
use Rattle.gt_core.specs.Task.{Action}
use Rattle.implied_literals.specs.Rows.{clause_in, AreRows}
use Rattle.implied_literals.specs.Tested.{IsSetOf, AreRowsOf, ActionFits, breaks_by, act_at}
use Rattle.implied_literals.specs.declared.known.Known.{Known}

-- Clauses that are broken, in one row a literal, and what is left where they are dropped.

-- some of the listed actions breaks a clause, at one of its literals
abbrev pub IsBroken : ℕ → Known → List (List ℕ) → List Action → List ℕ → ℕ → ℕ → Type 0
IsBroken facts known clauses acts todo l m =
    (clause_in clauses l m ≡ true) × (i : ℕ) × (i < length todo) × (breaks_by facts known (act_at acts (slice_index todo i)) l m ≡ true)

-- clauses that listed actions break, with all that those break whose places are from one on and below another
pub record AreLosses (facts : ℕ) (known : Known) (clauses : List (List ℕ)) (acts : List Action) (todo : List ℕ) (low high : ℕ) (lost : List (List ℕ)) : Type 0 where
  pub long : length lost ≡ 2 * facts
  pub only : (l m : ℕ) → clause_in lost l m ≡ true → IsBroken facts known clauses acts todo l m
  pub all : (i : ℕ) → low ≤ i → i < high → i < length todo → (l m : ℕ) → clause_in clauses l m ≡ true → breaks_by facts known (act_at acts (slice_index todo i)) l m ≡ true → clause_in lost l m ≡ true

-- what listed actions break, in rows for each piece of the list
pub record AreAllLosses (facts : ℕ) (known : Known) (clauses : List (List ℕ)) (acts : List Action) (todo : List ℕ) (tables : List (Vec (List ℕ))) : Type 0 where
  pub enough : length todo ≤ 2048 * length tables
  pub pieces : AllZip (λ p t. AreLosses facts known clauses acts todo (2048 * p) (2048 * p + 2048) t.items) (range_with_len 0 (length tables)) tables

-- listed actions can be tested
pub record CanTest (facts : ℕ) (known : Known) (clauses : List (List ℕ)) (acts : List Action) (todo : List ℕ) : Type 0 where
  pub numbers : (i : ℕ) → i < length todo → slice_index todo i < length acts
  pub rows : AreRowsOf (2 * facts) known.rows.items
  pub none : IsSetOf (2 * facts) (row_has known.none)
  pub lawful : AreRows facts clauses
  pub fits : (i : ℕ) → i < length todo → ActionFits (2 * facts) (act_at acts (slice_index todo i))

-- a clause is lost, in some rows, at one of its literals
abbrev pub are_lost : List (Vec (List ℕ)) → ℕ → ℕ → Bool
are_lost tables a b = list_any (λ t. clause_in t.items a b || clause_in t.items b a) tables

-- clauses were dropped: the opposites of literals whose clauses became fewer came into a set
pub record IsDropped (before after : List (List ℕ)) (old new : ℕ → Bool) : Type 0 where
  pub more : (k : ℕ) → old k ≡ true → new k ≡ true
  pub gone : (a b : ℕ) → clause_in before a b ≡ true → clause_in after a b ≡ false → new (opposite a) ≡ true
