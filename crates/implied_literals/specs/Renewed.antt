use Rattle.std.specs.Prelude.{◌≡◌, ℕ, ◌*◌, ◌<◌, ◌==◌, ◌⊎◌, List, Bool, true, false, not, ◌&&◌, ◌||◌, length}
use Rattle.std.specs.List.{list_any, list_all, AllByRecursion}
use Rattle.bit_sets.specs.Rows.{row_has}
use Rattle.gt_core.specs.Literal.{opposite}
use Rattle.gt_core.specs.Task.{Action, Task}
use Rattle.implied_literals.specs.Rows.{row_at, clause_in, AreRows, IsPart, IsChained, HasNoPair, IsClosure}
use Rattle.implied_literals.specs.Tested.{IsSetOf, breaks_by, act_at}
use Rattle.implied_literals.specs.declared.known.Known.{Known}
use Rattle.implied_literals.specs.declared.again.Moved.{Moved}
use Rattle.implied_literals.specs.declared.bound.Bound.{Bound}
use Rattle.implied_literals.specs.declared.close.Rules.{Rules}
use Rattle.implied_literals.specs.declared.close.Done.{Done}

-- What is known after clauses were dropped, and which actions may break others than before.

-- fewer clauses over literals below a bound, with the opposites of those whose clauses are fewer
pub record IsLessened (before after : ℕ → ℕ → Bool) (size : ℕ) (stale : ℕ → Bool) : Type 0 where
  pub less : (l m : ℕ) → after l m ≡ true → before l m ≡ true
  pub gone : (l m : ℕ) → before l m ≡ true → after l m ≡ false → stale (opposite l) ≡ true
  pub bound : (l m : ℕ) → before l m ≡ true → m < size

-- an old set has what is told at once, and what follows, unless it contradicts itself
pub record WasClosed (V : ℕ → ℕ → Bool) (size : ℕ) (first old : ℕ → Bool) : Type 0 where
  pub within : HasNoPair old → IsSetOf size old
  pub part : HasNoPair old → IsPart first old
  pub chained : HasNoPair old → IsChained V old

-- what a literal told by more clauses
pub record WasTold (V : ℕ → ℕ → Bool) (stale : ℕ → Bool) (size x : ℕ) (old : ℕ → Bool) : Type 0 where
  pub before : ℕ → ℕ → Bool
  pub lessened : IsLessened before V size stale
  pub closed : HasNoPair old → IsClosure before (λ m. x == m) old

-- what was known by more clauses
pub record WereKnown (V : ℕ → ℕ → Bool) (stale : ℕ → Bool) (size : ℕ) (asked : ℕ → Bool) (known : Known) : Type 0 where
  pub before : ℕ → ℕ → Bool
  pub lessened : IsLessened before V size stale
  pub none : HasNoPair (row_has known.none) → IsClosure before (λ l. before l l) (row_has known.none)
  pub long : length known.rows.items ≡ size
  pub each : (k : ℕ) → asked k ≡ true → HasNoPair (row_has (row_at known.rows.items k)) → IsClosure before (λ m. k == m) (row_has (row_at known.rows.items k))
  pub other : (k m : ℕ) → asked k ≡ false → clause_in known.rows.items k m ≡ false

-- what is known is as before, but where it is noted: the literals whose rows are others, whether what is known from no
-- literal is, and the literals that do not tell all that is another there
pub record AreMoves (asked : ℕ → Bool) (old new : Known) (moved : Moved) : Type 0 where
  pub rows : (k m : ℕ) → row_has moved.rows k ≡ false → clause_in new.rows.items k m ≡ clause_in old.rows.items k m
  pub none : moved.none ≡ false → (m : ℕ) → row_has new.none m ≡ row_has old.none m
  pub lacking : (k m : ℕ) → asked k ≡ true → row_has moved.lacking k ≡ false → (row_has new.none m ≡ row_has old.none m) ⊎ (clause_in new.rows.items k m ≡ true)

-- the literals that stand in a clause are listed, and so are their opposites
pub record IsBound (V : ℕ → ℕ → Bool) (bound : Bound) : Type 0 where
  pub literals : (l m : ℕ) → V l m ≡ true → row_has bound.literals l ≡ true
  pub opposites : (l m : ℕ) → V (opposite l) m ≡ true → row_has bound.opposites l ≡ true

-- literals tell by clauses on both sides, and which stand in one is listed
pub record AreRules (rules : Rules) : Type 0 where
  pub clauses : AreRows rules.facts rules.clauses.now
  pub either : (l m : ℕ) → clause_in rules.clauses.now l m ≡ clause_in rules.clauses.now m l
  pub bound : IsBound (clause_in rules.clauses.now) rules.bound.now

-- there is a row for each literal, and that of each literal that is asked for and below one has all that it tells
pub record AreDone (done : Done) : Type 0 where
  pub rules : AreRules done.rules.now
  pub long : length done.rows.now ≡ 2 * done.rules.now.facts
  pub each : (k : ℕ) → row_has done.rules.now.asked.now k ≡ true → k < done.below → IsClosure (clause_in done.rules.now.clauses.now) (λ m. k == m) (row_has (row_at done.rows.now k))

-- Actions.

-- an action asks for a literal, in its precondition or in the condition of an effect
abbrev pub asks : Action → ℕ → Bool
asks x k = list_any (λ l. l == k) x.precondition || list_any (λ e. list_any (λ l. l == k) e.condition) x.effects

-- it asks for no literal whose row is another, and what it knows from no literal is as before
abbrev pub is_unmoved : Moved → Action → Bool
is_unmoved moved x =
    (list_all (λ l. not (row_has moved.rows l)) x.precondition && list_all (λ e. list_all (λ l. not (row_has moved.rows l)) e.condition) x.effects)
    && (not moved.none || not (list_all (row_has moved.lacking) x.precondition))

-- it breaks no clause of some rows
abbrev pub IsSettled : ℕ → Known → List (List ℕ) → Action → Type 0
IsSettled facts known clauses x = (l m : ℕ) → (clause_in clauses l m && breaks_by facts known x l m) ≡ false

-- the actions that are not listed to be tested break no clause
pub record IsTested (task : Task) (known : Known) (clauses : List (List ℕ)) (todo : List ℕ) : Type 0 where
  pub numbers : AllByRecursion (λ a. a < length task.actions) todo
  pub settled : (a : ℕ) → a < length task.actions → (list_any (λ b. b == a) todo ≡ true) ⊎ IsSettled task.facts known clauses (act_at task.actions a)
