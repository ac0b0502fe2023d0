use Rattle.std.specs.Prelude.{◌≡◌, ℕ, ◌+◌, ◌/◌, ◌<◌, ◌≤◌, ◌==◌, nat_le, List, [], ◌∷◌, length, reverse, take, slice_index, All, Option, Some, None}
use Rattle.cdcl_defs.specs.declared.trail.Assigned.{Assigned}
use Rattle.clause_base.specs.Choice.{Known}
use Rattle.cdcl_defs.specs.State.{value_of, values_of, decision_count}
use Rattle.cdcl_tables.specs.Assignment.{literals}

-- a trail over so many variables
pub record TrailView : Type 0 where
  pub variables : ℕ
  pub entries : List Assigned

-- no variable stands twice on a trail that is read from its last entry
abbrev pub IsOnce : List Assigned → Type 0
IsOnce [] = Unit {0}
IsOnce (a ∷ older) = (value_of older (a.literal / 2) ≡ None) × IsOnce older

-- the positions of the decisions, where the first entry has this position: there the levels begin
abbrev pub starts_from : ℕ → List Assigned → List ℕ
starts_from p [] = []
starts_from p (a ∷ entries) = elim a.reason [ None ↦ p ∷ starts_from (p + 1) entries | Some r ↦ starts_from (p + 1) entries ]

-- what an entry with a reason, or a decision, at a position adds to them
abbrev pub begun : Option ℕ → ℕ → List ℕ
begun None p = p ∷ []
begun (Some r) p = []

-- the values are what the trail says, and the level of an entry can be found among the positions where levels begin; no variable
-- stands twice, so that room for an entry of each variable is room enough
pub record IsMirrored (n : ℕ) (entries : List Assigned) (values : Known) (starts : List ℕ) : Type 0 where
  pub values_are : values ≡ values_of n entries
  pub starts_are : starts ≡ starts_from 0 entries
  pub below : All (λ a. a.literal / 2 < n) entries
  pub once : IsOnce (reverse entries)
  pub small : n ≤ 2147483647

-- each variable of the trail has its position in a table: an entry is found from its literal, and its level from there
pub record IsPlaced (n : ℕ) (trail : List ℕ) (positions : List ℕ) : Type 0 where
  pub size : length positions ≡ n
  pub positions_are : (i : ℕ) → i < length trail → slice_index positions (slice_index trail i / 2) ≡ i

-- the current level begins at this position: an entry is of it just where it does not stand before
abbrev pub IsStart : List Assigned → ℕ → Type 0
IsStart entries start = (p : ℕ) → p < length entries → nat_le start p ≡ (decision_count (take (p + 1) entries) == decision_count entries)

-- no literal stands at two positions: a mark at a position is a mark of one literal
abbrev pub AreApart : List ℕ → Type 0
AreApart trail = (i j : ℕ) → i < length trail → j < length trail → slice_index trail i ≡ slice_index trail j → i ≡ j

-- what is asked of the tables by which entries are found from their literals: so the walk from a conflict finds the reason of a literal,
-- and whether it is of the current level, without going along the trail
pub record IsLookedUp (n : ℕ) (entries : List Assigned) (positions : List ℕ) (start : ℕ) : Type 0 where
  pub placed : IsPlaced n (literals entries) positions
  pub start_is : IsStart entries start
  pub below : All (λ a. a.literal / 2 < n) entries
  pub short : length entries ≤ n
  pub small : n ≤ 2147483647

-- so many of some numbers, which rise, are below a bound
pub record IsCount (numbers : List ℕ) (bound count : ℕ) : Type 0 where
  pub within : count ≤ length numbers
  pub less : (i : ℕ) → i < count → slice_index numbers i < bound
  pub rest : (i : ℕ) → count ≤ i → i < length numbers → bound ≤ slice_index numbers i

-- numbers that do not fall
abbrev pub AreRising : List ℕ → Type 0
AreRising numbers = (i j : ℕ) → i ≤ j → j < length numbers → slice_index numbers i ≤ slice_index numbers j
