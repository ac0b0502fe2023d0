use Rattle.std.specs.Prelude.{◌≡◌, ℕ, ◌*◌, ◌/◌, ◌<◌, ◌==◌, ◌⊎◌, List, [], Bool, true, ◌&&◌, ◌||◌, nat_lt, length, slice_index_or}
use Rattle.std.specs.List.{AllByRecursion, list_any}
use Rattle.bit_sets.specs.Rows.{row_has}
use Rattle.gt_core.specs.Literal.{range, opposite}
use Rattle.gt_core.specs.Task.{Effect, Action}
use Rattle.gt_core.specs.Active.{EffectWithin}
use Rattle.gt_core.specs.Interference.{action_needs, action_asks, exclusive}
use Rattle.action_order.specs.own.Graph.{row_at}

-- the literals of an action are of so many facts
pub record ActionWithin (facts : ℕ) (x : Action) : Type 0 where
  pub precondition : AllByRecursion (λ l. l < 2 * facts) x.precondition
  pub effects : AllByRecursion (EffectWithin facts) x.effects

-- an action of a list; past the last, one that does nothing
abbrev pub act_at : List Action → ℕ → Action
act_at acts a = slice_index_or acts a (record { precondition = []; effects = [] })

-- the action with these effects and no precondition
abbrev pub of_effects : List Effect → Action
of_effects effects = record { precondition = []; effects = effects }

-- rows by a key, with one more number in each whose key passes a test
pub record IsEntered (keys : ℕ → Bool) (b : ℕ) (before after : List (List ℕ)) : Type 0 where
  pub long : length after ≡ length before
  pub tells : (k x : ℕ) → k < length before → row_has (row_at after k) x ≡ ((keys k && (b == x)) || row_has (row_at before k) x)

-- rows by a key, each of the numbers below one that pass a test with the key
pub record AreRowsOf (test : ℕ → ℕ → Bool) (keys upto : ℕ) (rows : List (List ℕ)) : Type 0 where
  pub long : length rows ≡ keys
  pub tells : (k b : ℕ) → k < keys → row_has (row_at rows k) b ≡ (nat_lt b upto && test b k)

-- an action of a list needs a literal
abbrev pub needs : List Action → ℕ → ℕ → Bool
needs acts b l = action_needs (act_at acts b) l

-- an action of a list has a fact in an effect condition
abbrev pub asks_of : List Action → ℕ → ℕ → Bool
asks_of acts b f = action_asks (act_at acts b) f

-- a condition has a literal of a fact
abbrev pub has_fact : List ℕ → ℕ → Bool
has_fact condition f = list_any (λ c. c / 2 == f) condition

-- a number is in the row of a literal that a literal excludes
abbrev pub is_excluded : List (ℕ × ℕ) → List (List ℕ) → ℕ → ℕ → ℕ → Bool
is_excluded clauses needing p upto b = list_any (λ q. exclusive clauses p q && row_has (row_at needing q) b) (range upto)

-- the numbers of one row are in another
abbrev pub IsPartOf : List ℕ → List ℕ → Type 0
IsPartOf row other = (b : ℕ) → row_has row b ≡ true → row_has other b ≡ true

-- a number that a row has and had not before is in the row of the opposite of one of some literals
abbrev pub IsOpposed : List (List ℕ) → (ℕ → Bool) → List ℕ → List ℕ → Type 0
IsOpposed needing lits before after =
    (b : ℕ) → row_has after b ≡ true → (row_has before b ≡ true) ⊎ ((m : ℕ) × (m < length needing) × (lits m ≡ true) × (row_has (row_at needing (opposite m)) b ≡ true))

-- for each literal that some action needs, the actions whose precondition it excludes
pub record AreExclusions (clauses : List (ℕ × ℕ)) (needing : List (List ℕ)) (upto : ℕ) (rows : List (List ℕ)) : Type 0 where
  pub long : length rows ≡ upto
  pub tells : (p a b : ℕ) → p < upto → row_has (row_at needing p) a ≡ true → row_has (row_at rows p) b ≡ is_excluded clauses needing p (length needing) b
