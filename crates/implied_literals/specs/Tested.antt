use Rattle.std.specs.Prelude.{◌≡◌, ℕ, zero, suc, ◌+◌, ◌*◌, ◌<◌, ◌==◌, List, [], Bool, true, false, not, ◌&&◌, ◌||◌, length, slice_index_or}
use Rattle.std.specs.List.{list_any, list_all, AllByRecursion}
use Rattle.bit_sets.specs.Rows.{row_has}
use Rattle.gt_core.specs.Literal.{opposite}
use Rattle.gt_core.specs.Task.{Effect, Action}
use Rattle.implied_literals.specs.Breaks.{is_add}
use Rattle.implied_literals.specs.Rows.{row_at, clause_in, IsClosure}
use Rattle.implied_literals.specs.declared.known.Known.{Known}

-- What an action breaks, as tests of sets of known literals.

-- literals below a bound
abbrev pub IsSetOf : ℕ → (ℕ → Bool) → Type 0
IsSetOf size set = (m : ℕ) → set m ≡ true → m < size

-- there is a row for each literal, of literals in range
pub record AreRowsOf (size : ℕ) (rows : List (List ℕ)) : Type 0 where
  pub long : length rows ≡ size
  pub each : (k : ℕ) → IsSetOf size (row_has (row_at rows k))

-- the literals of an effect are in range
pub record EffectFits (size : ℕ) (e : Effect) : Type 0 where
  pub literal : opposite e.literal < size
  pub condition : AllByRecursion (λ l. l < size) e.condition

-- the literals of an action are in range
pub record ActionFits (size : ℕ) (x : Action) : Type 0 where
  pub precondition : AllByRecursion (λ l. l < size) x.precondition
  pub effects : AllByRecursion (EffectFits size) x.effects

-- what is known: from no literal, and from each that is asked for by itself
pub record AreKnown (V : ℕ → ℕ → Bool) (size : ℕ) (asked : ℕ → Bool) (known : Known) : Type 0 where
  pub none : IsClosure V (λ l. V l l) (row_has known.none)
  pub long : length known.rows.items ≡ size
  pub inside : IsSetOf size asked
  pub each : (k : ℕ) → asked k ≡ true → IsClosure V (λ m. k == m) (row_has (row_at known.rows.items k))
  pub other : (k m : ℕ) → asked k ≡ false → clause_in known.rows.items k m ≡ false

-- an action asks for literals of a set alone
pub record AsksAmong (asked : ℕ → Bool) (x : Action) : Type 0 where
  pub precondition : AllByRecursion (λ l. asked l ≡ true) x.precondition
  pub conditions : AllByRecursion (λ e. AllByRecursion (λ l. asked l ≡ true) e.condition) x.effects

-- a set with what some literals tell by themselves
abbrev pub with_more : List (List ℕ) → (ℕ → Bool) → List ℕ → ℕ → Bool
with_more rows set ls m = set m || list_any (λ l. row_has (row_at rows l) m) ls

-- no literal of so many facts together with its opposite
abbrev pub has_no_pair : ℕ → (ℕ → Bool) → Bool
has_no_pair zero set = true
has_no_pair (suc f) set = not (set (2 * f) && set (2 * f + 1)) && has_no_pair f set

-- an effect has a literal, and its whole condition is known
abbrev pub gives : (ℕ → Bool) → List Effect → ℕ → Bool
gives set effects l = list_any (λ e. (e.literal == l) && list_all set e.condition) effects

-- a literal may be taken where a set is known
abbrev pub may_take : ℕ → (ℕ → Bool) → List Effect → ℕ → Bool
may_take facts set effects l = has_no_pair facts set && not (is_add l && gives set effects l)

-- one of some effects may take a literal
abbrev pub loses_by : ℕ → List (List ℕ) → (ℕ → Bool) → List Effect → List Effect → ℕ → Bool
loses_by facts rows set effects some l =
    list_any (λ e. (e.literal == opposite l) && may_take facts (with_more rows set e.condition) effects l) some

-- a literal surely holds afterwards
abbrev pub is_sure : ℕ → List (List ℕ) → (ℕ → Bool) → List Effect → ℕ → Bool
is_sure facts rows set effects m = (set m || gives set effects m) && not (loses_by facts rows set effects effects m)

-- an effect may take l where m is not sure
abbrev pub breaks_with : ℕ → List (List ℕ) → (ℕ → Bool) → List Effect → ℕ → ℕ → Effect → Bool
breaks_with facts rows set effects l m e =
    (e.literal == opposite l) && (may_take facts (with_more rows set e.condition) effects l && not (is_sure facts rows (with_more rows set e.condition) effects m))

-- some effect of an action may
abbrev pub breaks_by : ℕ → Known → Action → ℕ → ℕ → Bool
breaks_by facts known x l m =
    list_any (breaks_with facts known.rows.items (with_more known.rows.items (row_has known.none) x.precondition) x.effects l m) x.effects

-- an action of a list; past the last, one that does nothing
abbrev pub act_at : List Action → ℕ → Action
act_at acts a = slice_index_or acts a (record { precondition = []; effects = [] })
