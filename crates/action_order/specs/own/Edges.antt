use Rattle.std.specs.Prelude.{◌≡◌, ℕ, ◌*◌, ◌/◌, ◌<◌, ◌==◌, List, Bool, not, ◌&&◌, ◌||◌, length}
use Rattle.std.specs.List.{list_any}
use Rattle.bit_sets.specs.Rows.{row_has}
use Rattle.gt_core.specs.Literal.{opposite, is_in}
use Rattle.gt_core.specs.Task.{Effect, Action}
use Rattle.gt_core.specs.Interference.{action_disables, actions_together}
use Rattle.action_order.specs.own.Graph.{row_at}
use Rattle.action_order.specs.own.Readers.{act_at, AreRowsOf, AreExclusions, needs, asks_of}
use Rattle.action_order.specs.own.Sure.{AreSure}
use Rattle.action_order.specs.declared.edges.Rows.{Rows}

-- an edge of the published order leads from one action of a list to another
abbrev pub edge_in : List (ℕ × ℕ) → List Action → ℕ → ℕ → Bool
edge_in clauses acts a b =
    (not (a == b) && action_disables (act_at acts a) (act_at acts b)) && actions_together clauses (act_at acts a) (act_at acts b)

-- the edges of each action as a row of bits
pub record AreEdges (clauses : List (ℕ × ℕ)) (acts : List Action) (upto : ℕ) (rows : List (List ℕ)) : Type 0 where
  pub long : length rows ≡ upto
  pub tells : (a b : ℕ) → a < upto → row_has (row_at rows a) b ≡ edge_in clauses acts a b

-- an action is in a row of those that read what an effect with a literal takes
abbrev pub is_reader : List (List ℕ) → List (List ℕ) → ℕ → ℕ → Bool
is_reader needing asking l b = row_has (row_at needing (opposite l)) b || row_has (row_at asking (l / 2)) b

-- an action is in a row of those that read what one of some effects takes
abbrev pub is_touched : List (List ℕ) → List (List ℕ) → List Effect → ℕ → Bool
is_touched needing asking effects b = list_any (λ e. is_reader needing asking e.literal b) effects

-- an action is in the row of one of some literals
abbrev pub is_in_rows : List (List ℕ) → List ℕ → ℕ → Bool
is_in_rows rows lits b = list_any (λ l. row_has (row_at rows l) b) lits

-- an action is in the row of the opposite of one of some literals
abbrev pub is_opposed : List (List ℕ) → List ℕ → ℕ → Bool
is_opposed rows lits b = list_any (λ l. row_has (row_at rows (opposite l)) b) lits

-- an action of a list surely makes a literal true, as lists say
abbrev pub surely : List (List ℕ) → ℕ → ℕ → Bool
surely sure b l = is_in (row_at sure b) l

-- what the edges are made from
pub record AreEdgeRows (clauses : List (ℕ × ℕ)) (facts : ℕ) (acts : List Action) (r : Rows) : Type 0 where
  pub needing : AreRowsOf (needs acts) (2 * facts) (length acts) r.needing.items
  pub asking : AreRowsOf (asks_of acts) facts (length acts) r.asking.items
  pub sure : AreSure (2 * facts) acts r.sure.items
  pub making : AreRowsOf (surely r.sure.items) (2 * facts) (length acts) r.making.items
  pub excluding : AreExclusions clauses r.needing.items (2 * facts) r.excluding.items
