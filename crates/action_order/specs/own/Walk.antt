use Rattle.std.specs.Prelude.{◌≡◌, ℕ, ◌<◌, ◌≤◌, ◌⊎◌, List, Bool, true, false, ◌&&◌, ◌+◌, ◌-◌, ◌*◌, ◌==◌, nat_lt, count_by, length, slice_index_or, Option, Some, None, if◌then◌else◌}
use Rattle.bit_sets.specs.Rows.{row_has}
use Rattle.gt_core.specs.Literal.{is_in}
use Rattle.gt_core.specs.Published.{Reaches, Pairwise}
use Rattle.action_order.specs.own.Graph.{leads, item}
use Rattle.action_order.specs.declared.walk.Mark.{Mark}
use Rattle.action_order.specs.declared.walk.Mark.TheVariants.{Unseen, At, Done}
use Rattle.action_order.specs.declared.walk.Walk.{Walk}

-- What the depth-first walk keeps. The stack has the vertices whose component is not known yet; `starts` cuts it
-- into segments that are strongly connected as far as edges were followed (Gabow 2000), and `work` has the places
-- of the stack whose edges are not all followed.

-- the mark of a vertex; unseen past the last
abbrev pub mark_of : List Mark → ℕ → Mark
mark_of marks v = slice_index_or marks v Unseen

-- a target that was seen is finished, or stands in the segment of the place that leads to it, or in a later one
abbrev pub IsSeen : List Mark → List ℕ → ℕ → ℕ → Type 0
IsSeen marks starts p v =
    ((c : ℕ) × (mark_of marks v ≡ Done c)) ⊎ ((q : ℕ) × (mark_of marks v ≡ At q) × ((s : ℕ) → is_in starts s ≡ true → s ≤ p → s ≤ q))

-- a target that was not seen, of a place with work
abbrev pub IsOpen : List Mark → List ℕ → ℕ → ℕ → Type 0
IsOpen marks work p v = (mark_of marks v ≡ Unseen) × (is_in work p ≡ true)

-- a start of a segment that is the last one up to a place
pub record IsSegmentStart (starts : List ℕ) (p s : ℕ) : Type 0 where
  pub start : is_in starts s ≡ true
  pub before : s ≤ p
  pub last : (r : ℕ) → is_in starts r ≡ true → r ≤ p → r ≤ s

-- the components that are finished
pub record AreFinished (targets : List (List ℕ)) (marks : List Mark) (roots : List ℕ) : Type 0 where
  pub known : (v c : ℕ) → v < length targets → mark_of marks v ≡ Done c → c < length roots
  pub connected : (u v c : ℕ) → u < length targets → v < length targets → mark_of marks u ≡ Done c → mark_of marks v ≡ Done c → Reaches (leads targets) u v
  pub falls : (u v c : ℕ) → u < length targets → mark_of marks u ≡ Done c → leads targets u v ≡ true → (d : ℕ) × (mark_of marks v ≡ Done d) × (d ≤ c)
  pub used : (c : ℕ) → c < length roots → (item roots c < length targets) × (mark_of marks (item roots c) ≡ Done c)

-- what the walk keeps of its marks, stack, segment starts, work and found roots at each of its steps
pub record IsWalk (targets : List (List ℕ)) (marks : List Mark) (stack starts work roots : List ℕ) : Type 0 where
  pub marks_long : length marks ≡ length targets
  pub vertex : (p : ℕ) → p < length stack → item stack p < length targets
  pub placed : (p : ℕ) → p < length stack → mark_of marks (item stack p) ≡ At p
  pub on_stack : (v p : ℕ) → v < length targets → mark_of marks v ≡ At p → (p < length stack) × (item stack p ≡ v)
  pub path : (p q : ℕ) → p ≤ q → q < length stack → Reaches (leads targets) (item stack p) (item stack q)
  pub back : (p s : ℕ) → p < length stack → IsSegmentStart starts p s → Reaches (leads targets) (item stack p) (item stack s)
  pub seen : (p v : ℕ) → p < length stack → leads targets (item stack p) v ≡ true → IsOpen marks work p v ⊎ IsSeen marks starts p v
  pub work_within : (p : ℕ) → is_in work p ≡ true → p < length stack
  pub work_rising : Pairwise (λ a b. a < b) work
  pub starts_in_work : (s : ℕ) → is_in starts s ≡ true → is_in work s ≡ true
  pub starts_rising : Pairwise (λ a b. a < b) starts
  pub bottom : 0 < length stack → is_in starts 0 ≡ true
  pub finished : AreFinished targets marks roots

-- the walk has not come to this vertex
abbrev pub is_unseen : Mark → Bool
is_unseen Unseen = true
is_unseen (At p) = false
is_unseen (Done c) = false

-- this vertex is on the stack
abbrev pub is_stacked : Mark → Bool
is_stacked (At p) = true
is_stacked (Done c) = false
is_stacked Unseen = false

-- the vertices that were not seen and those on the stack, as rows of bits
pub record AreSets (marks : List Mark) (left_out on_stack : List ℕ) : Type 0 where
  pub unseen : (v : ℕ) → row_has left_out v ≡ (nat_lt v (length marks) && is_unseen (mark_of marks v))
  pub stacked : (v : ℕ) → row_has on_stack v ≡ is_stacked (mark_of marks v)

-- what the walk of the program keeps: its lists are such a walk, and its two sets are those of its marks
pub record IsWalkOf (targets : List (List ℕ)) (w : Walk) : Type 0 where
  pub walk : IsWalk targets w.marks.items w.stack.items w.starts.items w.work.items w.roots.items
  pub sets : AreSets w.marks.items w.unseen w.stacked

-- a vertex that was seen stays so
abbrev pub KeepsSeen : List Mark → List Mark → Type 0
KeepsSeen before after = (v : ℕ) → (mark_of before v ≡ Unseen → ⊥) → mark_of after v ≡ Unseen → ⊥

-- every place of the stack reaches a vertex
abbrev pub AllReach : List (List ℕ) → List ℕ → ℕ → Type 0
AllReach targets stack v = (p : ℕ) → p < length stack → Reaches (leads targets) (item stack p) v

-- the vertices of a stack from one place to another get a mark, and the others keep theirs
pub record MarksFrom (before after : List Mark) (stack : List ℕ) (place end : ℕ) (mark : Mark) : Type 0 where
  pub long : length after ≡ length before
  pub marked : (p : ℕ) → place ≤ p → p < end → mark_of after (item stack p) ≡ mark
  pub others : (v : ℕ) → ((p : ℕ) → place ≤ p → p < end → item stack p ≡ v → ⊥) → mark_of after v ≡ mark_of before v

-- the vertices of a stack from one place to another are taken out of a set
pub record TakesFrom (stack : List ℕ) (place end : ℕ) (before after : List ℕ) : Type 0 where
  pub taken : (p : ℕ) → place ≤ p → p < end → row_has after (item stack p) ≡ false
  pub others : (v : ℕ) → ((p : ℕ) → place ≤ p → p < end → item stack p ≡ v → ⊥) → row_has after v ≡ row_has before v

-- the lower of two places, of which the first may not be there
abbrev pub lower : Option ℕ → ℕ → ℕ
lower None place = place
lower (Some other) place = if nat_lt other place then other else place

-- the first place of the stack to which a vertex has an edge, as far as its targets below a number tell
abbrev pub IsLowestBelow : List (List ℕ) → List Mark → ℕ → ℕ → Option ℕ → Type 0
IsLowestBelow targets marks v upto None = (u p : ℕ) → u < upto → leads targets v u ≡ true → mark_of marks u ≡ At p → ⊥
IsLowestBelow targets marks v upto (Some to) =
    ((u : ℕ) × (leads targets v u ≡ true) × (mark_of marks u ≡ At to))
    × ((u p : ℕ) → u < upto → leads targets v u ≡ true → mark_of marks u ≡ At p → to ≤ p)

-- the same of all its targets
abbrev pub IsLowest : List (List ℕ) → List Mark → ℕ → Option ℕ → Type 0
IsLowest targets marks v None = (u p : ℕ) → leads targets v u ≡ true → mark_of marks u ≡ At p → ⊥
IsLowest targets marks v (Some to) =
    ((u : ℕ) × (leads targets v u ≡ true) × (mark_of marks u ≡ At to))
    × ((u p : ℕ) → leads targets v u ≡ true → mark_of marks u ≡ At p → to ≤ p)

-- a list ends with a number
pub record IsLast (xs : List ℕ) (x : ℕ) : Type 0 where
  pub some : 0 < length xs
  pub is : item xs (length xs - 1) ≡ x

-- a list ends with a number above another
abbrev pub ends_past : ℕ → List ℕ → Bool
ends_past to xs = nat_lt 0 (length xs) && nat_lt to (item xs (length xs - 1))

-- a list ends with a number, as a test
abbrev pub ends_with : ℕ → List ℕ → Bool
ends_with x xs = nat_lt 0 (length xs) && (item xs (length xs - 1) == x)

-- how many vertices were not seen, twice, and how many places have work: it falls at each move
abbrev pub work_left : List Mark → List ℕ → ℕ
work_left marks work = 2 * count_by is_unseen marks + length work

-- the place of a vertex on the stack
abbrev pub place_of : Mark → ℕ
place_of (At p) = p
place_of (Done c) = 0
place_of Unseen = 0

-- the number of a finished component
abbrev pub number_of : Mark → ℕ
number_of (Done c) = c
number_of (At p) = 0
number_of Unseen = 0
