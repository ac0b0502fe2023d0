-- The clause that a walk is at, as marks by position of the trail: a literal of the clause is false, and its mark is at the position
-- of the entry that made it so.
use Rattle.std.specs.Prelude.{◌≡◌, ℕ, ◌+◌, ◌*◌, ◌<◌, ◌≤◌, ◌==◌, ◌&&◌, ◌||◌, List, [], ◌∷◌, Bool, true, false, length, map, Option, Some, None}
use Rattle.std.specs.List.{range_with_len}
use Rattle.clause_base.specs.Literal.{opposite}
use Rattle.cdcl_defs.specs.Trail.{AllFalse}
use Rattle.cdcl_defs.specs.Learn.{current}
use Rattle.cdcl_tables.specs.Mirrored.{TrailView}
use Rattle.bit_sets.specs.Marks.{places}
use Rattle.bit_sets.specs.Layered.{words_have}

-- whether l is the negation of one of some literals, at positions from v on, whose position passes a test
abbrev pub is_marked : (ℕ → Bool) → ℕ → List ℕ → ℕ → Bool
is_marked has v [] l = false
is_marked has v (m ∷ trail) l = (has v && (opposite m == l)) || is_marked has (v + 1) trail l

-- a clause, for each literal by its code whether it is in, and how many are of the current level
pub record ResolventView : Type 0 where
  pub on : List Bool
  pub count : ℕ

-- the literals, rising
abbrev pub literals : ResolventView → List ℕ
literals r = places 0 r.on

-- over a trail: its literals are false, and those of the current level are counted
pub record IsOver (trail : TrailView) (r : ResolventView) : Type 0 where
  pub size : length r.on ≡ 2 * trail.variables
  pub all_false : AllFalse trail.entries (literals r)
  pub counted : r.count ≡ length (current trail.entries (literals r))

-- marks by position, and how many of them are of the current level
pub record MarksView : Type 0 where
  pub words : List ℕ
  pub count : ℕ

-- the clause that marks tell
abbrev pub seen : TrailView → MarksView → ResolventView
seen trail m = record {
  on = map (is_marked (words_have m.words) 0 (map (λ a. a.literal) trail.entries)) (range_with_len 0 (2 * trail.variables));
  count = m.count;
}

-- marks over a trail: there is room for a mark at each position and at the one behind the last, where the walk begins, and only
-- positions of the trail are marked, so that all marks are taken back where the walk reads them
pub record AreMarks (trail : TrailView) (m : MarksView) : Type 0 where
  pub room : trail.variables < 64 * length m.words
  pub beyond : (p : ℕ) → length trail.entries ≤ p → words_have m.words p ≡ false
  pub over : IsOver trail (seen trail m)

-- there are no marks, and there is room for those of so many variables
pub record IsClear (variables : ℕ) (m : MarksView) : Type 0 where
  pub room : variables < 64 * length m.words
  pub none : (p : ℕ) → words_have m.words p ≡ false
  pub count : m.count ≡ 0

-- the greatest number below a bound that passes a test, if there is one
abbrev pub IsLatest : (ℕ → Bool) → ℕ → Option ℕ → Type 0
IsLatest has bound None = (q : ℕ) → q < bound → has q ≡ false
IsLatest has bound (Some p) = (p < bound) × (has p ≡ true) × ((q : ℕ) → p < q → q < bound → has q ≡ false)
