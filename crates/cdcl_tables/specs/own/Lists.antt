-- The pairs of a literal as five lists: those of the told clauses, of the step that ends and of the step that begins where a
-- fact is, of its time, and of the clauses after all of these.
use Rattle.std.specs.Prelude.{◌≡◌, ℕ, ◌+◌, ◌-◌, ◌*◌, ◌/◌, ◌%◌, ◌<◌, ◌≤◌, nat_lt, if◌then◌else◌, List, [], ◌++◌, map, length, Bool, true, All}
use Rattle.std.specs.List.{range_with_len}
use Rattle.clause_base.specs.declared.pair.Pair.{Pair}
use Rattle.cdcl_tables.specs.declared.list.Move.{Move}
use Rattle.cdcl_tables.specs.declared.shape.Shape.{Shape}
use Rattle.clause_base.specs.Pairs.{pairs_of, pair_in}
use Rattle.clause_base.specs.Repeats.{Repeats, repeated}
use Rattle.cdcl_tables.specs.own.Moved.{moved_pair}

-- the code of the first fact at time 0, and the one after the last at the last time
abbrev pub facts_begin : Shape → ℕ
facts_begin z = 2 * (z.horizon * z.width)

-- the code past the last fact of all times
abbrev pub facts_end : Shape → ℕ
facts_end z = 2 * (z.horizon * z.width + (z.horizon + 1) * z.facts)

-- where the clauses of a step, of a time and after all times go
abbrev pub step_move : Shape → ℕ → Move
step_move z u = record { width = z.width; step = u * z.width; facts = z.horizon * z.width + u * z.facts; first = z.tolds + u * z.steps }

-- how the pairs of one time are moved to time t
abbrev pub time_move : Shape → ℕ → Move
time_move z t = record { width = 0; step = 0; facts = z.horizon * z.width + t * z.facts; first = z.tolds + (z.horizon * z.steps + t * z.times) }

-- how pairs are moved that stand as they are, from this number of a clause on
abbrev pub plain_move : ℕ → Move
plain_move first = record { width = 0; step = 0; facts = 0; first = first }

-- the number of the first clause that was added
abbrev pub after_all : Shape → ℕ
after_all z = z.tolds + (z.horizon * z.steps + (z.horizon + 1) * z.times)

-- the pairs of a literal of a table, moved
abbrev pub moved_list : List (List Pair) → Move → ℕ → List Pair
moved_list table m x = map (moved_pair m) (pairs_of table x)

-- those of the step of which a literal is, or that begins where a fact is
abbrev pub next_list : Shape → List (List Pair) → ℕ → List Pair
next_list z step x =
    if nat_lt x (facts_begin z) then moved_list step (step_move z (x / (2 * z.width))) (x % (2 * z.width))
    else if nat_lt x (facts_end z) then (if nat_lt ((x - facts_begin z) / (2 * z.facts)) z.horizon then moved_list step (step_move z ((x - facts_begin z) / (2 * z.facts))) (2 * z.width + (x - facts_begin z) % (2 * z.facts)) else [])
    else []

-- those of the step that ends where a fact is
abbrev pub last_list : Shape → List (List Pair) → ℕ → List Pair
last_list z step x =
    if nat_lt x (facts_begin z) then []
    else if nat_lt x (facts_end z) then (if nat_lt 0 ((x - facts_begin z) / (2 * z.facts)) then moved_list step (step_move z ((x - facts_begin z) / (2 * z.facts) - 1)) (2 * z.width + 2 * z.facts + (x - facts_begin z) % (2 * z.facts)) else [])
    else []

-- those of the time at which a fact is
abbrev pub time_list : Shape → List (List Pair) → ℕ → List Pair
time_list z time x =
    if nat_lt x (facts_begin z) then []
    else if nat_lt x (facts_end z) then moved_list time (time_move z ((x - facts_begin z) / (2 * z.facts))) ((x - facts_begin z) % (2 * z.facts))
    else []

-- all of them
abbrev pub all_lists : Shape → (told step time after : List (List Pair)) → ℕ → List Pair
all_lists z told step time after x = moved_list told (plain_move 0) x ++ (last_list z step x ++ (next_list z step x ++ (time_list z time x ++ moved_list after (plain_move (after_all z)) x)))

-- the same for each literal
abbrev pub index_of : Shape → (told step time after : List (List Pair)) → List (List Pair)
index_of z told step time after = map (all_lists z told step time after) (range_with_len 0 (2 * z.variables))

-- the clauses of a formula with these parts
abbrev pub clauses_of : Shape → (told step time after : List (List ℕ)) → List (List ℕ)
clauses_of z told step time after = told ++ (repeated (record { horizon = z.horizon; width = z.width; facts = z.facts; step = step; time = time }) ++ after)

-- the variables of all steps and times are among all, and the clauses have numbers of 30 bits, so that what is worked out of them has
-- 32 bits; what is asked of every literal (`all_steps`, `before`, `begin`, `end`) is worked out once
pub record IsShape (z : Shape) : Type 0 where
  pub variables : z.horizon * z.width + (z.horizon + 1) * z.facts ≤ z.variables
  pub small : z.variables ≤ 2147483647
  pub few : after_all z + z.afters ≤ 1073741824
  pub all_steps : z.all_steps ≡ z.horizon * z.steps
  pub before : z.before ≡ after_all z
  pub begin : z.facts_begin ≡ facts_begin z
  pub end : z.facts_end ≡ facts_end z
  pub step_codes : z.step_codes ≡ 2 * z.width
  pub time_codes : z.time_codes ≡ 2 * z.facts

-- the pairs of a table have codes and numbers below these
pub record AreWithin (codes count : ℕ) (table : List (List Pair)) : Type 0 where
  pub others : (x place : ℕ) → place < length (pairs_of table x) → (pair_in (pairs_of table x) place).other < codes
  pub numbers : (x place : ℕ) → place < length (pairs_of table x) → (pair_in (pairs_of table x) place).number < count

-- the numbers of a formula's parts
pub record AreNumbers (z : Shape) (variables : ℕ) (told : List (List ℕ)) (part : Repeats) (after : List (List ℕ)) : Type 0 where
  pub variables_is : z.variables ≡ variables
  pub horizon : z.horizon ≡ part.horizon
  pub width : z.width ≡ part.width
  pub facts : z.facts ≡ part.facts
  pub tolds : z.tolds ≡ length told
  pub steps : z.steps ≡ length part.step
  pub times : z.times ≡ length part.time
  pub afters : z.afters ≡ length after

-- the parts of a formula, with the numbers of a shape
pub record AreParts (z : Shape) (told step time after : List (List ℕ)) : Type 0 where
  pub tolds : z.tolds ≡ length told
  pub steps : z.steps ≡ length step
  pub times : z.times ≡ length time
  pub afters : z.afters ≡ length after
  pub step_below : All (All (λ l. l < 2 * (z.width + 2 * z.facts))) step
  pub time_below : All (All (λ l. l < 2 * z.facts)) time
  pub below : All (All (λ l. l < 2 * z.variables)) (clauses_of z told step time after)

-- where it is so, no clause of two literals is told, and none comes after those of all times
abbrev pub ArePlain : Bool → (told after : List (List Pair)) → Type 0
ArePlain plain told after = plain ≡ true → (x : ℕ) → (pairs_of told x ≡ []) × (pairs_of after x ≡ [])

-- the tables of a formula's parts: their pairs are of the variables and clauses of each part, so that they are moved without a test
pub record AreTables (z : Shape) (told step time after : List (List Pair)) : Type 0 where
  pub told_within : AreWithin (2 * z.variables) z.tolds told
  pub step_within : AreWithin (2 * (z.width + 2 * z.facts)) z.steps step
  pub time_within : AreWithin (2 * z.facts) z.times time
  pub after_within : AreWithin (2 * z.variables) z.afters after
