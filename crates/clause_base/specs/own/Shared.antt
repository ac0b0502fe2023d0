-- A list of clauses, in memory of its own or in shared memory.
use Rattle.std.specs.Prelude.{◌≡◌, List, ℕ}
use Rattle.std.specs.Arc.{arc_value}
use Rattle.clause_base.specs.declared.shared_list.Held.{Held}
use Rattle.clause_base.specs.declared.shared_list.Held.TheVariants.{Own, Shared}
use Rattle.clause_base.specs.Pairs.{pairs_from, pairs_of}

-- the clauses of the list
abbrev pub clauses_held : Held → List (List ℕ)
clauses_held (Own list) = list
clauses_held (Shared list pairs) = arc_value list

-- beside a shared list stands the table of its pairs, so that a formula's index is made of it without a look at the clauses
abbrev pub HasTable : Held → Type 0
HasTable (Own list) = Unit {0}
HasTable (Shared list pairs) = (x : ℕ) → pairs_of (arc_value pairs) x ≡ pairs_from 0 x (arc_value list)
