-- Pairs of one step or one time, moved.
use Rattle.std.specs.Prelude.{ℕ, ◌+◌, ◌<◌, ◌≤◌, List, length}
use Rattle.clause_base.specs.declared.pair.Pair.{Pair}
use Rattle.cdcl_tables.specs.declared.list.Move.{Move}
use Rattle.clause_base.specs.Pairs.{pair_in}
use Rattle.clause_base.specs.Repeats.{moved_code}

-- a pair whose literal is moved, and whose number is counted from a first one
abbrev pub moved_pair : Move → Pair → Pair
moved_pair m pair = record { other = moved_code m.width m.step m.facts pair.other; number = m.first + pair.number }

-- the pairs, once they are moved, have codes and numbers of 32 bits: so each is moved as it is read, without a test
pub record AreMovable (m : Move) (pairs : List Pair) : Type 0 where
  pub width : m.width ≤ 2147483647
  pub others : (place : ℕ) → place < length pairs → (moved_pair m (pair_in pairs place)).other < 4294967296
  pub numbers : (place : ℕ) → place < length pairs → (moved_pair m (pair_in pairs place)).number < 4294967296
