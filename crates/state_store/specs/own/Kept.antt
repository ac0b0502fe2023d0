-- What a store keeps.
use Rattle.std.specs.Prelude.{◌≡◌, ℕ, ◌<◌, ◌≤◌, List, length}
use Rattle.std.specs.List.{AllByRecursion}
use Rattle.state_store.specs.Packed.{IsPacked, width_of}
use Rattle.state_store.specs.own.Rows.{Block}
use Rattle.state_store.specs.own.Table.{Trees, AreTrees}
use Rattle.state_store.specs.Distinct.{AreDistinct}

-- rows of which no two are equal, all of which are in the table
pub record AreKept (block : Block) (table : Trees) : Type 0 where
  pub some : 0 < block.width
  pub few : block.width ≤ 67108863
  pub within : length block.rows ≤ block.most
  pub room : table.most ≡ block.most
  pub apart : AreDistinct block.rows
  pub all : length table.nodes ≡ length block.rows
  pub trees : AreTrees block.width table.heads table.nodes block.rows (length table.nodes)

-- so many facts at most, rows that are packed states of these, no more than may be entered, kept in the table, and as many parents
-- and actions
pub record IsKept (f n : ℕ) (block : Block) (froms acts : List ℕ) (table : Trees) : Type 0 where
  pub facts : f ≤ 2147483647
  pub width : block.width ≡ width_of f
  pub room : block.most ≤ 4294967295
  pub most : n ≤ block.most
  pub within : length block.rows ≤ n
  pub kept : AreKept block table
  pub packed : AllByRecursion (IsPacked f) block.rows
  pub parents : length froms ≡ length block.rows
  pub actions : length acts ≡ length block.rows

-- its lists have room for all that may come
pub record HasRoom (n p a : ℕ) : Type 0 where
  pub parents : n ≤ p
  pub actions : n ≤ a
