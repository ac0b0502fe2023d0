-- The first fault of bytes that are no plan file, at the offset of a byte, from 0.
use Rattle.std.specs.Prelude.{ℕ}

-- what is wrong first, with the offset of the byte at which it is told
pub data Fault : Type 0 where
  -- a byte that no list of words goes on with, or the length
  syntax : ℕ → Fault
  -- a name that is not declared
  unknown : ℕ → Fault
  -- a list with a wrong number of objects
  arity : ℕ → Fault
  -- an object that does not fit its parameter
  mistyped : ℕ → Fault
