-- Pieces of text that differ in a number alone.
use Rattle.std.specs.Prelude.{ℕ, ◌+◌, List, [], ◌++◌, decimal, zero, suc}

-- The numbers from 1 on, as many as count says, each printed in decimal between the same two texts.
abbrev pub numbered : (before after : List ℕ) (count : ℕ) → List ℕ
numbered before after zero = []
numbered before after (suc count) =
    numbered before after count ++ before ++ decimal (count + 1) ++ after
