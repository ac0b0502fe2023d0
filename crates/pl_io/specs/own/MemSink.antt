-- A sink in memory.
use Rattle.std.specs.Prelude.{ℕ, List, ◌-◌, length, min}

-- how many bytes a call takes at most, the numbers of the calls that fail, how many bytes there is room for in all, how
-- many calls and how many faults there were, and the bytes taken
pub record SinkInMemory : Type 0 where
  pub most : ℕ
  pub failing : List ℕ
  pub room : ℕ
  pub calls : ℕ
  pub faults : ℕ
  pub taken : List ℕ

-- how many bytes of a text of this length a call takes that is none of those that fail
abbrev pub part_taken : SinkInMemory → ℕ → ℕ
part_taken sink count = min (min count sink.most) (sink.room - length sink.taken)
