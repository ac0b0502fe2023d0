use Rattle.std.proofs.Common.{◌≡◌, drop}
use Rattle.state_store.specs.own.Table.{hash_from}
use Rattle.state_store.proofs.table.hash_of.Given as goal

-- what is left goes into the hash of what was read
abbrev pub invariant-loop-word : goal.invariant-loop-word
invariant-loop-word l = hash_from l.hash (drop l.word-index l.row) ≡ hash_from 0 l.row
