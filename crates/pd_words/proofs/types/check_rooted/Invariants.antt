use Rattle.std.proofs.Common.{◌≡◌, ◌+◌, drop}
use Rattle.pd_words.specs.Types.{rooted}
use Rattle.pd_words.proofs.types.check_rooted.Given as goal

abbrev pub invariant-loop-place : goal.invariant-loop-place
invariant-loop-place l = (l.kind ≡ l.place-index + 1) × (rooted l.parents l.kind (drop l.place-index l.places) ≡ rooted l.parents 1 l.places)
