use Rattle.std.proofs.Common.{◌≡◌, ◌++◌, drop}
use Rattle.pd_words.specs.Types.{types_under}
use Rattle.pd_words.proofs.types.types_under.Given as goal

abbrev pub invariant-loop-name : goal.invariant-loop-name
invariant-loop-name l = l.decls.items ++ types_under (drop l.name-index l.names) l.rest ≡ types_under l.names l.numbers
