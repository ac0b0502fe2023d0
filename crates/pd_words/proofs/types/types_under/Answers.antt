use Rattle.std.proofs.Common.{◌∙◌, sym}
use Rattle.std.proofs.lemmas.List.{append-nil, drop_all}
use Rattle.pd_words.proofs.types.types_under.Goals as goal

pub returns-clause-types : goal.returns-clause-types
returns-clause-types c = sym (append-nil c.loop-name.decls.items) ∙ (rw (drop_all c.loop-name.name-index c.args.names.now c.loop-name-test.false) at c.loop-name.invariant)
