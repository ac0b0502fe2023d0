use Rattle.std.proofs.Common.{◌∙◌, ◌%◌, length}
use Rattle.std.proofs.lemmas.Nat.{mod_below}
use Rattle.two_invariants.proofs.Numbering.{numbers_read}
use Rattle.two_invariants.proofs.by_literal.list_of.Goals as goal

pub returns : goal.returns
returns c =
    c.as_slice.ensures.value
    ∙ numbers_read c.args.lists.now (c.args.key % length c.args.lists.now) c.index-lists-key.result (mod_below c.args.key (length c.args.lists.now) c.requires) c.index-lists-key.is
