use Rattle.std.proofs.Common.{arith, get_or, ℕ, false, ap, sym, ◌∙◌}
use Rattle.propagation.proofs.Slotted.{flag_at}
use Rattle.propagation.proofs.slots.is_slot_kept.Goals as goal

pub is_kept-requires-clause-inside : goal.is_kept-requires-clause-inside
is_kept-requires-clause-inside c = omega (arith, c.number_at.ensures, c.requires.below c.args.slot c.requires.inside)

pub returns : goal.returns
returns c =
    c.is_kept.ensures ∙ ap (λ (n : ℕ). get_or c.args.tables.now.kept.items n false) c.number_at.ensures ∙ sym
    (flag_at c.args.tables.now.kept.items c.args.tables.now.slots.items c.args.slot c.requires.inside)
