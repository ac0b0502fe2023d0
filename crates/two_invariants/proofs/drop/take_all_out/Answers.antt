use Rattle.std.proofs.Common.{◌==◌, ◌&&◌, ◌||◌, not, ◌∙◌, ℕ, List, [], ap}
use Rattle.std.proofs.lemmas.List.{get_or_read}
use Rattle.bit_sets.specs.Rows.{row_has}
use Rattle.two_invariants.proofs.Dropping.{row_less}
use Rattle.two_invariants.proofs.drop.take_all_out.Goals as goal

pub returns-clause-has : goal.returns-clause-has
returns-clause-has c =
    let rows = c.args.rows.now.items in
    let read = get_or_read rows c.args.row c.index_mut-bits.result.now c.requires.row c.index_mut-bits.ensures.value [] in
    row_less rows c.args.row c.subtract.new.self (row_has c.args.lits.now) c.requires.row (λ b. c.subtract.ensures.has b ∙ ap (λ (r : List ℕ). row_has r b && not (row_has c.args.lits.now b)) read)

pub returns-clause-stale : goal.returns-clause-stale
returns-clause-stale c k = c.set.ensures.has k ∙ ap (λ (n : ℕ). (n == k) || row_has c.args.stale.now k) c.opposite.ensures
