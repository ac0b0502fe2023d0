use Rattle.std.proofs.Common.{◌*◌, ◌<◌, ◌||◌, ◌&&◌, ◌∙◌, Bool, List, ℕ, length, not, ap, sym, subst}
use Rattle.std.specs.List.{AllByRecursion}
use Rattle.bit_sets.specs.Rows.{row_has}
use Rattle.gt_core.specs.Literal.{is_in}
use Rattle.successors.proofs.next.after_facts.Goals as goal

pub clear_all-requires : goal.clear_all-requires
clear_all-requires c = subst (λ (n : ℕ). AllByRecursion (λ f. f < 64 * n) c.args.deletes.now) (sym (ap length c.copy.ensures)) c.requires.deletes

pub set_all-requires : goal.set_all-requires
set_all-requires c = subst (λ (n : ℕ). AllByRecursion (λ f. f < 64 * n) c.args.adds.now) (sym (c.clear_all.ensures.long ∙ ap length c.copy.ensures)) c.requires.adds

pub returns-clause-has : goal.returns-clause-has
returns-clause-has c = λ f.
    c.set_all.ensures.has f
    ∙ ap (λ (b : Bool). is_in c.args.adds.now f || b) (c.clear_all.ensures.has f ∙ ap (λ (xs : List ℕ). row_has xs f && not (is_in c.args.deletes.now f)) c.copy.ensures)
