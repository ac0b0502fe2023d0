use Rattle.std.proofs.Common.{◌∙◌, List, ℕ, option_map, sym, ap}
use Rattle.clause_base.specs.declared.log.Entry.{Entry}
use Rattle.lrat_judge.specs.Follow.{without}
use Rattle.lrat_judge.proofs.Entering.{follow_deletes, follow_adds, stands_entered, stands_as, ok_stands_as}
use Rattle.lrat_judge.proofs.lines.take_read.Goals as goal

pub returns-then-line-clause-exact : goal.returns-then-line-clause-exact
returns-then-line-clause-exact c known view stands held =
    let f = c.args.checker.now.formula in
    let dropped = c.forget.ensures.exact known.log stands.taken stands.entries_are in
    let same = ap (λ (table : List ℕ). without f table c.args.line.now.ids.items known.log) stands.ids_are ∙ ap (λ (ids : List ℕ). without f known.ids ids known.log) held.hints in
    let entered = stands_entered _ _ c.args.ids.now known.ids _ _ stands.ids_are dropped in
    stands_as _ _ _ _ _ _ (ap (option_map (λ (log : List Entry). record { ids = known.ids; log = log })) same ∙ sym (follow_deletes f known view (sym held.deletes ∙ c.if-line.true))) entered

pub returns-clause-exact : goal.returns-clause-exact
returns-clause-exact c known view stands held =
    ok_stands_as _ _ _ _ _ _ (sym (follow_adds c.args.checker.now.formula known view (sym held.deletes ∙ c.if-line.false))) (c.learn.ensures.exact known view stands held)
