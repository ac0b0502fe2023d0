use Rattle.std.proofs.Common.{◌≡◌, [], drop}
use Rattle.pd_sexp.specs.View.{views}
use Rattle.pd_words.specs.First.{each}
use Rattle.pd_task.specs.Reading.{and_section}
use Rattle.pd_task.specs.own.Scope.{names_with}
use Rattle.pd_task.proofs.actions.read_actions.Given as goal

abbrev pub invariant-loop-section : goal.invariant-loop-section
invariant-loop-section l =
    each (and_section l.vocabulary.types.now (names_with l.vocabulary [])) l.actions.decls.items (views (drop l.section-index l.sections))
    ≡ each (and_section l.vocabulary.types.now (names_with l.vocabulary [])) [] (views l.sections)
