use Rattle.std.proofs.Common.{◌≡◌, [], drop}
use Rattle.pd_sexp.specs.View.{views}
use Rattle.pd_words.specs.First.{each}
use Rattle.pd_words.specs.Frames.{section}
use Rattle.pd_words.proofs.frames.check_sections.Given as goal

abbrev pub invariant-loop-section : goal.invariant-loop-section
invariant-loop-section l = each (section l.file) l.seen (views (drop l.section-index l.sections)) ≡ each (section l.file) [] (views l.sections)
