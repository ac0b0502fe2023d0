use Rattle.std.proofs.Common.{◌≡◌, drop}
use Rattle.pd_sexp.specs.View.{views}
use Rattle.pd_words.specs.Frames.{find_section}
use Rattle.pd_words.proofs.frames.find_section.Given as goal

abbrev pub invariant-loop-section : goal.invariant-loop-section
invariant-loop-section l = find_section l.head (views (drop l.section-index l.sections)) ≡ find_section l.head (views l.sections)
