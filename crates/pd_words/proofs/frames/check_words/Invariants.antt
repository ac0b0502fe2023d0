use Rattle.std.proofs.Common.{◌≡◌, drop}
use Rattle.pd_sexp.specs.View.{views}
use Rattle.pd_words.specs.Frames.{words}
use Rattle.pd_words.proofs.frames.check_words.Given as goal

abbrev pub invariant-loop-item : goal.invariant-loop-item
invariant-loop-item l = words (views (drop l.item-index l.items)) ≡ words (views l.items)
