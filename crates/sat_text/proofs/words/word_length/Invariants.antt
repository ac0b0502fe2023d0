use Rattle.sat_text.proofs.Fronts.{FrontsAt}
use Rattle.sat_text.proofs.words.word_length.Given as goal

abbrev pub invariant-loop-place : goal.invariant-loop-place
invariant-loop-place l = FrontsAt l.text l.place
