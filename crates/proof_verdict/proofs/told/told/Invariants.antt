use Rattle.std.proofs.Common.{◌≡◌, ◌++◌, length}
use Rattle.sat_text.specs.Dimacs.{formula_text}
use Rattle.proof_verdict.proofs.told.told.Given as goal

-- what was told, and what is left to be told, are the text
abbrev pub invariant-telling : goal.invariant-telling
invariant-telling l = l.all.items ++ l.text ≡ formula_text l.fn.word l.fn.horizon l.fn.formula

abbrev pub decreases-telling : goal.decreases-telling
decreases-telling l = length l.text
