use Rattle.pd_words.proofs.ancestors.+ancestors.Given as goal

abbrev pub decreases-ancestors : goal.decreases-ancestors
decreases-ancestors l = l.steps
