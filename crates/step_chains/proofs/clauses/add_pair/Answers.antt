use Rattle.std.proofs.Common.{List, ℕ, [], ◌∷◌, ◌++◌, ap, ◌∙◌}
use Rattle.clause_base.specs.Clause.{clause_of}
use Rattle.formula_defs.proofs.published.CodedLaw.{option_same}
use Rattle.step_chains.proofs.clauses.add_pair.Goals as goal

pub returns : goal.returns
returns c = c.in_ok-add_of.ensures.ok ∙ ap (λ (xs : List (List ℕ)). c.args.clauses.now ++ xs) (option_same (clause_of (c.args.one ∷ c.args.other ∷ [])))
