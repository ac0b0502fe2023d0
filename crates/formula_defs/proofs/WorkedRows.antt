use Rattle.std.proofs.Common.{◌≡◌, [], ◌∷◌, true, false, refl}
use Rattle.gt_core.specs.Task.{Task}
use Rattle.formula_defs.specs.Variables.{layout_of, chains, chain_places}
use Rattle.formula_defs.specs.Formula.{chain_clauses}
use Rattle.formula_defs.specs.Coded.{coded, formula_of, size_of}

-- Worked rows of the formula.

-- a lamp: flip turns it on where it is off; it is off, and is to be on
lamp : Task
lamp = record { facts = 1; initial = false ∷ []; goal = 0 ∷ []; hopeless = false; actions = record { precondition = 1 ∷ []; effects = record { condition = []; literal = 0 } ∷ [] } ∷ [] }

lamp_formula : (formula_of lamp [] (chain_places lamp ((0 ∷ []) ∷ [])) 1).clauses ≡ (3 ∷ []) ∷ (4 ∷ []) ∷ (1 ∷ 3 ∷ []) ∷ (1 ∷ 4 ∷ []) ∷ (3 ∷ 4 ∷ []) ∷ (0 ∷ 2 ∷ 5 ∷ []) ∷ []
unfolding lamp
lamp_formula = refl

lamp_size : size_of lamp [] (chain_places lamp ((0 ∷ []) ∷ [])) 1 ≡ 11
unfolding lamp
lamp_size = refl

-- two actions, each of which takes the other's precondition; facts p 0, q 1, r 2, s 3
rivals : Task
rivals = record {
  facts = 4;
  initial = true ∷ false ∷ false ∷ true ∷ [];
  goal = 2 ∷ 4 ∷ [];
  hopeless = false;
  actions =
      record { precondition = 0 ∷ []; effects = record { condition = []; literal = 2 } ∷ record { condition = []; literal = 7 } ∷ [] }
      ∷ record { precondition = 6 ∷ []; effects = record { condition = []; literal = 1 } ∷ record { condition = []; literal = 4 } ∷ [] }
      ∷ [];
}

rivals_chain_variables : (layout_of rivals (chain_places rivals ((0 ∷ 1 ∷ []) ∷ [])) 1).chains ≡ 1
unfolding rivals
rivals_chain_variables = refl

-- over actions 0 and 1 and the chain variable 2: not one or x, not x or not two
rivals_chain_clauses : coded (chain_clauses (λ a. a) (λ c. 2) rivals (chains rivals (chain_places rivals ((0 ∷ 1 ∷ []) ∷ [])))) ≡ (1 ∷ 4 ∷ []) ∷ (3 ∷ 5 ∷ []) ∷ []
unfolding rivals
rivals_chain_clauses = refl
