use Rattle.std.proofs.Common.{◌≡◌, ◌∙◌, ℕ, suc, List, ◌∷◌, fold, ap, sym, subst, arith}
use Rattle.containers.specs.Rising.{put}
use Rattle.clause_base.specs.Clause.{HasVariablesBelow}
use Rattle.rup_check.proofs.entry.falsify_all.Goals as goal

-- what holds of all literals holds of those after the first
below_rest : (variables lit : ℕ) (lits rest : List ℕ) → lits ≡ lit ∷ rest → HasVariablesBelow variables lits → HasVariablesBelow variables rest
below_rest variables lit lits rest e b = λ k d h. (subst (HasVariablesBelow variables) e b) (suc k) d (omega arith)

pub loop-lit-preserved : goal.loop-lit-preserved
loop-lit-preserved c =
    let i = c.loop-lit.invariant in
    record {
      rest = i.rest ∙ ap (fold put c.loop-lit.marks.falsified) c.in-Some.ensures.some ∙ ap (λ (ls : List ℕ). fold put ls c.next.new.self) (sym c.in_ok-falsify.ensures.falsified);
      below = below_rest c.args.marks.now.variables c.in-Some.lit c.loop-lit.left c.next.new.self c.in-Some.ensures.some i.below;
      variables = c.in_ok-falsify.ensures.variables ∙ i.variables;
    }
