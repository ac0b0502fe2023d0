use Rattle.std.proofs.Common.{arith, ◌≡◌, ◌-◌, ◌∙◌, Some}
use Rattle.std.specs.List.{slice_get}
use Rattle.clause_base.specs.Clause.{IsClause, HasVariablesBelow}
use Rattle.clause_base.specs.Repeats.{all_steps, all_times, repeated, variables_of}
use Rattle.clause_base.proofs.PieceLemmas.{holds_at}
use Rattle.clause_base.proofs.published.RepeatLemmas.{length_repeated, get_left, get_right}
use Rattle.clause_base.proofs.repeated.Repeated.clause.Goals as goal

pub clause_of_times-requires : goal.clause_of_times-requires
clause_of_times-requires c = let l = length_repeated c.args.self.now in omega arith

pub returns-then-number-steps : goal.returns-then-number-steps
returns-then-number-steps c =
    let r = c.args.self.now in
    let at : slice_get (repeated r) c.args.number ≡ Some c.clause_of_steps.result = get_left (all_steps r) (all_times r) c.args.number (omega arith) ∙ c.clause_of_steps.ensures in
    record {
      value = at;
      lawful = holds_at IsClause (repeated r) c.args.number c.clause_of_steps.result c.count-all.ensures.lawful at;
      below = holds_at (HasVariablesBelow (variables_of r)) (repeated r) c.args.number c.clause_of_steps.result c.count-all.ensures.below at;
    }

pub returns-else-number-steps : goal.returns-else-number-steps
returns-else-number-steps c =
    let r = c.args.self.now in
    let at : slice_get (repeated r) c.args.number ≡ Some c.clause_of_times.result = get_right (all_steps r) (all_times r) c.args.number (c.args.number - c.step_clauses-steps.result) (omega arith) ∙ c.clause_of_times.ensures in
    record {
      value = at;
      lawful = holds_at IsClause (repeated r) c.args.number c.clause_of_times.result c.count-all.ensures.lawful at;
      below = holds_at (HasVariablesBelow (variables_of r)) (repeated r) c.args.number c.clause_of_times.result c.count-all.ensures.below at;
    }
