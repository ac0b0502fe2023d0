use Rattle.std.proofs.Common.{arith, rules, refl, ◌≡◌, ◌+◌, ◌∙◌, List, Bool, ap, sym, subst, length, drop}
use Rattle.std.specs.Prelude.{slice_index_or}
use Rattle.std.proofs.lemmas.List.{drop_more}
use Rattle.gt_core.specs.Literal.{state_of}
use Rattle.gt_core.specs.Execution.{Runs, next_values}
use Rattle.state_search.specs.own.Path.{RunsToGoal}
use Rattle.state_search.proofs.PathLaw.{before}
use Rattle.state_search.proofs.shorten.run_to_goal.Goals as goal

pub loop-act-preserved : goal.loop-act-preserved
loop-act-preserved c =
    let inv = c.loop-act.invariant in
    let act = slice_index_or c.args.actions.now c.loop-act.act-index 0 in
    let rest = drop (c.loop-act.act-index + 1) c.args.actions.now in
    let many : length c.acts.result.now ≡ length c.args.task.now.actions = ap length c.acts.ensures.acts in
    let runs : Runs c.args.task.now (state_of c.loop-act.before) act = record { action = omega (arith, many, c.if-act-acts.false); able = sym c.next.ensures.runs ∙ c.if-not-next.false } in
    let next : c.next.new.into ≡ next_values c.args.task.now (state_of c.loop-act.before) act = c.next.ensures.next ∙ rw c.if-not-next.false refl in
    let e : c.copy_from_slice-in-loop-act.new.self ≡ next_values c.args.task.now (state_of c.loop-act.before) act = c.copy_from_slice-in-loop-act.ensures.after ∙ next in
    record {
      left = λ to. inv.left
          (subst (RunsToGoal c.args.task.now (state_of c.loop-act.before)) (sym (drop_more c.args.actions.now c.loop-act.act-index 0 c.loop-act-test.true))
          (before c.args.task.now c.facts-facts.ensures.lawful (state_of c.loop-act.before) act rest runs (subst (λ (s : List Bool). RunsToGoal c.args.task.now (state_of s) rest) e to)));
      before = search rules;
      after = search rules;
    }
