use Rattle.std.proofs.Common.{◌≡◌, ◌+◌, ◌++◌, ◌∷◌, [], List, Option, ℕ, take, add-one, sym, subst}
use Rattle.plan_top.specs.own.Parts.{ArePrepared}
use Rattle.plan_top.proofs.Lists.{take_more}
use Rattle.plan_top.proofs.parts.parts_of.Goals as goal

pub part_of-requires-clause-words : goal.part_of-requires-clause-words
part_of-requires-clause-words g c κs within = c.loop-problem.invariant.words

pub loop-problem-preserved : goal.loop-problem-preserved
loop-problem-preserved g c =
    let domain = c.args.domain.now in
    let problems = c.args.problems.now in
    let i = c.loop-problem.problem-index in
    let problem = c.problem-item.result in
    let so = c.loop-problem.invariant in
    let here : take (i + 1) problems ≡ take i problems ++ problem ∷ [] = rw add-one (take_more problems i problem c.loop-problem-test.true c.problem-item.is) in
    record {
      first = so.first;
      words = so.words;
      prepared = subst (λ (xs : List (Option (List ℕ))). ArePrepared domain xs c.push.new.self.ended.items c.push.new.self.runs.items) (sym here)
          (c.in_ok-push.ensures.part domain (take i problems) problem so.prepared (c.in_ok-part_of.ensures.part domain so.first));
    }
