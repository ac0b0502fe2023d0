use Rattle.std.proofs.Common.{◌∙◌, refl, ap}
use Rattle.goal_choice.specs.own.Members.{Literals}
use Rattle.goal_choice.proofs.Kept.{chooses, goes_on, other_facts}
use Rattle.goal_choice.proofs.descent.step_down.Goals as goal

pub returns-in-Some-clause-chosen : goal.returns-in-Some-clause-chosen
returns-in-Some-clause-chosen c =
    chooses c.args.means.now c.args.values.now c.args.wanted.now.items c.args.low c.in-Some.choice c.index-after.result.now c.wanted_before.new.before _ refl c.requires.walk c.requires.low c.index-after.ensures c.in-Some.ensures.step

pub returns-in-None-clause-lower : goal.returns-in-None-clause-lower
returns-in-None-clause-lower c =
    goes_on c.args.means.now c.args.values.now c.args.wanted.now.items c.args.low c.index-after.result.now c.args.before.now c.wanted_before.new.before c.swap.new.x c.requires.walk c.requires.low c.index-after.ensures c.in-None.ensures.step c.swap.ensures.x_after
    (c.in-None.ensures.before ∙ ap (λ (s : Literals). s.facts) c.clear.ensures) c.requires.before c.keeps_within.ensures

pub returns-in-None-clause-before : goal.returns-in-None-clause-before
returns-in-None-clause-before c =
    other_facts c.args.means.now c.args.values.now c.args.wanted.now.items c.args.low c.swap.new.y c.index_mut.result.now c.requires.walk c.requires.low c.swap.ensures.y_after c.index_mut.ensures.value
