use Rattle.std.proofs.Common.{arith, ◌*◌, ◌+◌, ◌<◌, ◌||◌, ◌&&◌, ◌≡◌, ◌∙◌, List, ℕ, ap, sym}
use Rattle.gt_core.specs.Task.{action}
use Rattle.gt_core.proofs.published.Within.{action_effects_within}
use Rattle.bit_sets.specs.Rows.{row_has}
use Rattle.successors.specs.own.After.{after_effects}
use Rattle.successors.proofs.RowState.{effects_wide, wide}
use Rattle.successors.proofs.MovesLaw.{deletes_are, adds_are, facts_wide, made_plain}
use Rattle.successors.proofs.next.after.Goals as goal

pub is_plain-requires : goal.is_plain-requires
is_plain-requires c = omega (arith, c.requires.moves.plains, c.requires.act)

pub after_each-requires-clause-within : goal.after_each-requires-clause-within
after_each-requires-clause-within c =
    let task = c.args.task.now in
    let is = c.act-does.ensures.lawful in
    rw (c.effects.ensures, c.act-does.ensures.act) (effects_wide task.facts _ _ (wide task is c.args.row.now c.requires.packed) (action_effects_within task c.args.act is c.requires.act))

pub deletes-requires : goal.deletes-requires
deletes-requires c = omega (arith, c.requires.moves.lists, c.requires.act)

pub adds-requires : goal.adds-requires
adds-requires c = omega (arith, c.requires.moves.lists, c.requires.act)

pub after_facts-requires-clause-deletes : goal.after_facts-requires-clause-deletes
after_facts-requires-clause-deletes c =
    let task = c.args.task.now in
    let made = deletes_are task c.args.moves.now c.args.act (c.requires.moves.each c.args.act c.requires.act) _ c.deletes.ensures (sym c.is_plain.ensures ∙ c.if-not-is_plain.false) in
    facts_wide task.facts _ _ (wide task c.act-does.ensures.lawful c.args.row.now c.requires.packed) made.within

pub after_facts-requires-clause-adds : goal.after_facts-requires-clause-adds
after_facts-requires-clause-adds c =
    let task = c.args.task.now in
    let made = adds_are task c.args.moves.now c.args.act (c.requires.moves.each c.args.act c.requires.act) _ c.adds.ensures (sym c.is_plain.ensures ∙ c.if-not-is_plain.false) in
    facts_wide task.facts _ _ (wide task c.act-does.ensures.lawful c.args.row.now c.requires.packed) made.within

pub returns-then-not-is_plain-clause-has : goal.returns-then-not-is_plain-clause-has
returns-then-not-is_plain-clause-has c = λ f.
    c.after_each.ensures.has f ∙ ap (λ es. after_effects (row_has c.args.row.now) es f) (c.effects.ensures ∙ ap (λ a. a.effects) c.act-does.ensures.act)

pub returns-clause-has : goal.returns-clause-has
returns-clause-has c = λ f.
    let task = c.args.task.now in
    let at = c.requires.moves.each c.args.act c.requires.act in
    let plain = sym c.is_plain.ensures ∙ c.if-not-is_plain.false in
    c.after_facts.ensures.has f
    ∙ made_plain task.facts (action task c.args.act).effects c.deletes.result.now c.adds.result.now (deletes_are task c.args.moves.now c.args.act at _ c.deletes.ensures plain) (adds_are task c.args.moves.now c.args.act at _ c.adds.ensures plain) (row_has c.args.row.now) f
