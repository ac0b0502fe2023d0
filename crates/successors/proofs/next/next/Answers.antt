use Rattle.std.proofs.Common.{arith, ℕ, ◌*◌, ◌<◌, ◌≡◌, ◌∙◌, true, sym}
use Rattle.gt_core.specs.Literal.{all_hold, state_of}
use Rattle.gt_core.specs.Execution.{Runs, next_values}
use Rattle.state_store.specs.Packed.{unpacked, IsPacked}
use Rattle.gt_core.specs.Task.{precondition}
use Rattle.gt_core.proofs.published.Within.{precondition_within}
use Rattle.successors.proofs.RowState.{literals_wide, wide, packed_after, next_after, words_of}
use Rattle.successors.proofs.MovesLaw.{needs_are, needs_told}
use Rattle.successors.proofs.next.next.Goals as goal

pub needs-requires : goal.needs-requires
needs-requires c = omega (arith, c.requires.moves.lists, c.requires.act)

pub all_hold-requires : goal.all_hold-requires
all_hold-requires c =
    let task = c.args.task.now in
    let is = c.facts-facts.ensures.lawful in
    rw (needs_are task c.args.moves.now c.args.act (c.requires.moves.each c.args.act c.requires.act) _ c.needs.ensures)
    (literals_wide task.facts _ _ (wide task is c.args.row.now c.requires.packed) (precondition_within task c.args.act is c.requires.act))

pub returns-then-not-all_hold-clause-runs : goal.returns-then-not-all_hold-clause-runs
returns-then-not-all_hold-clause-runs c =
    sym c.if-not-all_hold.true ∙ c.all_hold.ensures ∙ needs_told c.args.task.now c.args.moves.now c.args.act c.args.row.now _ c.facts-facts.ensures.lawful c.requires.packed c.requires.moves c.requires.act c.needs.ensures

-- what it needs holds in the state
able : (c : goal.After-after) → true ≡ all_hold (state_of (unpacked c.args.task.now.facts c.args.row.now)) (precondition c.args.task.now c.args.act)
able c =
    sym c.if-not-all_hold.false ∙ c.all_hold.ensures ∙ needs_told c.args.task.now c.args.moves.now c.args.act c.args.row.now _ c.facts-facts.ensures.lawful c.requires.packed c.requires.moves c.requires.act c.needs.ensures

pub returns-clause-runs : goal.returns-clause-runs
returns-clause-runs c = able c

-- what is made of the row
made : (c : goal.After-after)
    → (unpacked c.args.task.now.facts c.after.new.into.items ≡ next_values c.args.task.now (state_of (unpacked c.args.task.now.facts c.args.row.now)) c.args.act)
    × IsPacked c.args.task.now.facts c.after.new.into.items
made c =
    let task = c.args.task.now in
    let row = c.args.row.now in
    let is = c.facts-facts.ensures.lawful in
    let runs : Runs task (state_of (unpacked task.facts row)) c.args.act = record { action = c.requires.act; able = sym (able c) } in
    let into = c.after.new.into.items in
    let long = c.after.ensures.long ∙ c.requires.into in
    let words = words_of into c.type_inv.into in (
      next_after task is row c.requires.packed c.args.act runs into long c.after.ensures.has words,
      packed_after task is row c.requires.packed c.args.act runs into long c.after.ensures.has words,
    )

pub returns-clause-next : goal.returns-clause-next
returns-clause-next c = λ ran. (made c).0

pub returns-clause-packed : goal.returns-clause-packed
returns-clause-packed c = λ ran. (made c).1
