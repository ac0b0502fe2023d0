use Rattle.std.proofs.Common.{arith, ◌∙◌, ◌++◌, ◌+◌, ◌≤◌, ap, List, map, length}
use Rattle.clause_base.specs.declared.log.Entry.{Entry}
use Rattle.clause_base.specs.declared.log.Entry.TheVariants.{Drop}
use Rattle.proof_log.specs.own.Held.{IsHeld, entries_of}
use Rattle.proof_log.proofs.HeldLaws.{held_drops, held_shown, shown, count_within}
use Rattle.proof_log.proofs.log.Log.push_drops.Goals as goal

-- what is held then
held : (c : goal.After-self-1) → IsHeld (entries_of c.self.inside.count c.self.inside.learned.items c.self.inside.steps.items ++ map (λ n. Drop n) c.args.numbers.now) (c.self.inside.count + length c.args.numbers.now) c.self.inside.learned.items c.add_drops.new.steps.items
held c = held_drops _ _ _ _ _ c.args.numbers.now c.self.invariant c.in_ok-add_drops.ensures.ok c.in_ok-add_drops.ensures.small

pub overflow_add-self : goal.overflow_add-self
overflow_add-self c =
    let more = held_drops _ _ _ _ _ c.args.numbers.now c.self.invariant c.in_ok-add_drops.ensures.ok c.in_ok-add_drops.ensures.small in
    let within : c.self.inside.count + length c.args.numbers.now ≤ length c.add_drops.new.steps.items = count_within _ _ _ _ more in
    omega (arith, within)

pub invariant_of-self-2 : goal.invariant_of-self-2
invariant_of-self-2 c = held_shown _ _ _ _ (held c)

pub returns-clause-ok : goal.returns-clause-ok
returns-clause-ok c = shown _ _ _ _ (held c) ∙ ap (λ (es : List Entry). es ++ map (λ n. Drop n) c.args.numbers.now) c.self.view_is
