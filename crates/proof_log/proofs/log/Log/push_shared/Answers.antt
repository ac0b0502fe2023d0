use Rattle.std.proofs.Common.{arith, ◌∙◌, ◌++◌, ◌∷◌, [], ◌+◌, ap, List}
use Rattle.clause_base.specs.declared.log.Entry.{Entry}
use Rattle.clause_base.specs.declared.log.Entry.TheVariants.{Learn}
use Rattle.proof_log.specs.own.Held.{IsHeld, entries_of}
use Rattle.proof_log.proofs.HeldLaws.{held_learn, held_shown, shown, count_within}
use Rattle.proof_log.proofs.log.Log.push_shared.Goals as goal

-- what is held then
held : (c : goal.After-self-1) → IsHeld (entries_of c.self.inside.count c.self.inside.learned.items c.self.inside.steps.items ++ Learn c.args.clause.now c.args.hints.now ∷ []) (c.self.inside.count + 1) c.add_learned.new.learned.items c.add_learned.new.steps.items
held c = held_learn _ _ _ _ _ _ c.args.clause.now c.args.hints.now c.self.invariant c.in_ok-add_learned.ensures.clause c.in_ok-add_learned.ensures.hints (c.requires, c.in_ok-add_learned.ensures.few)

pub overflow_add-self : goal.overflow_add-self
overflow_add-self c =
    let more = held_learn _ _ _ _ _ _ c.args.clause.now c.args.hints.now c.self.invariant c.in_ok-add_learned.ensures.clause c.in_ok-add_learned.ensures.hints (c.requires, c.in_ok-add_learned.ensures.few) in
    let within = count_within _ _ _ _ more in
    omega (arith, within)

pub invariant_of-self-2 : goal.invariant_of-self-2
invariant_of-self-2 c = held_shown _ _ _ _ (held c)

pub returns-clause-ok : goal.returns-clause-ok
returns-clause-ok c = shown _ _ _ _ (held c) ∙ ap (λ (es : List Entry). es ++ Learn c.args.clause.now c.args.hints.now ∷ []) c.self.view_is
