use Rattle.std.proofs.Common.{◌==◌, ◌+◌, take, arith, ◌<◌, ℕ, List, length, subst}
use Rattle.gt_core.specs.Literal.{is_in}
use Rattle.action_order.specs.own.Graph.{item}
use Rattle.action_order.proofs.GrowLaw.{any_more}
use Rattle.action_order.proofs.ReadersLaw.{entered_then}
use Rattle.std.proofs.lemmas.List.{take_all}
use Rattle.gt_core.proofs.published.Lists.{each_number}
use Rattle.action_order.specs.own.Readers.{IsEntered}
use Rattle.action_order.proofs.readers.enter_literals.Goals as goal

pub loop-lit-preserved : goal.loop-lit-preserved
loop-lit-preserved c =
    let i = c.loop-lit.lit-index in
    let lits = c.args.lits.now in
    entered_then (is_in (take i lits)) (λ k. item lits i == k) (is_in (take (i + 1) lits)) c.args.b c.args.rows.now.items c.loop-lit.rows.items c.enter.new.rows.items c.loop-lit.invariant c.in_ok-enter.ensures (λ k. any_more (λ l. l == k) lits i 0 c.loop-lit-test.true)

pub enter-requires : goal.enter-requires
enter-requires c = omega (arith, each_number (λ l. l < length c.args.rows.now.items) c.args.lits.now c.loop-lit.lit-index 0 c.requires c.loop-lit-test.true, c.loop-lit.invariant.long)

pub returns : goal.returns
returns c = subst (λ (ls : List ℕ). IsEntered (is_in ls) c.args.b c.args.rows.now.items c.loop-lit.rows.items) (take_all c.loop-lit.lit-index c.args.lits.now (omega (arith, c.loop-lit-test.false))) c.loop-lit.invariant
