use Rattle.std.proofs.Common.{◌≡◌, ◌∙◌, sym, ap, subst, Some}
use Rattle.state_store.specs.Store.{with_state}
use Rattle.state_store.specs.Packed.{unpacked, IsPacked}
use Rattle.gt_core.specs.Literal.{state_of}
use Rattle.gt_core.specs.Execution.{Runs, next_values}
use Rattle.state_search.specs.own.Walk.{IsWalk}
use Rattle.state_search.proofs.WalkLaw.{walk_push}
use Rattle.state_search.proofs.walk.propose.Goals as goal

pub enter-requires : goal.enter-requires
enter-requires c =
    let row : IsPacked c.args.task.now.facts c.deref.result.now = subst (IsPacked c.args.task.now.facts) (sym c.deref.ensures.value) (c.next.ensures.packed c.if-not-next.false) in
    subst (λ n. IsPacked n c.deref.result.now) (sym c.requires.walk.facts) row

pub returns-in-Known-clause-proposed : goal.returns-in-Known-clause-proposed
returns-in-Known-clause-proposed c =
    let state : unpacked c.args.store.now.facts c.deref.result.now ≡ next_values c.args.task.now (state_of (unpacked c.args.task.now.facts c.args.before.now)) c.args.act =
    ap (λ n. unpacked n c.deref.result.now) c.requires.walk.facts ∙ ap (unpacked c.args.task.now.facts) c.deref.ensures.value ∙ c.next.ensures.next c.if-not-next.false in
    (c.in-Known.ensures.0, (_, c.in-Known.ensures.1 ∙ ap Some state))

pub returns-in-New-clause-proposed : goal.returns-in-New-clause-proposed
returns-in-New-clause-proposed c =
    let runs : Runs c.args.task.now (state_of (unpacked c.args.task.now.facts c.args.before.now)) c.args.act = record { action = c.requires.act; able = sym c.next.ensures.runs ∙ c.if-not-next.false } in
    let state : unpacked c.args.store.now.facts c.deref.result.now ≡ next_values c.args.task.now (state_of (unpacked c.args.task.now.facts c.args.before.now)) c.args.act =
    ap (λ n. unpacked n c.deref.result.now) c.requires.walk.facts ∙ ap (unpacked c.args.task.now.facts) c.deref.ensures.value ∙ c.next.ensures.next c.if-not-next.false in
    (runs, c.in-New.ensures.1 ∙ ap (λ s. with_state c.args.store.now s c.args.parent c.args.act) state)

pub returns-in-New-clause-walk : goal.returns-in-New-clause-walk
returns-in-New-clause-walk c =
    let runs : Runs c.args.task.now (state_of (unpacked c.args.task.now.facts c.args.before.now)) c.args.act = record { action = c.requires.act; able = sym c.next.ensures.runs ∙ c.if-not-next.false } in
    let state : unpacked c.args.store.now.facts c.deref.result.now ≡ next_values c.args.task.now (state_of (unpacked c.args.task.now.facts c.args.before.now)) c.args.act =
    ap (λ n. unpacked n c.deref.result.now) c.requires.walk.facts ∙ ap (unpacked c.args.task.now.facts) c.deref.ensures.value ∙ c.next.ensures.next c.if-not-next.false in
    let new = walk_push c.args.task.now c.args.store.now c.args.parent c.args.act (unpacked c.args.task.now.facts c.args.before.now) c.requires.walk c.requires.parent runs in
    subst (IsWalk c.args.task.now) (sym (c.in-New.ensures.1 ∙ ap (λ s. with_state c.args.store.now s c.args.parent c.args.act) state)) new

pub returns-in-Full-clause-proposed : goal.returns-in-Full-clause-proposed
returns-in-Full-clause-proposed c = (c.in-Full.ensures.0, c.in-Full.ensures.2)
