use Rattle.std.proofs.Common.{arith, ◌≡◌, ◌+◌, ◌*◌, ◌<◌, ◌≤◌, ℕ, List, sym, ◌∙◌, subst}
use Rattle.std.specs.List.{AllByRecursion}
use Rattle.step_chains.specs.declared.link.Link.{Link}
use Rattle.step_chains.specs.own.Touching.{links_of}
use Rattle.step_chains.specs.BothWays.{ways}
use Rattle.step_chains.proofs.published.ExtendLaw.{nothing_found, literal_more, skip_to, links_within, room_of_literal, all_literals}
use Rattle.step_chains.proofs.chains.Chains.add_members.Goals as goal

pub add_ways-requires-clause-actions : goal.add_ways-requires-clause-actions
add_ways-requires-clause-actions c =
    let below : c.loop-m.m < 2 * c.args.task.now.facts = let a = c.loop-m-test.true in let b = c.literals-end.ensures.value in omega (arith, a, b) in
    let is : c.links.result.now ≡ links_of c.args.task.now c.loop-m.m c.args.members.now = c.links.ensures ∙ c.in_ok-fill.ensures.each c.loop-m.m below in
    subst (λ (ls : List Link). AllByRecursion (λ k. k.action < c.loop-m.self.actions) ls) (sym is)
    (links_within c.args.task.now c.loop-m.m c.loop-m.self.actions c.args.members.now (subst (λ (n : ℕ). AllByRecursion (λ a. a < n) c.args.members.now) (sym c.loop-m.invariant.0) c.requires.members))

pub add_ways-requires-clause-room : goal.add_ways-requires-clause-room
add_ways-requires-clause-room c =
    let below : c.loop-m.m < 2 * c.args.task.now.facts = let a = c.loop-m-test.true in let b = c.literals-end.ensures.value in omega (arith, a, b) in
    let is : c.links.result.now ≡ links_of c.args.task.now c.loop-m.m c.args.members.now = c.links.ensures ∙ c.in_ok-fill.ensures.each c.loop-m.m below in
    room_of_literal c.args.task.now c.args.both c.args.members.now c.loop-m.m c.links.result.now c.args.self.now c.loop-m.self c.loop-m.invariant.1 below c.literals-end.ensures.lawful is c.requires.room

pub loop-m-preserved : goal.loop-m-preserved
loop-m-preserved c =
    let below : c.loop-m.m < 2 * c.args.task.now.facts = let a = c.loop-m-test.true in let b = c.literals-end.ensures.value in omega (arith, a, b) in
    let is : c.links.result.now ≡ links_of c.args.task.now c.loop-m.m c.args.members.now = c.links.ensures ∙ c.in_ok-fill.ensures.each c.loop-m.m below in
    let e = c.in_ok-add_ways.ensures c.args.task.now c.args.members.now c.loop-m.m is in
    let one = literal_more c.args.task.now (ways c.args.both c.args.members.now) c.loop-m.m c.args.self.now c.loop-m.self c.add_ways.new.self c.loop-m.invariant.1 e in
    let within : c.next-after.result ≤ 2 * c.args.task.now.facts = let a = c.next-after.ensures.within in let b = c.literals-end.ensures.value in omega (arith, a, b) in (
      e.actions ∙ c.loop-m.invariant.0,
      skip_to c.args.task.now c.args.both c.args.members.now c.fill.new.self (c.loop-m.m + 1) c.next-after.result c.args.self.now c.add_ways.new.self c.in_ok-fill.ensures c.next-after.ensures.from within c.next-after.ensures.none one,
      c.next-after.ensures.within,
    )

pub loop-m-init : goal.loop-m-init
loop-m-init c =
    let within : c.next-m.result ≤ 2 * c.args.task.now.facts = let a = c.next-m.ensures.within in let b = c.literals-end.ensures.value in omega (arith, a, b) in (
      c.requires.actions,
      skip_to c.args.task.now c.args.both c.args.members.now c.fill.new.self 0 c.next-m.result c.args.self.now c.args.self.now c.in_ok-fill.ensures (omega arith) within c.next-m.ensures.none (nothing_found c.args.task.now c.args.self.now),
      c.next-m.ensures.within,
    )

pub returns-clause-added : goal.returns-clause-added
returns-clause-added c =
    let e : c.loop-m.m ≡ 2 * c.args.task.now.facts = let a = c.loop-m-test.false in let b = c.literals-end.ensures.value in let d = c.loop-m.invariant.2 in omega (arith, a, b, d) in
    all_literals c.args.task.now c.args.both c.args.members.now c.loop-m.m c.args.self.now c.loop-m.self e c.loop-m.invariant.1
