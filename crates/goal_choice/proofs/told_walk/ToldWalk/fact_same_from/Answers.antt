use Rattle.std.proofs.Common.{arith, ◌≡◌, ◌+◌, ◌*◌, ◌∙◌, ℕ, Bool, true, false, subst, ap, if◌then◌else◌}
use Rattle.std.specs.Int.{from_bool}
use Rattle.std.specs.List.{AllByRecursion}
use Rattle.std.proofs.lemmas.List.{get_or_default}
use Rattle.formula_defs.specs.Layout.{Layout, fact_at}
use Rattle.goal_choice.specs.own.Members.{Literals, no_literals}
use Rattle.goal_choice.specs.own.Kept.{IsWalk, set_at}
use Rattle.goal_choice.specs.own.Told.{ToldView, walk_of}
use Rattle.goal_choice.proofs.Kept.{same_last, same_open, same_after, same_unwanted, same_low}
use Rattle.goal_choice.proofs.told_walk.ToldWalk.fact_same_from.Goals as goal

byte : (b : Bool) (n : ℕ) → n ≡ from_bool b → n ≡ (if b then 1 else 0)
byte true n e = e
byte false n e = e

pub returns-then-time-self-clause-same : goal.returns-then-time-self-clause-same
returns-then-time-self-clause-same c =
    let low = ap (λ (w : ToldView). w.low) c.self.view_is in
    let t = c.if-time-self.true in
    let w = walk_of c.args.self.now in
    same_low w (fact_at w.means.layout c.args.time c.args.fact) (c.args.time + 1) c.args.value (same_after w c.args.time c.args.fact c.args.value (subst (λ (v : ToldView). IsWalk (walk_of v)) c.self.view_is c.self.invariant.walk) c.requires) (omega (arith, low, t))

pub returns-then-time-layout-clause-same : goal.returns-then-time-layout-clause-same
returns-then-time-layout-clause-same c =
    let n = ap (λ (z : Layout). z.horizon) (c.behind-self.view_is ∙ c.layout.ensures.layout) ∙ ap (λ (w : ToldView). w.means.layout.horizon) c.self.view_is in
    let t = c.if-time-layout.true in
    same_last (walk_of c.args.self.now) c.args.time c.args.fact c.args.value (subst (λ (v : ToldView). IsWalk (walk_of v)) c.self.view_is c.self.invariant.walk) (omega (arith, n, t)) c.requires

pub returns-in-None-clause-same : goal.returns-in-None-clause-same
returns-in-None-clause-same c =
    let n = ap (λ (z : Layout). z.horizon) (c.behind-self.view_is ∙ c.layout.ensures.layout) ∙ ap (λ (w : ToldView). w.means.layout.horizon) c.self.view_is in
    let t = c.if-time-layout.false in
    same_open (walk_of c.args.self.now) c.args.time c.args.fact c.args.value (subst (λ (v : ToldView). IsWalk (walk_of v)) c.self.view_is c.self.invariant.walk) (omega (arith, n, t)) c.requires c.in-None.is

pub returns-then-contains-clause-same : goal.returns-then-contains-clause-same
returns-then-contains-clause-same c = same_after (walk_of c.args.self.now) c.args.time c.args.fact c.args.value (subst (λ (v : ToldView). IsWalk (walk_of v)) c.self.view_is c.self.invariant.walk) c.requires

pub returns-else-contains-clause-same : goal.returns-else-contains-clause-same
returns-else-contains-clause-same c =
    let n = ap (λ (z : Layout). z.horizon) (c.behind-self.view_is ∙ c.layout.ensures.layout) in
    let m = ap (λ (w : ToldView). w.means.layout.horizon) c.self.view_is in
    let t = c.if-time-layout.false in
    let long = c.self.invariant.walk.long in
    let lit = 2 * c.args.fact + c.from.result in
    let row : c.index.result.now ≡ set_at c.args.self.now.wanted (c.args.time + 1) =
    c.index.ensures ∙ get_or_default c.self.inside.wanted.items (c.args.time + 1) c.index.result.now (no_literals 0) (omega (arith, long, n, t)) ∙ ap (λ (w : ToldView). set_at w.wanted (c.args.time + 1)) c.self.view_is in
    same_unwanted (walk_of c.args.self.now) c.args.time c.args.fact c.from.result c.args.value c.in-Some.given (subst (λ (v : ToldView). IsWalk (walk_of v)) c.self.view_is c.self.invariant.walk) (omega (arith, n, m, t)) c.requires c.in-Some.is (byte c.in-Some.given c.from.result c.from.ensures)
    (subst (λ (s : Literals). AllByRecursion (λ l. l ≡ lit → ⊥) s.members) row c.if-contains.ensures)
