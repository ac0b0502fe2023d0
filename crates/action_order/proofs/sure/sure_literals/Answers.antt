use Rattle.std.proofs.Common.{arith, length, ◌≡◌, ◌*◌, ◌==◌, ◌&&◌, ◌||◌, ◌+◌, ℕ, List, [], ◌∷◌, ◌++◌, take, Bool, true, false, ap, ◌∙◌}
use Rattle.std.proofs.Math.Seq.{take-length}
use Rattle.gt_core.specs.Literal.{is_in}
use Rattle.gt_core.specs.Task.{Effect}
use Rattle.action_order.specs.own.Sure.{is_sure, is_sure_of, makes_surely}
use Rattle.action_order.proofs.GrowLaw.{in_pushed}
use Rattle.action_order.proofs.SureLaw.{sure_more, sure_below}
use Rattle.action_order.proofs.sure.sure_literals.Goals as goal
use Rattle.action_order.proofs.sure.sure_literals.Goals.{then-makes_surely+in_ok-push, else-makes_surely}

pub loop-effect-preserved : goal.loop-effect-preserved
loop-effect-preserved c k =
    let i = c.loop-effect.effect-index in
    let effects = c.args.effects.now in
    let e = c.effect-item.result in
    let sure = c.loop-effect.sure.items in
    let law = sure_more effects c.args.made.now sure i e c.loop-effect-test.true c.requires.made c.loop-effect.invariant k in
    let more : ((c.makes_surely.result && (e.literal == k)) || is_in sure k) ≡ is_sure_of (take (i + 1) effects) effects k =
    ap (λ (t : Bool). (t && (e.literal == k)) || is_in sure k) c.makes_surely.ensures
    ∙ ap (λ (x : Effect). (makes_surely c.args.made.now x && (x.literal == k)) || is_in sure k) c.effect-item.is ∙ law in
    elim c.if-makes_surely.branch [
      | then-makes_surely+in_ok-push w ↦
          let pushed : c.if-makes_surely.sure.items ≡ sure ++ e.literal ∷ [] = let s = w.sure-is in let p = w.in_ok-push.ensures.items in let l = w.lit.ensures in cc in
          let yes : c.makes_surely.result ≡ true = w.if-makes_surely.true in
          ap (λ (xs : List ℕ). is_in xs k) pushed ∙ in_pushed sure e.literal k ∙ rw yes at more
      | else-makes_surely w ↦
          let no : c.makes_surely.result ≡ false = w.if-makes_surely.false in
          let same : c.if-makes_surely.sure.items ≡ sure = let s = w.sure-is in cc in
          ap (λ (xs : List ℕ). is_in xs k) same ∙ rw no at more
    ]

pub returns : goal.returns
returns c =
    let i = c.loop-effect.effect-index in
    let effects = c.args.effects.now in
    let sure = c.loop-effect.sure.items in
    let end : i ≡ length effects = omega arith in
    let whole : take i effects ≡ effects = ap (λ (n : ℕ). take n effects) end ∙ take-length effects in
    let tells : (l : ℕ) → is_in sure l ≡ is_sure effects l = λ l. c.loop-effect.invariant l ∙ ap (λ (es : List Effect). is_sure_of es effects l) whole in
    rw c.of.ensures (record { tells = tells; below = sure_below (2 * c.args.facts) effects sure tells c.requires.within })
