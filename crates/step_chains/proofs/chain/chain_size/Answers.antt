use Rattle.std.proofs.Common.{◌≡◌, refl, ap, sym, ◌∙◌, ◌||◌, Bool, false, get_or}
use Rattle.step_chains.specs.declared.link.Link.{Link}
use Rattle.step_chains.proofs.WalkLaw.{at, left_next, size_next, size_small}
use Rattle.step_chains.proofs.chain.chain_size.Goals as goal
use Rattle.step_chains.proofs.chain.chain_size.Goals.{then-seen, else-seen}

abbrev none : Link
none = record { action = 0; takes = false; reads = false }

pub loop-link-preserved : goal.loop-link-preserved
loop-link-preserved c =
    let links = c.args.links.now in
    let i = c.loop-link.link-index in
    let is = at links links i _ _ refl c.loop-link-test.true refl in
    let left = left_next links i _ c.loop-link.left c.left_after-left.result is c.loop-link.invariant.0 c.left_after-left.ensures in
    let seen : c.if-seen.seen ≡ (c.loop-link.seen || (get_or links i none).takes) = elim c.if-seen.branch [ then-seen w ↦ w.seen-is ∙ w.if-seen.true ∙ sym (ap (λ (b : Bool). b || (get_or links i none).takes) w.if-seen.true) | else-seen w ↦ w.seen-is ∙ sym (ap (λ (b : Bool). b || (get_or links i none).takes) w.if-seen.false) ] in (
      left,
      c.loop-link.invariant.1 ∙ size_next links i _ c.loop-link.seen c.loop-link.size c.left_after-left.result c.one_size-size.result c.if-seen.seen is left c.one_size-size.ensures.value seen,
      size_small c.loop-link.size c.one_size-size.result i c.loop-link.invariant.2 c.one_size-size.ensures.few,
    )
