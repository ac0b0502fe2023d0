use Rattle.std.proofs.Common.{ap, ◌∙◌, ◌++◌, ◌∷◌, [], ℕ, ◌||◌}
use Rattle.step_chains.specs.declared.link.Link.{Link}
use Rattle.step_chains.proofs.IndexLaw.{marked_again}
use Rattle.step_chains.proofs.link.mark.Goals as goal

pub returns-then-last-action-clause-marked : goal.returns-then-last-action-clause-marked
returns-then-last-action-clause-marked c base t r away old =
    let h = c.in-Some.ensures.some in
    let g = c.joined.ensures in
    let j = c.in_ok-push-2.ensures.ok in
    marked_again c.args.action c.args.takes c.args.reads c.requires base t r away c.args.links.now c.pop.new.self c.push-then-last-action.new.self c.in-Some.last old h c.if-last-action.true
    (j ∙ ap (λ (k : Link). c.pop.new.self ++ k ∷ []) (g ∙ ap (λ (a : ℕ). record { action = a; takes = c.in-Some.last.takes || c.args.takes; reads = c.in-Some.last.reads || c.args.reads }) c.if-last-action.true))
