use Rattle.std.proofs.Common.{◌==◌, ◌∙◌, ℕ, List, not, filter, fold, ap}
use Rattle.clause_base.specs.Literal.{opposite}
use Rattle.containers.specs.Rising.{put}
use Rattle.conflict_analysis.specs.own.Resolvent.{literals, seen}
use Rattle.conflict_analysis.proofs.resolvent.Resolvent.resolve.Goals as goal

pub returns-clause-resolved : goal.returns-clause-resolved
returns-clause-resolved c =
    let old = literals (seen c.args.trail.now c.args.self.now) in
    let left = c.remove.ensures.removed ∙ ap (λ (x : ℕ). filter (λ l. not (l == opposite x)) old) c.requires.forced in
    c.put_others.ensures.put ∙ ap (λ (ls : List ℕ). fold put ls (filter (λ l. not (l == c.args.forced)) c.args.reason.now)) left
