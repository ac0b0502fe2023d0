-- assign
use Rattle.std.proofs.Common.{ℕ, List, ◌++◌, ◌∷◌, [], refl, sym, ap, ◌∙◌, subst}
use Rattle.cdcl_core.specs.own.Search.{SearchView}
use Rattle.cdcl_core.proofs.Reasons.{sound_own}
use Rattle.cdcl_core.proofs.Watching.{watched_all}
use Rattle.propagation.specs.Pending.{HasOwn}
use Rattle.cdcl_core.proofs.search.Search.assign.Goals as goal

pub assign-requires-clause-reason : goal.assign-requires-clause-reason
assign-requires-clause-reason c =
    let now = c.args.self.now in
    let all = watched_all c.self.invariant c.self.view_is c.requires.sane c.requires.going in
    subst (λ (cs : List (List ℕ)). HasOwn cs c.args.entry) (sym (all ∙ ap (λ (w : SearchView). w.state.clauses) c.self.view_is))
    (sound_own now.formula (record now.state { trail = now.state.trail ++ c.args.entry ∷ [] }) now.state.trail c.args.entry refl c.requires.sound)
