use Rattle.std.proofs.Common.{◌≡◌, ◌∙◌, ◌∷◌, [], ℕ, ap, subst, MatchOption}
use Rattle.clause_base.specs.Clause.{has_literal}
use Rattle.cdcl_defs.specs.Pending.{is_pending_in, open_ones}
use Rattle.cdcl_defs.specs.State.{clause_at}
use Rattle.watch_lists.specs.Pending.{WatchesView}
use Rattle.watch_lists.proofs.watches.Watches.left.Goals as goal

pub left-requires : goal.left-requires
left-requires c = ap (λ (v : WatchesView). is_pending_in v.clauses v.kept (has_literal v.trail) c.args.number) c.self.view_is ∙ c.requires

pub returns : goal.returns
returns c =
    subst (λ (v : WatchesView). MatchOption c.left.result (open_ones (has_literal v.trail) (clause_at v.clauses c.args.number) ≡ [])
    (λ (lit : ℕ). open_ones (has_literal v.trail) (clause_at v.clauses c.args.number) ≡ lit ∷ [])) c.self.view_is c.left.ensures
