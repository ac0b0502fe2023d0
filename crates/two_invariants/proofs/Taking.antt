use Rattle.std.proofs.Common.{◌≡◌, ℕ, ◌∙◌, List, Some, Bool, true, false, not, ◌&&◌, ap, refl, sym}
use Rattle.std.specs.Prelude.{slice_get}
use Rattle.std.specs.List.{list_all, AllByRecursion}
use Rattle.bit_sets.specs.Rows.{row_has}
use Rattle.gt_core.specs.Literal.{opposite}
use Rattle.gt_core.proofs.published.Basics.{and_split, and_both, each_at}
use Rattle.implied_literals.specs.Breaks.{is_add}
use Rattle.implied_literals.specs.Tested.{with_more, has_no_pair}
use Rattle.two_invariants.specs.own.Groups.{group_with, may_take_by, may_lose, GroupFits}
use Rattle.two_invariants.specs.own.Index.{takes_in}
use Rattle.two_invariants.specs.declared.groups.Group.{Group}
use Rattle.two_invariants.proofs.Indexing.{from_place, among_place}

-- What one group may take.

module _ (facts : ℕ) (rows : List (List ℕ)) (groups : List Group) (here : ℕ → Bool) (g : Group) (l : ℕ) where
  abbrev there : ℕ → Bool
  there = with_more rows here g.condition.items

  -- its condition never holds
  pub takes_none : has_no_pair facts there ≡ false → false ≡ takes_in facts rows groups here g l
  takes_none dead = off (row_has g.opposites l) (has_no_pair facts there) (not (is_add l && group_with groups l (list_all there))) dead
    where
      off : (o f x : Bool) → f ≡ false → false ≡ (o && (f && x))
      off true f x e = ap (λ (b : Bool). b && x) (sym e)
      off false f x e = refl

  -- its condition may hold
  pub takes_where : row_has g.opposites l ≡ true → has_no_pair facts there ≡ true → (b : Bool) → b ≡ not (is_add l && group_with groups l (list_all there)) → b ≡ takes_in facts rows groups here g l
  takes_where o f b e =
      e
      ∙ ap (λ (x : Bool). x && not (is_add l && group_with groups l (list_all there))) (sym f)
      ∙ ap (λ (x : Bool). x && may_take_by facts (group_with groups) there l) (sym o)

  pub takes_loses : (size n : ℕ) → AllByRecursion (GroupFits size) groups → slice_get groups n ≡ Some g → takes_in facts rows groups here g l ≡ true → may_lose facts rows (group_with groups) here l ≡ true
  takes_loses size n fits at t =
      let p = and_split (row_has g.opposites l) _ t in
      let g_fits = each_at (GroupFits size) groups g fits (among_place groups n g at) in
      from_place (λ (x : Group). row_has x.literals (opposite l) && may_take_by facts (group_with groups) (with_more rows here x.condition.items) l) groups n g at
      (and_both _ _ (sym (g_fits.turned l) ∙ p.0) p.1)
