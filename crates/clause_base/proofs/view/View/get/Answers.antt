use Rattle.std.proofs.Common.{arith, ◌≡◌, ◌<◌, ◌∙◌, List, ℕ, Some, length, map, sym, ap, refl}
use Rattle.std.specs.List.{slice_get}
use Rattle.std.specs.Option.{option_map}
use Rattle.std.proofs.lemmas.Option.{slice_get-map, slice_get_read}
use Rattle.clause_base.specs.View.{shifted}
use Rattle.clause_base.proofs.PieceLemmas.{drop_at}
use Rattle.clause_base.proofs.published.ViewLemmas.{within}
use Rattle.clause_base.proofs.view.View.get.Goals as goal

-- the item of a renamed list
read_at : (f : ℕ → ℕ) (lits now : List ℕ) (place lit moved : ℕ) → map f lits ≡ now → place < length lits → slice_get lits place ≡ Some lit → moved ≡ f lit → slice_get now place ≡ Some moved
read_at f lits now place lit moved v lt at is =
    ap (λ (xs : List ℕ). slice_get xs place) (sym v) ∙ slice_get-map f lits place ∙ ap (option_map f) at ∙ ap (λ (x : ℕ). Some x) (sym is)

pub returns-clause-rest : goal.returns-clause-rest
returns-clause-rest c =
    let v = c.self.inside in
    let lt = within (shifted v.limit v.low v.high) v.lits.now c.args.self.now c.args.place c.self.view_is c.requires in
    drop_at c.args.self.now c.args.place c.shifted.result (read_at (shifted v.limit v.low v.high) v.lits.now c.args.self.now c.args.place c.index-lits-place.result c.shifted.result c.self.view_is lt
    (slice_get_read v.lits.now (length v.lits.now) c.args.place c.index-lits-place.result refl lt c.index-lits-place.is) c.shifted.ensures)
