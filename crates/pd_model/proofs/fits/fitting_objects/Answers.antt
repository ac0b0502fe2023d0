use Rattle.std.proofs.Common.{◌==◌, ℕ, ap, ◌∙◌, cond}
use Rattle.std.specs.List.{sum_by}
use Rattle.std.proofs.lemmas.List.Sorted.{IsNonDecreasingBy-from_sort, sum_by-IsPermutation}
use Rattle.pd_model.proofs.LineLaw.{are_fitting, map_count}
use Rattle.pd_model.proofs.fits.fitting_objects.Goals as goal

pub returns : goal.returns
returns c =
    are_fitting c.args.p.now c.args.kind c.sort_unstable.new.self.items (IsNonDecreasingBy-from_sort (λ x. x) _ (c.sort_unstable.ensures.sorted))
    (λ x.
    let weight : ℕ → ℕ = λ n. cond (n == x) 1 0 in
    sum_by-IsPermutation weight c.in_ok-objects.objects.items c.sort_unstable.new.self.items (c.sort_unstable.ensures.permutation) ∙ ap (sum_by weight) (c.in_ok-objects.ensures)
    ∙ map_count (λ s. s.object) (λ n. n == x) c.row.result.now ∙ c.row.ensures.same (λ n. n == x))
