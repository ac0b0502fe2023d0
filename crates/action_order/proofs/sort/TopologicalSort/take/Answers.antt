use Rattle.std.proofs.Common.{arith, ◌≡◌, ◌<◌, [], length, refl, ◌∙◌}
use Rattle.std.proofs.lemmas.List.{get_or_read}
use Rattle.action_order.specs.own.Graph.{item}
use Rattle.action_order.specs.own.Sorting.{list_at}
use Rattle.action_order.proofs.published.Lists.{in_at}
use Rattle.action_order.proofs.SortingLaw.{taken_one}
use Rattle.action_order.proofs.sort.TopologicalSort.take.Goals as goal

pub release-requires : goal.release-requires
release-requires c =
    let n = c.requires.next in
    let lt : c.args.t < length c.args.self.now.waiting.items = let l = n.sorting.waiting_long in let b = n.below in omega arith in
    let free : c.as_slice.result.now ≡ list_at c.args.self.now.waiting.items c.args.t =
    c.as_slice.ensures ∙ c.replace-free.ensures.value ∙ get_or_read c.args.self.now.waiting.items c.args.t c.index_mut-2.result.now lt c.index_mut-2.ensures.value [] in
    let dest : c.replace-free.new.dest ≡ [] = c.replace-free.ensures.after ∙ c.new.ensures in
    record {
      rows = c.requires.rows;
      few = c.requires.few;
      small = c.requires.small;
      sorting = rw (free, dest, c.in_ok-push.ensures.items)
          (taken_one c.args.rows.now c.args.names.now c.args.numbers.now _ _ _ n.ready _ _ (item c.args.names.now c.args.t) c.args.t c.requires.rows.apart n.sorting n.first n.below refl);
      below = rw free (λ i li. n.sorting.waiting_below c.args.t (item (list_at c.args.self.now.waiting.items c.args.t) i) (in_at _ i li));
    }
