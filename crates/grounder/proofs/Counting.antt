-- A loop that makes actions and counts their effects with a condition.
use Rattle.std.proofs.Common.{◌≡◌, ◌∙◌, ℕ, ◌+◌, ◌<◌, ◌≤◌, List, [], ◌∷◌, ◌++◌, length, take, get_or, map, min, ap, sym, arith}
use Rattle.std.specs.Prelude.{count_by}
use Rattle.std.proofs.lemmas.List.{map_more}
use Rattle.std.proofs.lemmas.List.Sums.{sum_by_push}
use Rattle.gt_core.specs.Lawful.{conditional_in, is_conditional}
use Rattle.gt_core.specs.Task.{Action}
use Rattle.gt_core.specs.Limits.{most_conditional}
use Rattle.grounding_defs.specs.Tuples.{saturated}
use Rattle.grounder.specs.own.Counted.{HasCounted}
use Rattle.grounder.specs.declared.conditional.Counted.{Counted}
use Rattle.grounder.proofs.Saturated.{most, saturated_is}

-- one more action
pub counted_more : {X : Type 0} (f : X → Action) (xs : List X) (i : ℕ) (x : X) (act : Action) (old new : Counted) → i < length xs → x ≡ get_or xs i x → act ≡ f x
    → HasCounted (map f (take i xs)) old → new.conditional ≡ min (old.conditional + count_by is_conditional act.effects) most
    → (new.conditional ≤ most_conditional → new.acts.items ≡ old.acts.items ++ act ∷ []) → HasCounted (map f (take (i + 1) xs)) new
counted_more f xs i x act old new lt at is has count kept =
    let front = map f (take i xs) in
    let this : f (get_or xs i x) ≡ act = ap f (sym at) ∙ sym is in
    let more : map f (take (i + 1) xs) ≡ front ++ act ∷ [] = map_more f xs i x lt ∙ ap (λ (a : Action). front ++ a ∷ []) this in
    let sum : conditional_in (front ++ act ∷ []) ≡ conditional_in front + count_by is_conditional act.effects = sum_by_push (λ (a : Action). count_by is_conditional a.effects) front act in
    let before = has.count in
    let old_is = saturated_is (conditional_in front) in
    let new_is = saturated_is (conditional_in front + count_by is_conditional act.effects) in
    rw more (record {
      count = (let all : new.conditional ≡ saturated (conditional_in front + count_by is_conditional act.effects) = omega (arith, count, before, old_is, new_is) in all ∙ ap saturated (sym sum));
      acts_are = λ few.
          let fewer : old.conditional ≤ most_conditional = omega (arith, count, few) in
          kept few ∙ ap (λ (front : List Action). front ++ act ∷ []) (has.acts_are fewer);
    })
