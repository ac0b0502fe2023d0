use Rattle.std.proofs.Common.{◌≡◌, ◌∙◌, ◌++◌, ◌∷◌, [], List, ℕ, Bool, true, sym, ap, subst}
use Rattle.std.specs.List.Sorted.{IsNonDecreasing}
use Rattle.goal_choice.specs.own.Search.{AreMarked}
use Rattle.goal_choice.proofs.Found.{marked_more, rising_if}
use Rattle.goal_choice.proofs.gather.add_variables.Goals as goal

pub returns-clause-marked : goal.returns-clause-marked
returns-clause-marked c =
    let variables = c.in_ok-variables.variables.items in
    let rising : c.is_sorted.result ≡ true → IsNonDecreasing variables =
    λ t. subst IsNonDecreasing c.deref.ensures.value (rising_if c.deref.result.now c.is_sorted.result c.is_sorted.ensures.cases t) in
    let lists = c.in_ok-push-2.ensures.ok ∙ ap (λ (ls : List ℕ). c.args.lists.now ++ ls ∷ []) c.deref-2.ensures.value in
    subst (λ (ls : List (List ℕ)). AreMarked c.push.new.self.items ls) (sym lists)
    (subst (λ (bs : List Bool). AreMarked bs (c.args.lists.now ++ variables ∷ [])) (sym c.in_ok-push.ensures.items) (marked_more c.args.rising.now.items c.args.lists.now c.is_sorted.result variables c.requires.marked rising))
