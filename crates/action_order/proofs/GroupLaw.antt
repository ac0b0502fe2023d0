use Rattle.std.proofs.Common.{◌≡◌, ◌==◌, ℕ, ◌+◌, ◌<◌, List, [], ◌∷◌, ◌++◌, length, Bool, true, false, sym, ap, ◌∙◌, set, ◌⊎◌, inl, inr}
use Rattle.std.specs.Prelude.{slice_index_or, if◌then◌else◌}
use Rattle.std.specs.List.{filter}
use Rattle.std.proofs.lemmas.List.{get_or-set_same, get_or-set_other}
use Rattle.std.proofs.lemmas.List.Elements.{filter-append}
use Rattle.std.proofs.lemmas.Bool.{cases_eq}
use Rattle.gt_core.specs.Literal.{range}
use Rattle.gt_core.proofs.published.Basics.{not_true, same_test, test_same}
use Rattle.action_order.specs.own.Graph.{class_at}
use Rattle.action_order.specs.own.Group.{members_below}
use Rattle.action_order.proofs.published.Lists.{range_more}
use Rattle.std.proofs.lemmas.List.{append-nil}

-- One more vertex goes to the group of its component.

members_more : (classes : List ℕ) (a c : ℕ) (b : Bool) → (class_at classes a == c) ≡ b → members_below classes (a + 1) c ≡ members_below classes a c ++ (if b then a ∷ [] else [])
members_more classes a c b e =
    ap (filter (λ x. class_at classes x == c)) (range_more a) ∙ filter-append (λ x. class_at classes x == c) (range a) (a ∷ []) ∙ ap (λ (b : Bool). members_below classes a c ++ (if b then a ∷ [] else [])) e

pub group_more : (classes : List ℕ) (groups : List (List ℕ)) (a own : ℕ) → own ≡ class_at classes a → own < length groups → ((c : ℕ) → c < length groups → slice_index_or groups c [] ≡ members_below classes a c) → (c : ℕ) → c < length groups → slice_index_or (set groups own (slice_index_or groups own [] ++ a ∷ [])) c [] ≡ members_below classes (a + 1) c
group_more classes groups a own is lt h c lc = by (cases_eq c own)
  where
    by : (c ≡ own) ⊎ (c ≡ own → ⊥) → slice_index_or (set groups own (slice_index_or groups own [] ++ a ∷ [])) c [] ≡ members_below classes (a + 1) c
    by (inl s) =
        let test : (class_at classes a == c) ≡ true = same_test _ _ (sym is ∙ sym s) in
        ap (λ (x : ℕ). slice_index_or (set groups own (slice_index_or groups own [] ++ a ∷ [])) x []) s
        ∙ get_or-set_same groups own (slice_index_or groups own [] ++ a ∷ []) [] lt
        ∙ ap (λ (xs : List ℕ). xs ++ a ∷ []) (h own lt ∙ ap (members_below classes a) (sym s))
        ∙ sym (members_more classes a c true test)
    by (inr n) =
        let test : (class_at classes a == c) ≡ false = not_true (class_at classes a == c) (λ e. n (sym (test_same _ _ e) ∙ sym is)) in
        get_or-set_other groups own c (slice_index_or groups own [] ++ a ∷ []) [] n
        ∙ h c lc
        ∙ sym (append-nil (members_below classes a c))
        ∙ sym (members_more classes a c false test)
