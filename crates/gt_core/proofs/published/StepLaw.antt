use Rattle.std.proofs.Common.{◌≡◌, ◌==◌, ℕ, List, [], ◌∷◌, Bool, true, false, not, ◌||◌, ◌&&◌, refl, sym, ap, ◌∙◌, subst, inl, inr}
use Rattle.gt_core.specs.Literal.{is_in}
use Rattle.gt_core.specs.Task.{Task}
use Rattle.gt_core.specs.Execution.{gains, loses, next_of_one, Runs}
use Rattle.gt_core.specs.Interference.{disables}
use Rattle.gt_core.specs.Step.{gained, lost, IsStep}
use Rattle.gt_core.proofs.published.Basics.{or_split, or_left, and_split, not_split, not_true, apart, same_if, same_test, test_same}
use Rattle.gt_core.proofs.published.Pairwise.{every_pair}
use Rattle.gt_core.proofs.published.Makers.{gainer, gained_by, loser, lost_by}

-- One action that can run is a step, and so is the empty set.

only : (k a : ℕ) → is_in (k ∷ []) a ≡ true → a ≡ k
only k a h = elim (or_split (k == a) false h) [ inl e ↦ sym (test_same k a e) | inr e ↦ absurd (let f : false ≡ true = e in cc) ]

itself : (k : ℕ) → is_in (k ∷ []) k ≡ true
itself k = or_left (k == k) false (same_test k k refl)

-- one action by itself is a step
pub step_of_one : (task : Task) (order : List ℕ) (s : ℕ → Bool) (k : ℕ) → Runs task s k → IsStep task order s (is_in (k ∷ [])) (next_of_one task s k)
step_of_one task order s k p = record {
  runs = λ a x. subst (λ (b : ℕ). Runs task s b) (sym (only k a x)) p;
  no_clash = λ a b f x y g l.
      let same : a ≡ b = only k a x ∙ sym (only k b y) in
      apart (gains task s b f) (ap (λ (c : ℕ). gains task s c f) (sym same) ∙ g) (not_split _ (and_split _ _ l).1);
  ordered = every_pair _ order (λ a b x y. not_true (disables task a b) (λ d.
      apart (a == b) (same_test a b (only k a x ∙ sym (only k b y))) (not_split _ (and_split _ _ d).0)));
  after = λ f lt.
      let g : gains task s k f ≡ gained task s (is_in (k ∷ [])) f = same_if _ _
      (λ h. gained_by task (is_in (k ∷ [])) s k f (itself k) h)
      (λ h. let w = gainer task (is_in (k ∷ [])) s f h in ap (λ (c : ℕ). gains task s c f) (sym (only k w.one w.member)) ∙ w.done) in
      let l : loses task s k f ≡ lost task s (is_in (k ∷ [])) f = same_if _ _
      (λ h. lost_by task (is_in (k ∷ [])) s k f (itself k) h)
      (λ h. let w = loser task (is_in (k ∷ [])) s f h in ap (λ (c : ℕ). loses task s c f) (sym (only k w.one w.member)) ∙ w.done) in
      ap (λ (b : Bool). b || (s f && not (loses task s k f))) g ∙ ap (λ (b : Bool). gained task s (is_in (k ∷ [])) f || (s f && not b)) l;
}

-- the empty set is a step that changes nothing
pub step_of_none : (task : Task) (order : List ℕ) (s : ℕ → Bool) → IsStep task order s (is_in []) s
step_of_none task order s = record {
  runs = λ a x. absurd (let f : false ≡ true = x in cc);
  no_clash = λ a b f x y g l. let f : false ≡ true = x in cc;
  ordered = every_pair _ order (λ a b x y. absurd (let f : false ≡ true = x in cc));
  after = λ f lt.
      let g : gained task s (is_in []) f ≡ false = not_true _ (λ h. let w = gainer task (is_in []) s f h in let e : false ≡ true = w.member in cc) in
      let l : lost task s (is_in []) f ≡ false = not_true _ (λ h. let w = loser task (is_in []) s f h in let e : false ≡ true = w.member in cc) in
      sym (ap (λ (b : Bool). b || (s f && not (lost task s (is_in []) f))) g ∙ ap (λ (b : Bool). s f && not b) l ∙ whole (s f));
}
  where
    whole : (b : Bool) → (b && true) ≡ b
    whole true = refl
    whole false = refl
