-- What passes the check of a backward set is one.
use Rattle.std.proofs.Common.{◌≡◌, ◌==◌, ℕ, ◌+◌, ◌*◌, List, [], ◌++◌, map, Bool, true, false, not, ◌&&◌, ◌||◌, refl, sym, ap, ◌∙◌, subst, ◌⊎◌, inl, inr}
use Rattle.std.specs.Prelude.{if◌then◌else◌}
use Rattle.std.specs.List.{list_any}
use Rattle.gt_core.specs.Literal.{opposite, holds, all_hold, is_in}
use Rattle.gt_core.specs.Task.{Task, Action, action}
use Rattle.gt_core.specs.Execution.{next_of_one, IsGoal, action_makes}
use Rattle.gt_core.specs.Interference.{Knows, action_may_make}
use Rattle.gt_core.proofs.published.Basics.{passing, any_at, and_both, apart, cases, same_test, each_from, each_at, all_at, not_true}
use Rattle.gt_core.proofs.published.Literals.{holds_add, holds_delete, add_opposite, delete_opposite, add_is_even, delete_is_odd}
use Rattle.never_defs.specs.Sets.{is_true_in, AreTrue, IsKnownStep}
use Rattle.never_defs.specs.After.{makes_perhaps, holds_surely}
use Rattle.never_defs.specs.Backward.{may_satisfy, PassesBackward, GoalPassesBackward}
use Rattle.never_defs.specs.Laws.{BackwardCertificatesHold}
use Rattle.never_defs.proofs.Truth.{after, made_by, shape, none_holds, opposites_hold, both_hold, given_hold, joined, not_refuted, state_propagated, state_has_no_pair}
use Rattle.never_defs.proofs.ForwardLaw.{may_from_makes}

-- what an effect makes true it makes perhaps
pub perhaps_from_makes : (s : ℕ → Bool) (x : Action) (l : ℕ) → action_makes s x l ≡ true → makes_perhaps (holds s) x l ≡ true
perhaps_from_makes s x l m =
    let e = made_by s x l m in
    any_at (λ d. (d.literal == l) && not (list_any (λ k. holds s (opposite k)) d.condition)) x.effects e.effect e.among
    (and_both (e.effect.literal == l) _ (same_test _ _ e.literal) (ap not (none e.effect.condition e.condition)))
  where
    none : (ls : List ℕ) → all_hold s ls ≡ true → list_any (λ k. holds s (opposite k)) ls ≡ false
    none ls t = not_true _ (λ h. let p = passing (λ k. holds s (opposite k)) ls h in both_hold s p.one (all_at (holds s) ls p.one t p.among) p.passes)

pub not_made : (s : ℕ → Bool) (x : Action) (l : ℕ) → makes_perhaps (holds s) x l ≡ false → action_makes s x l ≡ false
not_made s x l f = not_true _ (λ m. apart _ (perhaps_from_makes s x l m) f)

add_sure : (a d v p : Bool) → (a || (v && not p)) ≡ true → (p ≡ false → d ≡ false) → (a || (v && not (d && not a))) ≡ true
add_sure true d v p t n = refl
add_sure false d true true t n = cc
add_sure false d true false t n = rw (n refl) refl
add_sure false d false p t n = cc

delete_sure : (a d v p : Bool) → ((not v || d) && not p) ≡ true → (p ≡ false → a ≡ false) → not (a || (v && not (d && not a))) ≡ true
delete_sure a true true false t n = rw (n refl) refl
delete_sure a false false false t n = rw (n refl) refl
delete_sure a true false false t n = rw (n refl) refl
delete_sure a false true false t n = cc
delete_sure a true true true t n = cc
delete_sure a false true true t n = cc
delete_sure a true false true t n = cc
delete_sure a false false true t n = cc

surely_by : (s : ℕ → Bool) (x : Action) (l f : ℕ) → (l ≡ 2 * f) ⊎ (l ≡ 2 * f + 1) → holds_surely (holds s) x l ≡ true → holds (after s x) l ≡ true
surely_by s x l f (inl e) t =
    let u : (action_makes s x l || (holds s l && not (makes_perhaps (holds s) x (opposite l)))) ≡ true = subst (λ (b : Bool). (if b then action_makes s x l || (holds s l && not (makes_perhaps (holds s) x (opposite l))) else (holds s l || action_makes s x l) && not (makes_perhaps (holds s) x (opposite l))) ≡ true) (add_is_even l f e) t in
    let v : (action_makes s x (2 * f) || (holds s (2 * f) && not (makes_perhaps (holds s) x (opposite l)))) ≡ true = subst (λ (k : ℕ). (action_makes s x k || (holds s k && not (makes_perhaps (holds s) x (opposite l)))) ≡ true) e u in
    let w : (action_makes s x (2 * f) || (s f && not (makes_perhaps (holds s) x (opposite l)))) ≡ true = subst (λ (b : Bool). (action_makes s x (2 * f) || (b && not (makes_perhaps (holds s) x (opposite l)))) ≡ true) (holds_add s f) v in
    let out = add_sure (action_makes s x (2 * f)) (action_makes s x (2 * f + 1)) (s f) (makes_perhaps (holds s) x (opposite l)) w (λ n. ap (action_makes s x) (sym (add_opposite l f e)) ∙ not_made s x (opposite l) n) in
    ap (holds (after s x)) e ∙ holds_add (after s x) f ∙ out
surely_by s x l f (inr e) t =
    let u : ((holds s l || action_makes s x l) && not (makes_perhaps (holds s) x (opposite l))) ≡ true = subst (λ (b : Bool). (if b then action_makes s x l || (holds s l && not (makes_perhaps (holds s) x (opposite l))) else (holds s l || action_makes s x l) && not (makes_perhaps (holds s) x (opposite l))) ≡ true) (delete_is_odd l f e) t in
    let v : ((holds s (2 * f + 1) || action_makes s x (2 * f + 1)) && not (makes_perhaps (holds s) x (opposite l))) ≡ true = subst (λ (k : ℕ). ((holds s k || action_makes s x k) && not (makes_perhaps (holds s) x (opposite l))) ≡ true) e u in
    let w : ((not (s f) || action_makes s x (2 * f + 1)) && not (makes_perhaps (holds s) x (opposite l))) ≡ true = subst (λ (b : Bool). ((b || action_makes s x (2 * f + 1)) && not (makes_perhaps (holds s) x (opposite l))) ≡ true) (holds_delete s f) v in
    let out = delete_sure (action_makes s x (2 * f)) (action_makes s x (2 * f + 1)) (s f) (makes_perhaps (holds s) x (opposite l)) w (λ n. ap (action_makes s x) (sym (delete_opposite l f e)) ∙ not_made s x (opposite l) n) in
    ap (holds (after s x)) e ∙ holds_delete (after s x) f ∙ out

-- what surely holds after an action holds after it
pub surely_after : (s : ℕ → Bool) (x : Action) (l : ℕ) → holds_surely (holds s) x l ≡ true → holds (after s x) l ≡ true
surely_after s x l = surely_by s x l (shape l).0 (shape l).1

-- a clause of which no literal is made true is true before, where it is true after
unmade : (s : ℕ → Bool) (x : Action) (c : List ℕ) → may_satisfy x c ≡ false → is_true_in (after s x) c ≡ true → is_true_in s c ≡ true
unmade s x c never t =
    let p = passing (holds (after s x)) c t in
    let still : action_may_make x p.one ≡ false = not_true _ (λ m. apart _ (any_at (action_may_make x) c p.one p.among m) never) in
    any_at (holds s) c p.one p.among (may_from_makes s x p.one still p.passes)

false_given : (s : ℕ → Bool) (ls c : List ℕ) → all_hold s ls ≡ true → is_true_in s c ≡ false → (l : ℕ) → is_in (ls ++ map opposite c) l ≡ true → holds s l ≡ true
false_given s ls c t f = given_hold s (ls ++ map opposite c) (joined s ls (map opposite c) t (opposites_hold s c (none_holds s c f)))

module _ (task : Task) (known : List (ℕ × ℕ)) (clauses : List (List ℕ)) (s : ℕ → Bool) (a : ℕ) (step : IsKnownStep task known s a) (are : AreTrue (next_of_one task s a) clauses) where
  was_false : (c : List ℕ) → PassesBackward known clauses (action task a) c → may_satisfy (action task a) c ≡ true → is_true_in s c ≡ false → ⊥
  was_false c passes m f =
      let x = action task a in
      let refuted = passes m (holds s) (state_propagated known [] (is_in (x.precondition ++ map opposite c)) s step.before tt (false_given s x.precondition c step.runs.able f)) (state_has_no_pair s) in
      not_refuted known clauses (holds_surely (holds s) x) (next_of_one task s a) step.after are (surely_after s x) refuted

  was_true : (c : List ℕ) → PassesBackward known clauses (action task a) c → is_true_in (next_of_one task s a) c ≡ true → is_true_in s c ≡ true
  was_true c passes t = elim (cases (is_true_in s c)) [
    | inl h ↦ h
    | inr f ↦ elim (cases (may_satisfy (action task a) c)) [ inl m ↦ absurd (was_false c passes m f) | inr n ↦ unmade s (action task a) c n t ]
  ]

pub backward_hold : BackwardCertificatesHold
backward_hold task known clauses is = record {
  initial = is.initial;
  next = λ s a step are. each_from _ clauses (λ c i.
      was_true task known clauses s a step are c (each_at (PassesBackward known clauses (action task a)) clauses c (is.next a step.runs.action) i) (each_at (λ (d : List ℕ). is_true_in (next_of_one task s a) d ≡ true) clauses c are i));
  goal = λ s knows goal. each_from _ clauses (λ c i. in_goal s knows goal c (each_at (GoalPassesBackward task known) clauses c is.goal i));
}
  where
    in_goal : (s : ℕ → Bool) → Knows known s → IsGoal task s → (c : List ℕ) → GoalPassesBackward task known c → is_true_in s c ≡ true
    in_goal s knows goal c passes = elim (cases (is_true_in s c)) [
      | inl h ↦ h
      | inr f ↦ absurd (not_refuted known [] (is_in (task.goal ++ map opposite c)) s knows tt (false_given s task.goal c goal.reached f) (passes goal.hopeful))
    ]
