-- What passes the check of a forward set is one.
use Rattle.std.proofs.Common.{◌≡◌, ◌==◌, ℕ, List, ◌++◌, Bool, true, false, inl, inr}
use Rattle.std.specs.List.{AllByRecursion}
use Rattle.gt_core.specs.Literal.{opposite, holds, all_hold, is_in}
use Rattle.gt_core.specs.Task.{Action, action}
use Rattle.gt_core.specs.Interference.{Knows, action_may_make}
use Rattle.gt_core.proofs.published.Basics.{passing, any_at, apart, cases, same_test, each_from, each_at, not_true}
use Rattle.never_defs.specs.Sets.{is_true_in, AreTrue}
use Rattle.never_defs.specs.Cases.{cases_of}
use Rattle.never_defs.specs.Forward.{may_falsify, IsCaseRefuted, PassesForward}
use Rattle.never_defs.specs.Laws.{ForwardCertificatesHold, NothingIsNeeded}
use Rattle.never_defs.proofs.Truth.{after, came, made_by, none_holds, opposite_true, both_hold, given_hold, joined, not_refuted, true_joined}
use Rattle.never_defs.proofs.Ways.{some_case}

-- what an action makes true it may make true
pub may_from_makes : (s : ℕ → Bool) (x : Action) (l : ℕ) → action_may_make x l ≡ false → (holds (after s x) l ≡ true) → holds s l ≡ true
may_from_makes s x l never t = elim (came s x l t).from [
  | inl m ↦
      let e = made_by s x l m in
      absurd (apart _ (any_at (λ d. d.literal == l) x.effects e.effect e.among (same_test _ _ e.literal)) never)
  | inr h ↦ h.0
]

-- a true clause of which no literal is made false stays true
untouched : (s : ℕ → Bool) (x : Action) (c : List ℕ) → may_falsify x c ≡ false → is_true_in s c ≡ true → is_true_in (after s x) c ≡ false → ⊥
untouched s x c never t f =
    let p = passing (holds s) c t in
    let gone = none_holds (after s x) c f p.one p.among in
    let still : action_may_make x (opposite p.one) ≡ false = not_true _ (λ m. apart _ (any_at (λ l. action_may_make x (opposite l)) c p.one p.among m) never) in
    both_hold s p.one p.passes (may_from_makes s x (opposite p.one) still (opposite_true (after s x) p.one gone))

module _ (known : List (ℕ × ℕ)) (clauses : List (List ℕ)) (x : Action) (s : ℕ → Bool) (runs : all_hold s x.precondition ≡ true) (knows : Knows known s) (are : AreTrue s clauses) where
  touched : (c : List ℕ) → AllByRecursion (IsCaseRefuted known clauses x) (cases_of x c) → is_true_in (after s x) c ≡ false → ⊥
  touched c all f =
      let r = some_case s x c (none_holds (after s x) c f) in
      not_refuted known (r.one.clauses ++ clauses) (is_in (x.precondition ++ r.one.literals)) s knows (true_joined s r.one.clauses clauses r.holds.clauses are)
      (given_hold s (x.precondition ++ r.one.literals) (joined s x.precondition r.one.literals runs r.holds.literals)) (each_at (IsCaseRefuted known clauses x) (cases_of x c) r.one all r.among)

  stays : (c : List ℕ) → PassesForward known clauses x c → is_true_in s c ≡ true → is_true_in (after s x) c ≡ true
  stays c passes t = elim (cases (is_true_in (after s x) c)) [
    | inl h ↦ h
    | inr f ↦ elim (cases (may_falsify x c)) [ inl m ↦ absurd (touched c (passes m) f) | inr n ↦ absurd (untouched s x c n t f) ]
  ]

pub forward_hold : ForwardCertificatesHold
forward_hold task known clauses is = record {
  initial = is.initial;
  next = λ s a step are. each_from _ clauses (λ c i.
      stays known clauses (action task a) s step.runs.able step.before are c
      (each_at (PassesForward known clauses (action task a)) clauses c (is.next a step.runs.action) i) (each_at (λ (d : List ℕ). is_true_in s d ≡ true) clauses c are i));
  goal = λ s knows are goal. not_refuted known clauses (is_in task.goal) s knows are (given_hold s task.goal goal.reached) (is.goal goal.hopeful);
}

pub nothing_is_needed : NothingIsNeeded
nothing_is_needed task known goal = record { initial = tt; goal = goal; next = λ a lt. tt }
