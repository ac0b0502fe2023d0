use Rattle.std.proofs.Common.{◌≡◌, ℕ, ◌*◌, ◌<◌, List, [], ◌∷◌, Bool, true, false, not, ◌&&◌, ◌||◌, refl, sym, ◌∙◌, ◌⊎◌, inl, inr, subst}
use Rattle.std.specs.List.{AllByRecursion}
use Rattle.gt_core.specs.Task.{Action, Task, action}
use Rattle.gt_core.specs.Interference.{has_clause}
use Rattle.gt_core.specs.Clauses.{KnownClauses, IsKnownClauses}
use Rattle.gt_core.proofs.published.Basics.{Among, passing, any_at, or_split, or_left, or_right, and_split, and_both, not_false, cases, apart, each_at}
use Rattle.gt_core.proofs.published.Within.{among_at}
use Rattle.implied_literals.specs.Breaks.{BreaksBy, Breaks}
use Rattle.two_invariants.specs.Closed.{IsClosed, AreInvariants}
use Rattle.implied_literals.specs.Rows.{clause_in, AreRows}
use Rattle.implied_literals.specs.Tested.{AreKnown, AsksAmong, breaks_by}
use Rattle.two_invariants.specs.own.Rounds.{breaks_any, IsRound}
use Rattle.two_invariants.specs.own.Greatest.{Surrounds}
use Rattle.implied_literals.specs.declared.known.Known.{Known}
use Rattle.two_invariants.proofs.Fewer.{breaks_less}
use Rattle.implied_literals.proofs.published.Exact.{breaks_to, breaks_from, either_breaks, breaks_either}
use Rattle.std.proofs.Math.Bool.{or_comm}
use Rattle.two_invariants.proofs.RoundLaw.{both_within, at_number, and_not_true}

-- Each closed set is among the clauses that a round leaves; where it drops nothing, these are the invariants.

either_any : (facts : ℕ) (known : Known) (xs : List Action) (l m : ℕ) → breaks_any facts known xs l m ≡ breaks_any facts known xs m l
either_any facts known [] l m = refl
either_any facts known (x ∷ xs) l m = λ i. or_comm (breaks_by facts known x l m) (breaks_by facts known x m l) i || either_any facts known xs l m i

module _ (task : Task) (asked : ℕ → Bool) (among : AllByRecursion (AsksAmong asked) task.actions) (before : List (List ℕ)) (rows : AreRows task.facts before) (around : Surrounds task before)
    (known : Known) (are : AreKnown (clause_in before) (2 * task.facts) asked known) where
  bound : (l m : ℕ) → clause_in before l m ≡ true → (l < 2 * task.facts) × (m < 2 * task.facts)
  bound = both_within task.facts before rows around.either

  module _ (after : List (List ℕ)) (dropped : Bool) (round : IsRound task known before after dropped) where
    fewer : (l m : ℕ) → clause_in after l m ≡ true → clause_in before l m ≡ true
    fewer l m t = (and_split _ _ (sym (round.kept l m) ∙ t)).0

    -- an action that breaks a clause by the tests breaks it
    truly : (x : Action) → Among x task.actions → (l m : ℕ) → (breaks_by task.facts known x l m || breaks_by task.facts known x m l) ≡ true → Breaks (clause_in before) x l m
    truly x i l m t = breaks_either (clause_in before) x l m (by (or_split _ _ t))
      where
        by : (breaks_by task.facts known x l m ≡ true) ⊎ (breaks_by task.facts known x m l ≡ true) → BreaksBy (clause_in before) x l m ⊎ BreaksBy (clause_in before) x m l
        by (inl h) = inl (breaks_to (clause_in before) task.facts known bound asked are x (each_at (AsksAmong asked) task.actions x among i) l m h)
        by (inr h) = inr (breaks_to (clause_in before) task.facts known bound asked are x (each_at (AsksAmong asked) task.actions x among i) m l h)

    -- no clause of a closed set is dropped
    closed_stay : (V : ℕ → ℕ → Bool) → IsClosed task V → (l m : ℕ) → V l m ≡ true → clause_in after l m ≡ true
    closed_stay V closed l m v = round.kept l m ∙ and_both _ _ (around.greatest V closed l m v) (not_false _ (off (cases (breaks_any task.facts known task.actions l m))))
      where
        broken : breaks_any task.facts known task.actions l m ≡ true → ⊥
        broken t =
            let p = passing (λ x. breaks_by task.facts known x l m || breaks_by task.facts known x m l) task.actions t in
            let n = at_number task.actions p.one p.among in
            let b = truly p.one p.among l m p.passes in
            closed.unbroken n.0 n.1 l m v (subst (λ (x : Action). Breaks V x l m) n.2 (breaks_less V (clause_in before) (around.greatest V closed) p.one l m b))

        off : (breaks_any task.facts known task.actions l m ≡ true) ⊎ (breaks_any task.facts known task.actions l m ≡ false) → breaks_any task.facts known task.actions l m ≡ false
        off (inl t) = absurd (broken t)
        off (inr f) = f

    pub still_around : Surrounds task after
    still_around = record {
      either = λ l m. round.kept l m ∙ (λ i. around.either l m i && not (either_any task.facts known task.actions l m i)) ∙ sym (round.kept m l);
      proper = λ l m t. around.proper l m (fewer l m t);
      initial = λ l m t. around.initial l m (fewer l m t);
      greatest = closed_stay;
    }

    -- where nothing was dropped, no action breaks what is left
    none_broken : dropped ≡ false → (x : Action) → Among x task.actions → (l m : ℕ) → clause_in before l m ≡ true → Breaks (clause_in before) x l m → ⊥
    none_broken none x i l m t b = apart (clause_in after l m) (round.same none l m ∙ t)
        (round.kept l m ∙ and_not_true (clause_in before l m) (breaks_any task.facts known task.actions l m)
        (any_at (λ y. breaks_by task.facts known y l m || breaks_by task.facts known y m l) task.actions x i (by (either_breaks (clause_in before) x l m b))))
      where
        by : BreaksBy (clause_in before) x l m ⊎ BreaksBy (clause_in before) x m l → (breaks_by task.facts known x l m || breaks_by task.facts known x m l) ≡ true
        by (inl h) = or_left _ _ (breaks_from (clause_in before) task.facts known bound asked are x (each_at (AsksAmong asked) task.actions x among i) l m h)
        by (inr h) = or_right _ _ (breaks_from (clause_in before) task.facts known bound asked are x (each_at (AsksAmong asked) task.actions x among i) m l h)

    closed_before : dropped ≡ false → IsClosed task (clause_in before)
    closed_before none = record {
      either = around.either;
      within = λ l m t. (bound l m t).0;
      proper = around.proper;
      initial = around.initial;
      unbroken = λ a lt l m t. none_broken none (action task a) (among_at task.actions a _ lt) l m t;
    }

    closed_after : dropped ≡ false → IsClosed task (clause_in after)
    closed_after none = subst (IsClosed task) (λ i l m. sym (round.same none l m) i) (closed_before none)

    -- the list of what is left has the invariants
    pub are_invariants : dropped ≡ false → (list : KnownClauses) → IsKnownClauses list → list.facts ≡ task.facts → ((l m : ℕ) → has_clause list.clauses l m ≡ clause_in after l m) → AreInvariants task list.clauses
    are_invariants none list listed facts same = record {
      listed = subst (λ (n : ℕ). IsKnownClauses (record { facts = n; clauses = list.clauses })) facts listed;
      closed = subst (IsClosed task) (λ i l m. sym (same l m) i) (closed_after none);
      greatest = λ V closed l m v. same l m ∙ closed_stay V closed l m v;
    }
