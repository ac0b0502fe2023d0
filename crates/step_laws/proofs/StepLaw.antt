use Rattle.std.proofs.Common.{◌≡◌, ◌==◌, ℕ, ◌+◌, ◌*◌, ◌/◌, ◌%◌, ◌<◌, Bool, true, false, not, ◌||◌, ◌&&◌, refl, sym, ap, ◌∙◌, ◌⊎◌, inl, inr}
use Rattle.std.specs.List.{list_any}
use Rattle.gt_core.specs.Literal.{opposite, holds, all_hold}
use Rattle.gt_core.specs.Task.{Task, EffectOf, effects}
use Rattle.gt_core.specs.Execution.{makes, gains, loses}
use Rattle.gt_core.specs.Step.{gained, lost, next}
use Rattle.gt_core.proofs.published.Basics.{Among, passing, any_at, or_left, and_split, and_both, not_split, not_false, not_true, apart, cases, same_test, test_same}
use Rattle.gt_core.proofs.published.Literals.{holds_add, holds_delete, add_is_even, delete_opposite, even_is_add, odd_is_delete}
use Rattle.gt_core.proofs.published.Makers.{Maker, maker, made, gainer, gained_by, loser, lost_by}
use Rattle.formula_defs.proofs.published.InRange.{HasFacts}

-- the effect is one of an active member: it is a member's, and its condition holds
abbrev pub is_effective : (ℕ → Bool) → (ℕ → Bool) → EffectOf → Bool
is_effective members s e = members e.action && all_hold s e.condition

-- what the effect and frame clauses of one step say, where `members` are the true actions and `s` and `t` the states
pub record StepHolds (task : Task) (members s t : ℕ → Bool) : Type 0 where
  pub results : (e : EffectOf) → Among e (effects task) → is_effective members s e ≡ true → (holds t e.literal ≡ true) ⊎ ((e.literal % 2 == 0) ≡ false × list_any (λ d. ((d.action == e.action) && (d.literal == opposite e.literal)) && is_effective members s d) (effects task) ≡ true)
  pub stays_true : (f : ℕ) → f < task.facts → s f ≡ true → t f ≡ false → list_any (λ e. (e.literal == 2 * f + 1) && is_effective members s e) (effects task) ≡ true
  pub stays_false : (f : ℕ) → f < task.facts → s f ≡ false → t f ≡ true → list_any (λ e. (e.literal == 2 * f) && is_effective members s e) (effects task) ≡ true

-- the same of the state after, in the words of a step
pub record StepMeans (task : Task) (members s t : ℕ → Bool) : Type 0 where
  pub no_clash : (a b f : ℕ) → members a ≡ true → members b ≡ true → gains task s a f ≡ true → loses task s b f ≡ true → ⊥
  pub after : (f : ℕ) → f < task.facts → t f ≡ next task s members f

pub maker_active : (task : Task) (members s : ℕ → Bool) (a l : ℕ) (m : Maker task s a l) → members a ≡ true → is_effective members s m.effect ≡ true
maker_active task members s a l m e = and_both (members m.effect.action) _ (ap members m.action ∙ e) m.condition

-- an active effect, as its action's
pub active_maker : (task : Task) (members s : ℕ → Bool) (e : EffectOf) → Among e (effects task) → is_effective members s e ≡ true → Maker task s e.action e.literal
active_maker task members s e a h = record { effect = e; among = a; action = refl; literal = refl; condition = (and_split (members e.action) _ h).1 }

-- an effect of a literal among the active ones
active_one : (task : Task) (members s : ℕ → Bool) (l : ℕ) → list_any (λ e. (e.literal == l) && is_effective members s e) (effects task) ≡ true → (a : ℕ) × members a ≡ true × makes task s a l ≡ true
active_one task members s l h =
    let p = passing _ (effects task) h in
    let x = and_split (p.one.literal == l) (is_effective members s p.one) p.passes in
    let y = and_split (members p.one.action) _ x.1 in
    (p.one.action, y.0, made task s p.one.action l (record { effect = p.one; among = p.among; action = refl; literal = test_same _ _ x.0; condition = y.1 }))

active_of : (task : Task) (members s : ℕ → Bool) (a l : ℕ) → members a ≡ true → makes task s a l ≡ true → list_any (λ e. (e.literal == l) && is_effective members s e) (effects task) ≡ true
active_of task members s a l e h =
    let m = maker task s a l h in
    any_at _ (effects task) m.effect m.among (and_both (m.effect.literal == l) _ (same_test _ _ m.literal) (maker_active task members s a l m e))

module _ (task : Task) (members s t : ℕ → Bool) where
  -- from the clauses to the step
  gain_true : StepHolds task members s t → (a f : ℕ) → members a ≡ true → gains task s a f ≡ true → t f ≡ true
  gain_true h a f e g =
      let m = maker task s a (2 * f) g in
      elim (h.results m.effect m.among (maker_active task members s a (2 * f) m e)) [
        | inl x ↦ sym (holds_add t f) ∙ ap (holds t) (sym m.literal) ∙ x
        | inr x ↦ absurd (apart (m.effect.literal % 2 == 0) (add_is_even m.effect.literal f m.literal) x.0)
      ]

  loss_false : StepHolds task members s t → (a f : ℕ) → members a ≡ true → loses task s a f ≡ true → t f ≡ false
  loss_false h a f e l =
      let both = and_split (makes task s a (2 * f + 1)) (not (gains task s a f)) l in
      let m = maker task s a (2 * f + 1) both.0 in
      elim (h.results m.effect m.among (maker_active task members s a (2 * f + 1) m e)) [
        | inl x ↦ not_split (t f) (sym (holds_delete t f) ∙ ap (holds t) (sym m.literal) ∙ x)
        | inr x ↦
            let p = passing (λ d. ((d.action == m.effect.action) && (d.literal == opposite m.effect.literal)) && is_effective members s d) (effects task) x.1 in
            let y = and_split ((p.one.action == m.effect.action) && (p.one.literal == opposite m.effect.literal)) (is_effective members s p.one) p.passes in
            let z = and_split (p.one.action == m.effect.action) (p.one.literal == opposite m.effect.literal) y.0 in
            let g : gains task s a f ≡ true = made task s a (2 * f) (record {
              effect = p.one;
              among = p.among;
              action = test_same _ _ z.0 ∙ m.action;
              literal = test_same _ _ z.1 ∙ delete_opposite m.effect.literal f m.literal;
              condition = (and_split (members p.one.action) _ y.1).1;
            }) in
            absurd (apart (gains task s a f) g (not_split (gains task s a f) both.1))
      ]

  after_by : StepHolds task members s t → (f : ℕ) → f < task.facts → (g l now later : Bool) → gained task s members f ≡ g → lost task s members f ≡ l → s f ≡ now → t f ≡ later → later ≡ (g || (now && not l))
  after_by h f lt true l now later eg el es et = let x = gainer task members s f eg in sym et ∙ gain_true h x.one f x.member x.done
  after_by h f lt false true true later eg el es et = let x = loser task members s f el in sym et ∙ loss_false h x.one f x.member x.done
  after_by h f lt false true false later eg el es et = let x = loser task members s f el in sym et ∙ loss_false h x.one f x.member x.done
  after_by h f lt false false true true eg el es et = refl
  after_by h f lt false false true false eg el es et =
      let d = active_one task members s (2 * f + 1) (h.stays_true f lt es et) in
      elim (cases (gains task s d.0 f)) [
        | inl g ↦ absurd (apart _ (gained_by task members s d.0 f d.1 g) eg)
        | inr g ↦ absurd (apart _ (lost_by task members s d.0 f d.1 (and_both _ _ d.2 (not_false _ g))) el)
      ]
  after_by h f lt false false false false eg el es et = refl
  after_by h f lt false false false true eg el es et =
      let d = active_one task members s (2 * f) (h.stays_false f lt es et) in
      absurd (apart _ (gained_by task members s d.0 f d.1 d.2) eg)

  pub step_means : StepHolds task members s t → StepMeans task members s t
  step_means h = record {
    no_clash = λ a b f x y g l. apart (t f) (gain_true h a f x g) (loss_false h b f y l);
    after = λ f lt. after_by h f lt _ _ _ _ refl refl refl refl;
  }

  -- from the step to the clauses
  result_by : HasFacts task → StepMeans task members s t → (e : EffectOf) → Among e (effects task) → is_effective members s e ≡ true → (even : Bool) → (e.literal % 2 == 0) ≡ even → (holds t e.literal ≡ true) ⊎ ((e.literal % 2 == 0) ≡ false × list_any (λ d. ((d.action == e.action) && (d.literal == opposite e.literal)) && is_effective members s d) (effects task) ≡ true)
  result_by has m e a x true ev =
      let f = e.literal / 2 in
      let is = even_is_add e.literal ev in
      let member = (and_split (members e.action) _ x).0 in
      let g : gains task s e.action f ≡ true = ap (makes task s e.action) (sym is) ∙ made task s e.action e.literal (active_maker task members s e a x) in
      let n : next task s members f ≡ true = or_left (gained task s members f) _ (gained_by task members s e.action f member g) in
      inl (ap (holds t) is ∙ holds_add t f ∙ m.after f (has e a) ∙ n)
  result_by has m e a x false ev =
      let f = e.literal / 2 in
      let is = odd_is_delete e.literal ev in
      let member = (and_split (members e.action) _ x).0 in
      elim (cases (gains task s e.action f)) [
        | inl g ↦
            let k = maker task s e.action (2 * f) g in
            inr (ev, any_at _ (effects task) k.effect k.among (and_both _ _ (and_both _ _ (same_test _ _ k.action) (same_test _ _ (k.literal ∙ sym (delete_opposite e.literal f is)))) (maker_active task members s e.action (2 * f) k member)))
        | inr g ↦
            let l : loses task s e.action f ≡ true = and_both _ _ (ap (makes task s e.action) (sym is) ∙ made task s e.action e.literal (active_maker task members s e a x)) (not_false _ g) in
            let no : gained task s members f ≡ false = not_true _ (λ h. let y = gainer task members s f h in m.no_clash y.one e.action f y.member member y.done l) in
            let yes : lost task s members f ≡ true = lost_by task members s e.action f member l in
            let n : next task s members f ≡ false = none_left _ _ _ no yes in
            inl (ap (holds t) is ∙ holds_delete t f ∙ not_false (t f) (m.after f (has e a) ∙ n))
      ]
    where
      none_left : (g now l : Bool) → g ≡ false → l ≡ true → (g || (now && not l)) ≡ false
      none_left true now l e f = cc
      none_left false true true e f = refl
      none_left false true false e f = cc
      none_left false false l e f = refl

  stays_true_by : (f : ℕ) → (g now l : Bool) → lost task s members f ≡ l → now ≡ true → (g || (now && not l)) ≡ false → list_any (λ e. (e.literal == 2 * f + 1) && is_effective members s e) (effects task) ≡ true
  stays_true_by f true now l el es n = cc
  stays_true_by f false false l el es n = cc
  stays_true_by f false true false el es n = cc
  stays_true_by f false true true el es n = let x = loser task members s f el in active_of task members s x.one (2 * f + 1) x.member (and_split _ _ x.done).0

  stays_false_by : (f : ℕ) → (g now l : Bool) → gained task s members f ≡ g → now ≡ false → (g || (now && not l)) ≡ true → list_any (λ e. (e.literal == 2 * f) && is_effective members s e) (effects task) ≡ true
  stays_false_by f false false l eg es n = cc
  stays_false_by f false true l eg es n = cc
  stays_false_by f true now l eg es n = let x = gainer task members s f eg in active_of task members s x.one (2 * f) x.member x.done

  pub step_holds : HasFacts task → StepMeans task members s t → StepHolds task members s t
  step_holds has m = record {
    results = λ e a x. result_by has m e a x (e.literal % 2 == 0) refl;
    stays_true = λ f lt es et. stays_true_by f (gained task s members f) (s f) (lost task s members f) refl es (sym (m.after f lt) ∙ et);
    stays_false = λ f lt es et. stays_false_by f (gained task s members f) (s f) (lost task s members f) refl es (sym (m.after f lt) ∙ et);
  }
