use Rattle.std.proofs.Common.{◌≡◌, ◌==◌, ℕ, ◌<◌, List, Bool, true, false, not, ◌&&◌, refl, sym, ◌∙◌}
use Rattle.gt_core.specs.Task.{Task, action}
use Rattle.gt_core.specs.Execution.{gains, loses, CanRun, run}
use Rattle.gt_core.specs.Interference.{disables, action_disables}
use Rattle.gt_core.specs.Step.{gained, lost}
use Rattle.gt_core.specs.AllStep.{IsAllStep, HasMembersOnce}
use Rattle.gt_core.proofs.published.Basics.{passing, any_at, same_if, same_test}
use Rattle.gt_core.proofs.published.Literals.{in_among, among_in}
use Rattle.gt_core.proofs.published.Pairwise.{pairwise_both, pairwise_among}
use Rattle.gt_core.proofs.published.Makers.{gainer, gained_by, loser, lost_by}
use Rattle.gt_core.proofs.published.RunLaw.{run_in_turn, gained_in, lost_in}

-- The members of an all-step run in every order.

-- an action does not disable itself
pub itself : (task : Task) (a : ℕ) → disables task a a ≡ false
itself task a = by (a == a) (same_test a a refl)
  where
    by : (b : Bool) → b ≡ true → (not b && action_disables (action task a) (action task a)) ≡ false
    by true e = refl
    by false e = cc

pub each_order : (task : Task) (order : List ℕ) (s members t : ℕ → Bool) (ks : List ℕ) → IsAllStep task order s members t → HasMembersOnce members ks → CanRun task s ks × ((f : ℕ) → f < task.facts → run task s ks f ≡ t f)
each_order task order s members t ks all lists =
    let step = all.step in
    let apart = pairwise_both _ _ ks lists.once (pairwise_among (λ a b. disables task a b ≡ false) ks (λ a b i j. all.none a b (lists.only a (among_in ks a i)) (lists.only b (among_in ks b j)))) in
    let r = run_in_turn task s ks s (λ k i. (step.runs k (lists.only k (among_in ks k i))).action) apart
    (λ a b f i j. step.no_clash a b f (lists.only a (among_in ks a i)) (lists.only b (among_in ks b j)))
    (λ k i. record { runs = (step.runs k (lists.only k (among_in ks k i))).able; conditions = λ e a c j. refl }) in (
      r.0,
      λ f lt.
          let g : gained_in task s ks f ≡ gained task s members f = same_if _ _
          (λ h. let p = passing (λ a. gains task s a f) ks h in gained_by task members s p.one f (lists.only p.one (among_in ks p.one p.among)) p.passes)
          (λ h. let p = gainer task members s f h in any_at (λ a. gains task s a f) ks p.one (in_among ks p.one (lists.all p.one p.member)) p.done) in
          let l : lost_in task s ks f ≡ lost task s members f = same_if _ _
          (λ h. let p = passing (λ a. loses task s a f) ks h in lost_by task members s p.one f (lists.only p.one (among_in ks p.one p.among)) p.passes)
          (λ h. let p = loser task members s f h in any_at (λ a. loses task s a f) ks p.one (in_among ks p.one (lists.all p.one p.member)) p.done) in
          r.1 f ∙ rw (g, l) (sym (step.after f lt)),
    )
