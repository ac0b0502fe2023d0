-- What a worker hands out.
use Rattle.std.proofs.Common.{◌≡◌, ℕ, ◌+◌, ◌-◌, ◌<◌, ◌≤◌, Bool, true, false, true≢false, List, [], ◌∷◌, ◌++◌, sym, refl, ap, ◌∙◌, subst, ◌⊎◌, arith, inl, inr}
use Rattle.std.specs.List.{All, sum_by}
use Rattle.std.proofs.lemmas.List.Sums.{sum_by_push}
use Rattle.std.proofs.lemmas.List.Elements.{All-append}
use Rattle.crossbeam_queue.specs.Passes.{view}
use Rattle.solver_pool.specs.declared.resume.Resume.{Ghosts}
use Rattle.solver_pool.specs.Resume.{IsMoved, SettledStays}
use Rattle.solver_pool.specs.Job.{JobView}
use Rattle.solver_pool.specs.own.PassView.{with_take}
use Rattle.solver_pool.specs.own.Serve.{Turn, taken_note, IsDone, IsEnded, IsAdvanced, GoesOn}
use Rattle.solver_pool.specs.own.Worker.{IsHanded, StaysAtWork}
use Rattle.solver_pool.specs.declared.pass_view.PassView.{PassView}
use Rattle.solver_pool.specs.declared.pass_view.Note.{Note}
use Rattle.solver_pool.specs.declared.pass_view.BookEntry.{BookEntry}
use Rattle.solver_pool.specs.declared.worker.Worker.{Worker}
use Rattle.solver_pool.proofs.Keeps.{all_one}
use Rattle.solver_pool.proofs.OneTurn.{SameJob}

module _ {R : Type 0} (g : Ghosts R) where
  ended : (by_state : (r : R) → g.unsettled_at (g.state_of r) ≡ g.unsettled_at r) (target : ℕ) (j o : R) → ((k n : ℕ) → g.unsettled_at (g.moved o k) ≡ false → g.state_of (g.moved o (k + n)) ≡ g.state_of (g.moved o k))
      → g.granted_of j ≤ target → IsMoved g o (g.granted_of j) j → (g.unsettled_at j ≡ true → g.granted_of j ≡ target) → (b : Bool) → g.unsettled_at j ≡ b → IsMoved g o target j
  ended by_state target j o stays within moved all true e = subst (λ (k : ℕ). IsMoved g o k j) (all e) moved
  ended by_state target j o stays within moved all false e =
      let same : g.granted_of j + (target - g.granted_of j) ≡ target = omega (arith, within) in
      let settled : g.unsettled_at (g.moved o (g.granted_of j)) ≡ false = sym (by_state (g.moved o (g.granted_of j))) ∙ ap g.unsettled_at (sym moved) ∙ by_state j ∙ e in
      subst (λ (k : ℕ). IsMoved g o k j) same (moved ∙ sym (stays (g.granted_of j) (target - g.granted_of j) settled))

  handed : (slice : ℕ) (v : PassView R) (j n : JobView R) (t : Turn g slice v) → IsDone g slice v j t → SameJob g j n → IsEnded g n → IsHanded g v.book n
  handed slice v j n t done kept end = ((t.place, t.entry, t.at, (sym (kept.key ∙ done.key), sym (kept.target ∙ done.target), sym (kept.origin ∙ done.origin))), end)

  -- a run that does not go on has come to its target
  pub comes : ((r : R) → g.unsettled_at (g.state_of r) ≡ g.unsettled_at r)
      → (slice : ℕ) (x j : JobView R) → g.origin_of j.run ≡ g.origin_of x.run → j.target ≡ x.target → g.granted_of x.run ≤ x.target → SettledStays g j.run → (¬ GoesOn g j) → IsAdvanced g slice x j → IsEnded g j
  comes by_state slice x j same target within stays stop (inl a) =
      let e = a.1 in
      let now : g.granted_of j.run ≤ j.target = omega (arith, within, target, e) in
      let all : g.unsettled_at j.run ≡ true → g.granted_of j.run ≡ j.target = λ more.
      let past : ¬ (g.granted_of j.run < j.target) = λ lt. stop (more, a.0, lt) in
      omega (arith, now, past) in
      inr (a.0, ended by_state j.target j.run (g.origin_of j.run) stays now (subst (λ (o : R). IsMoved g o (g.granted_of j.run) j.run) (sym same) a.2) all (g.unsettled_at j.run) refl, all)
  comes by_state slice x j same target within stays stop (inr b) = inl b.0

  ended-by : (x j : JobView R) (b : Bool) → g.spoilt_at j.run ≡ b → j.target ≡ x.target → (g.spoilt_at j.run ≡ false → j.run ≡ x.run) → IsEnded g x → IsEnded g j
  ended-by x j true e target same end = inl e
  ended-by x j false e target same end = let run = same e in subst (IsEnded g) (λ i. record { run = sym run i; target = sym target i }) end

  -- a job that is done stays so where its run stays or is spoilt
  pub stays_ended : (x j : JobView R) → j.target ≡ x.target → (g.spoilt_at j.run ≡ false → j.run ≡ x.run) → IsEnded g x → IsEnded g j
  stays_ended x j target same end = ended-by x j (g.spoilt_at j.run) refl target same end

  -- accounts that stay in order twice
  pub stays_on : (k m n : Worker R g) → StaysAtWork g k m → StaysAtWork g m n → StaysAtWork g k n
  stays_on k m n first next owner out book begun was = next owner out book begun (first owner out book begun was)

  -- a worker that handed out one job more, or had no memory for it
  pub hands_out : (slice : ℕ) (k m : Worker R g) (j n : JobView R) (t : Turn g slice (view k.pass.pass))
      → view m.pass.pass ≡ with_take (view k.pass.pass) (taken_note g slice (view k.pass.pass) t) → IsDone g slice (view k.pass.pass) j t → SameJob g j n → IsEnded g n
      → ((m.failed ≡ true) × (m.done.items ≡ k.done.items)) ⊎ ((m.failed ≡ k.failed) × (m.done.items ≡ k.done.items ++ n ∷ []))
      → StaysAtWork g k m
  hands_out slice k m j n t took done kept end (inl fail) owner out book begun was = record {
    owns = ap (λ (v : PassView R). v.owner) took ∙ was.owns;
    counts = ap (λ (v : PassView R). v.out) took ∙ was.counts;
    same = ap (λ (v : PassView R). v.book) took ∙ was.same;
    balanced = λ e. absurd (true≢false (sym fail.0 ∙ e));
    handed = subst (λ (l : List (JobView R)). All (IsHanded g book) l) (sym fail.1) was.handed;
  }
  hands_out slice k m j n t took done kept end (inr more) owner out book begun was =
      let v = view k.pass.pass in
      let took_note = taken_note g slice v t in
      let fit : IsHanded g book n = subst (λ (b : List (BookEntry R)). IsHanded g b n) was.same (handed slice v j n t done kept end) in
      record {
        owns = ap (λ (v : PassView R). v.owner) took ∙ was.owns;
        counts = ap (λ (v : PassView R). v.out) took ∙ was.counts;
        same = ap (λ (v : PassView R). v.book) took ∙ was.same;
        balanced = λ e f.
            let before = was.balanced (sym more.0 ∙ e) f in
            let one = sum_by_push (λ (n : Note). f n.key) v.took took_note in
            let two = sum_by_push (λ (j : JobView R). f (g.key_of j.run)) k.done.items n in
            let h : f t.entry.key ≡ f (g.key_of n.run) = ap f (sym (kept.key ∙ done.key)) in
            subst (λ (y : PassView R × List (JobView R)). sum_by (λ n. f n.key) y.0.took + sum_by f begun ≡ sum_by (λ n. f n.key) y.0.put + sum_by (λ j. f (g.key_of j.run)) y.1)
            (λ i. (sym took i, sym more.1 i)) (omega (arith, before, one, two, h));
        handed = subst (λ (l : List (JobView R)). All (IsHanded g book) l) (sym more.1) (All-append (IsHanded g book) k.done.items (n ∷ []) was.handed (all_one (IsHanded g book) n fit));
      }
