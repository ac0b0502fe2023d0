-- What a turn of a worker comes to.
use Rattle.std.proofs.Common.{◌≡◌, ℕ, ◌+◌, ◌<◌, false, true≢false, List, sym, ap, ◌∙◌, arith, subst, inl, inr}
use mathlib.Core.Option.{some}
use lib.ListN.{get_elem?}
use Rattle.solver_pool.specs.declared.resume.Resume.{Ghosts}
use Rattle.solver_pool.specs.Resume.{IsMoved}
use Rattle.solver_pool.specs.Job.{JobView, note_of, Fits}
use Rattle.solver_pool.specs.own.PassView.{note, with_put, with_take}
use Rattle.solver_pool.specs.own.Steps.{Takes, Puts}
use Rattle.solver_pool.specs.declared.serve.Served.TheVariants.{Back, Done}
use Rattle.solver_pool.specs.own.Serve.{part_of, Turn, taken_note, granted_after, GoesBack, HasServed, IsAdvanced, IsEnded, ServedSays, GoesOn}
use Rattle.solver_pool.specs.declared.pass_view.PassView.{PassView}
use Rattle.solver_pool.specs.declared.pass_view.BookEntry.{BookEntry}

module _ {R : Type 0} (g : Ghosts R) where
  -- the job that a turn is done with is the one that it took
  pub record SameJob (x j : JobView R) : Type 0 where
    pub key : g.key_of j.run ≡ g.key_of x.run
    pub target : j.target ≡ x.target
    pub origin : g.origin_of j.run ≡ g.origin_of x.run

  -- a run that found memory went as far as the turn grants
  pub went : (slice : ℕ) (x j : JobView R) → IsAdvanced g slice x j → g.spoilt_at j.run ≡ false
      → (g.granted_of j.run ≡ g.granted_of x.run + part_of slice x.target (g.granted_of x.run)) × IsMoved g (g.origin_of x.run) (g.granted_of j.run) j.run
  went slice x j (inl a) sound = (a.1, a.2)
  went slice x j (inr b) sound = absurd (true≢false (sym b.0 ∙ sound))

  -- a job that is below its target after its turn may go back to the ring
  pub fits_back : (slice : ℕ) (v w : PassView R) (x j : JobView R) → Takes g v x w → SameJob x j → IsAdvanced g slice x j → g.spoilt_at j.run ≡ false → g.granted_of j.run < j.target → Fits g w.book j
  fits_back slice v w x j took kept advanced sound below =
      let l = took.1.listed in
      let book : v.book ≡ w.book = sym (ap (λ (y : PassView R). y.book) took.0) in
      record {
        listed = (l.0, l.1, subst (λ (b : List (BookEntry R)). get_elem? b l.0 ≡ some l.1) book l.2, (l.3.0 ∙ sym kept.key, l.3.1 ∙ sym kept.target, l.3.2 ∙ sym kept.origin));
        moved = subst (λ (o : R). IsMoved g o (g.granted_of j.run) j.run) (sym kept.origin) (went slice x j advanced sound).1;
        within = omega (arith, below);
        sound = sound;
      }

  turn_of : (slice : ℕ) (v w : PassView R) (x : JobView R) → Takes g v x w → Turn g slice v
  turn_of slice v w x took = let l = took.1.listed in record { place = l.0; entry = l.1; granted = g.granted_of x.run; at = l.2; differ = took.3 }

  noted : (slice : ℕ) (v w : PassView R) (x : JobView R) (took : Takes g v x w) → w ≡ with_take v (taken_note g slice v (turn_of slice v w x took))
  unfolding turn_of
  noted slice v w x took = took.0 ∙ ap (λ (h : ℕ). with_take v (note h (g.granted_of x.run))) (sym took.1.listed.3.0)

  next : (slice : ℕ) (v w : PassView R) (x j : JobView R) (took : Takes g v x w) → g.granted_of j.run ≡ g.granted_of x.run + part_of slice x.target (g.granted_of x.run) → g.granted_of j.run ≡ granted_after g slice v (turn_of slice v w x took)
  unfolding turn_of
  next slice v w x j took e = e ∙ ap (λ (t : ℕ). g.granted_of x.run + part_of slice t (g.granted_of x.run)) (sym took.1.listed.3.1)

  -- whether a run is unsettled is told by its origin and what it was granted
  told : ((r : R) → g.unsettled_at (g.state_of r) ≡ g.unsettled_at r) → (o : R) (k : ℕ) (r : R) → IsMoved g o k r → g.unsettled_at (g.moved o k) ≡ g.unsettled_at r
  told by_state o k r moved = sym (by_state (g.moved o k)) ∙ ap g.unsettled_at (sym moved) ∙ by_state r

  moved_next : (slice : ℕ) (v w : PassView R) (x j : JobView R) (took : Takes g v x w) → g.granted_of j.run ≡ granted_after g slice v (turn_of slice v w x took) → IsMoved g (g.origin_of x.run) (g.granted_of j.run) j.run
      → IsMoved g (turn_of slice v w x took).entry.origin (granted_after g slice v (turn_of slice v w x took)) j.run
  unfolding turn_of
  moved_next slice v w x j took n moved = subst (λ (y : R × ℕ). IsMoved g y.0 y.1 j.run) (λ i. (sym took.1.listed.3.2 i, n i)) moved

  pub back : ((r : R) → g.unsettled_at (g.state_of r) ≡ g.unsettled_at r)
      → (slice : ℕ) (v w u : PassView R) (x j : JobView R) → Takes g v x w → SameJob x j → IsAdvanced g slice x j → GoesOn g j → Puts g w j u → ServedSays g slice v u Back
  unfolding turn_of
  back by_state slice v w u x j took kept advanced on put =
      let t = turn_of slice v w x took in
      let far = went slice x j advanced on.1 in
      let n = next slice v w x j took far.0 in
      let below : g.granted_of j.run < t.entry.target = subst (λ (y : ℕ). g.granted_of j.run < y) (kept.target ∙ sym took.1.listed.3.1) on.2 in
      let h : g.key_of j.run ≡ t.entry.key = kept.key ∙ sym took.1.listed.3.0 in (
        t,
        (subst (λ (y : ℕ). y < t.entry.target) n below, told by_state t.entry.origin (granted_after g slice v t) j.run (moved_next slice v w x j took n far.1) ∙ on.0),
        put ∙ ap (λ (y : PassView R). with_put y (note_of g j)) (noted slice v w x took) ∙ (λ i. with_put (with_take v (taken_note g slice v t)) (note (h i) (n i))),
      )

  -- what became of the run of a job that does not go back
  served : ((r : R) → g.unsettled_at (g.state_of r) ≡ g.unsettled_at r)
      → (slice : ℕ) (v w : PassView R) (x j : JobView R) (took : Takes g v x w) → SameJob x j → IsAdvanced g slice x j → (¬ GoesOn g j) → HasServed g slice v (turn_of slice v w x took) j.run
  unfolding turn_of
  served by_state slice v w x j took kept (inl a) stop =
      let t = turn_of slice v w x took in
      let target : j.target ≡ t.entry.target = kept.target ∙ sym took.1.listed.3.1 in
      let n = next slice v w x j took a.1 in
      let moved = moved_next slice v w x j took n a.2 in
      let stops : ¬ GoesBack g t.entry (granted_after g slice v t) = λ back. stop (sym (told by_state t.entry.origin (granted_after g slice v t) j.run moved) ∙ back.1, a.0, subst (λ (y : ℕ × ℕ). y.0 < y.1) (λ i. (sym n i, sym target i)) back.0) in
      inl (a.0, n, moved, stops)
  served by_state slice v w x j took kept (inr b) stop = inr b

  pub done : ((r : R) → g.unsettled_at (g.state_of r) ≡ g.unsettled_at r)
      → (slice : ℕ) (v w : PassView R) (x j : JobView R) → Takes g v x w → SameJob x j → IsAdvanced g slice x j → (¬ GoesOn g j) → IsEnded g j → ServedSays g slice v w (Done j)
  unfolding turn_of
  done by_state slice v w x j took kept advanced stop end =
      let l = took.1.listed in (
        turn_of slice v w x took,
        noted slice v w x took,
        record { key = kept.key ∙ sym l.3.0; target = kept.target ∙ sym l.3.1; origin = kept.origin ∙ sym l.3.2; run = served by_state slice v w x j took kept advanced stop },
        end,
      )
