-- A turn of the owner alone leaves less to do.
use Rattle.std.proofs.Common.{◌≡◌, ℕ, ◌+◌, ◌<◌, ◌≤◌, ap, ◌∙◌, arith}
use Rattle.std.specs.List.{sum_by}
use Rattle.std.proofs.lemmas.List.Sums.{sum_by_push}
use Rattle.solver_pool.specs.declared.resume.Resume.{Ghosts}
use Rattle.solver_pool.specs.declared.pass_view.PassView.{PassView}
use Rattle.solver_pool.specs.Job.{JobView, note_of}
use Rattle.solver_pool.specs.own.PassView.{IsAlone}
use Rattle.solver_pool.specs.own.Steps.{Takes, Puts}
use Rattle.solver_pool.specs.own.Serve.{IsAdvanced, GoesOn}
use Rattle.solver_pool.specs.own.Left.{left_at, left_in, Falls}
use Rattle.solver_pool.proofs.OneTurn.{went}

module _ {R : Type 0} (g : Ghosts R) where
  -- the notes of a take: what is left falls by the job's, and nothing is cut off
  taken : (v w : PassView R) (x : JobView R) → Takes g v x w → IsAlone v
      → IsAlone w × (left_in w + left_at (note_of g x) ≡ left_in v) × (sum_by left_at w.took ≤ sum_by left_at w.put)
  taken v w x took alone =
      let owns = ap (λ (y : PassView R). y.owner) took.0 ∙ alone.0 in
      let none = ap (λ (y : PassView R). y.out) took.0 ∙ alone.1 in
      let le = took.4 owns none left_at in
      let put : sum_by left_at w.put ≡ sum_by left_at v.put = ap (λ (y : PassView R). sum_by left_at y.put) took.0 in
      let all : sum_by left_at w.took ≡ sum_by left_at v.took + left_at (note_of g x) = ap (λ (y : PassView R). sum_by left_at y.took) took.0 ∙ sum_by_push left_at v.took (note_of g x) in
      ((owns, none), omega (arith, le, put, all), le)

  pub falls_done : (v w : PassView R) (x : JobView R) → Takes g v x w → x.target ≤ 1073741824 → Falls v w
  falls_done v w x took most alone = let t = taken v w x took alone in (t.0, omega (arith, t.1, took.1.within, most))

  pub falls_back : (slice : ℕ) (v w u : PassView R) (x j : JobView R) → Takes g v x w → 1 ≤ slice → IsAdvanced g slice x j → GoesOn g j → j.target ≡ x.target → x.target ≤ 1073741824 → Puts g w j u → Falls v u
  falls_back slice v w u x j took one advanced on target most put alone =
      let t = taken v w x took alone in
      let owns = ap (λ (y : PassView R). y.owner) put ∙ t.0.0 in
      let none = ap (λ (y : PassView R). y.out) put ∙ t.0.1 in
      let rises : g.granted_of x.run < g.granted_of j.run = omega (arith, (went g slice x j advanced on.1).0, on.2, target, one) in
      let puts : sum_by left_at u.put ≡ sum_by left_at w.put + left_at (note_of g j) = ap (λ (y : PassView R). sum_by left_at y.put) put ∙ sum_by_push left_at w.put (note_of g j) in
      let took' : sum_by left_at u.took ≡ sum_by left_at w.took = ap (λ (y : PassView R). sum_by left_at y.took) put in
      ((owns, none), omega (arith, t.1, t.2, puts, took', rises, on.2, target, most))
