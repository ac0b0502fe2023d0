-- What a round gives back.
use Rattle.std.proofs.Common.{◌≡◌, ℕ, ◌<◌, true, false, List, [], map, length, slice_index_or, sym, ap, ◌∙◌, subst, arith}
use Rattle.std.specs.List.{All, sum_by}
use Rattle.std.proofs.lemmas.List.Elements.{All-nil}
use Rattle.crossbeam_queue.specs.Passes.{view}
use Rattle.solver_pool.proofs.Sums.{sum_by-map}
use Rattle.solver_pool.specs.declared.resume.Resume.{Ghosts}
use Rattle.solver_pool.specs.Job.{JobView, note_of, entry_of}
use Rattle.solver_pool.specs.own.Steps.{TookAll}
use Rattle.solver_pool.specs.own.Worker.{IsHanded, IsAtWork, StaysAtWork, IsWorkerOf, WorksAlone, HasWorkerPass, StartsWorkers, TakesAllIn}
use Rattle.solver_pool.specs.own.Rounds.{IsBeginning, AreServed}
use Rattle.solver_pool.specs.declared.ring.Ring.{Ring}
use Rattle.solver_pool.specs.declared.pass_view.Note.{Note}
use Rattle.solver_pool.specs.declared.worker.Worker.{Worker}

module _ {R : Type 0} (g : Ghosts R) where
  abbrev pub hz : JobView R → ℕ
  hz j = g.key_of j.run

  opened : (jobs : List (JobView R)) (o : Worker R g) → IsBeginning g jobs o → IsAtWork g true 0 (map (entry_of g) jobs) (map hz jobs) o
  opened jobs o begins =
      let is = begins.0 in
      record {
        owns = is.owns;
        counts = is.counts;
        same = is.book;
        balanced = λ sound f.
            let begun : sum_by f (map hz jobs) ≡ sum_by (λ j. f (hz j)) jobs = sum_by-map f hz jobs in
            let put : sum_by (λ (n : Note). f n.key) (view o.pass.pass).put ≡ sum_by (λ j. f (hz j)) jobs = ap (λ (l : List Note). sum_by (λ (n : Note). f n.key) l) is.put ∙ sum_by-map (λ (n : Note). f n.key) (note_of g) jobs in
            let took : sum_by (λ (n : Note). f n.key) (view o.pass.pass).took ≡ 0 = ap (λ (l : List Note). sum_by (λ (n : Note). f n.key) l) is.took in
            let done : sum_by (λ (j : JobView R). f (hz j)) o.done.items ≡ 0 = ap (λ (l : List (JobView R)). sum_by (λ (j : JobView R). f (hz j)) l) begins.1 in
            omega (arith, begun, put, took, done);
        handed = subst (λ (l : List (JobView R)). All (IsHanded g (map (entry_of g) jobs)) l) (sym begins.1) (All-nil (IsHanded g (map (entry_of g) jobs)));
      }

  at_work : (ring : Ring R) (jobs : List (JobView R)) (o p : Worker R g) (started back : List (Worker R g)) → IsBeginning g jobs o → StartsWorkers g ring o p started → length back ≡ length started
      → ((i : ℕ) (d : Worker R g) → i < length started → IsWorkerOf g ring (slice_index_or back i d) × StaysAtWork g (slice_index_or started i d) (slice_index_or back i d))
      → All (IsAtWork g false 0 (map (entry_of g) jobs) []) back
  at_work ring jobs o p started back begins starts len works k d lt =
      let book = map (entry_of g) jobs in
      let h = starts book (map hz jobs) (opened jobs o begins) in
      (works k d (omega (arith, len, lt))).1 false 0 book [] (h.1 k d (omega (arith, len, lt))).1

  -- the owner once all workers were taken in
  taken_in : (ring : Ring R) (jobs : List (JobView R)) (o p q : Worker R g) (started back : List (Worker R g)) → IsBeginning g jobs o → StartsWorkers g ring o p started → length back ≡ length started
      → ((i : ℕ) (d : Worker R g) → i < length started → IsWorkerOf g ring (slice_index_or back i d) × StaysAtWork g (slice_index_or started i d) (slice_index_or back i d))
      → TakesAllIn g p back q → IsAtWork g true 0 (map (entry_of g) jobs) (map hz jobs) q
  taken_in ring jobs o p q started back begins starts len works takes_in =
      let book = map (entry_of g) jobs in
      let begun = map hz jobs in
      let h = starts book begun (opened jobs o begins) in
      let owners : IsAtWork g true (length back) book begun p = subst (λ (n : ℕ). IsAtWork g true n book begun p) (sym len) h.0 in
      takes_in book begun owners (at_work ring jobs o p started back begins starts len works)

  pub alone_again : (ring : Ring R) (jobs : List (JobView R)) (o p q : Worker R g) (started back : List (Worker R g)) → IsBeginning g jobs o → StartsWorkers g ring o p started → length back ≡ length started
      → ((i : ℕ) (d : Worker R g) → i < length started → IsWorkerOf g ring (slice_index_or back i d) × StaysAtWork g (slice_index_or started i d) (slice_index_or back i d))
      → TakesAllIn g p back q → WorksAlone g q
  alone_again ring jobs o p q started back begins starts len works takes_in = let at = taken_in ring jobs o p q started back begins starts len works takes_in in (at.owns, at.counts)

  pub rounded : (ring : Ring R) (jobs : List (JobView R)) (o p q r : Worker R g) (started back : List (Worker R g)) → IsBeginning g jobs o → StartsWorkers g ring o p started → length back ≡ length started
      → ((i : ℕ) (d : Worker R g) → i < length started → IsWorkerOf g ring (slice_index_or back i d) × StaysAtWork g (slice_index_or started i d) (slice_index_or back i d))
      → TakesAllIn g p back q → StaysAtWork g q r → TookAll (view r.pass.pass) → r.failed ≡ false → AreServed g jobs r.done.items
  rounded ring jobs o p q r started back begins starts len works takes_in drains settles sound =
      let book = map (entry_of g) jobs in
      let begun = map hz jobs in
      let at = drains true 0 book begun (taken_in ring jobs o p q started back begins starts len works takes_in) in
      record {
        once = λ f.
            let b = at.balanced sound f in
            let s = settles at.owns at.counts (λ n. f n.key) in
            let m = sum_by-map f hz jobs in
            omega (arith, b, s, m);
        each = at.handed;
      }

  pub started_of : (ring : Ring R) (jobs : List (JobView R)) (o p : Worker R g) (started : List (Worker R g)) → IsBeginning g jobs o → StartsWorkers g ring o p started → All (IsWorkerOf g ring) started
  started_of ring jobs o p started begins starts k d lt = ((starts (map (entry_of g) jobs) (map hz jobs) (opened jobs o begins)).1 k d lt).0

  pub owner_of : (ring : Ring R) (jobs : List (JobView R)) (o p : Worker R g) (started : List (Worker R g)) → IsBeginning g jobs o → StartsWorkers g ring o p started → (view p.pass.pass).owner ≡ true
  owner_of ring jobs o p started begins starts = (starts (map (entry_of g) jobs) (map hz jobs) (opened jobs o begins)).0.owns

  pub workers_of : (ring : Ring R) (jobs : List (JobView R)) (o p : Worker R g) (started back : List (Worker R g)) → IsBeginning g jobs o → StartsWorkers g ring o p started → length back ≡ length started
      → ((i : ℕ) (d : Worker R g) → i < length started → IsWorkerOf g ring (slice_index_or back i d) × StaysAtWork g (slice_index_or started i d) (slice_index_or back i d))
      → All (HasWorkerPass g) back
  workers_of ring jobs o p started back begins starts len works k d lt = (at_work ring jobs o p started back begins starts len works k d lt).owns
