-- Passes that are given out and taken in, and what their workers hand out.
use Rattle.std.proofs.Common.{◌≡◌, ℕ, zero, suc, ◌+◌, ◌-◌, true, false, List, [], ◌∷◌, ◌++◌, sym, refl, ap, ◌∙◌, subst, arith}
use Rattle.std.specs.List.{All}
use Rattle.std.proofs.lemmas.List.Sums.{sum_by-append}
use Rattle.std.proofs.lemmas.List.Elements.{All-nil, All-tail}
use Rattle.crossbeam_queue.specs.Passes.{view}
use Rattle.solver_pool.specs.declared.resume.Resume.{Ghosts}
use Rattle.solver_pool.specs.Job.{JobView}
use Rattle.solver_pool.specs.own.PassView.{worker_view, with_pass_out, with_pass_in}
use Rattle.solver_pool.specs.own.Worker.{IsBalanced, IsHanded, IsAtWork}
use Rattle.solver_pool.specs.declared.pass_view.PassView.{PassView}
use Rattle.solver_pool.specs.declared.pass_view.Note.{Note}
use Rattle.solver_pool.specs.declared.pass_view.BookEntry.{BookEntry}
use Rattle.solver_pool.specs.declared.worker.Worker.{Worker}

module _ {R : Type 0} (g : Ghosts R) where
  -- the owner after it gave a pass out
  pub gives_out : (n : ℕ) (book : List (BookEntry R)) (begun : List ℕ) (k m : Worker R g) → view m.pass.pass ≡ with_pass_out (view k.pass.pass) → m.done.items ≡ k.done.items → m.failed ≡ k.failed
      → IsAtWork g true n book begun k → IsAtWork g true (n + 1) book begun m
  gives_out n book begun k m e d f was = record {
    owns = ap (λ (v : PassView R). v.owner) e ∙ was.owns;
    counts = ap (λ (v : PassView R). v.out) e ∙ ap (λ (n : ℕ). n + 1) was.counts;
    same = ap (λ (v : PassView R). v.book) e ∙ was.same;
    balanced = λ sound. subst (λ (y : PassView R × List (JobView R)). IsBalanced g begun y.0 y.1) (λ i. (sym e i, sym d i)) (was.balanced (sym f ∙ sound));
    handed = subst (λ (l : List (JobView R)). All (IsHanded g book) l) (sym d) was.handed;
  }

  -- a worker with a new pass
  pub begins_work : (v : PassView R) (book : List (BookEntry R)) (w : Worker R g) → view w.pass.pass ≡ worker_view v.book → v.book ≡ book → w.done.items ≡ [] → IsAtWork g false 0 book [] w
  begins_work v book w e b d = record {
    owns = ap (λ (v : PassView R). v.owner) e;
    counts = ap (λ (v : PassView R). v.out) e;
    same = ap (λ (v : PassView R). v.book) e ∙ b;
    balanced = λ sound. subst (λ (y : PassView R × List (JobView R)). IsBalanced g [] y.0 y.1) (λ i. (sym e i, sym d i)) (λ f. refl);
    handed = subst (λ (l : List (JobView R)). All (IsHanded g book) l) (sym d) (All-nil (IsHanded g book));
  }

  -- the owner after it took a worker in
  pub takes_in : (n : ℕ) (book : List (BookEntry R)) (begun : List ℕ) (k w m : Worker R g) → view m.pass.pass ≡ with_pass_in (view k.pass.pass) (view w.pass.pass)
      → (m.failed ≡ false → (k.failed ≡ false) × (w.failed ≡ false) × (m.done.items ≡ k.done.items ++ w.done.items)) → All (IsHanded g book) m.done.items
      → IsAtWork g true (n + 1) book begun k → IsAtWork g false 0 book [] w → IsAtWork g true n book begun m
  takes_in n book begun k w m e d hand was its = record {
    owns = ap (λ (v : PassView R). v.owner) e ∙ was.owns;
    counts = ap (λ (v : PassView R). v.out) e ∙ ap (λ (n : ℕ). n - 1) was.counts ∙ (let r : n + 1 - 1 ≡ n = omega arith in r);
    same = ap (λ (v : PassView R). v.book) e ∙ was.same;
    balanced = λ sound.
        let said = d sound in
        let a = view k.pass.pass in
        let b = view w.pass.pass in
        let now : IsBalanced g begun (with_pass_in a b) (k.done.items ++ w.done.items) = λ f.
        let one = was.balanced said.0 f in
        let two = its.balanced said.1 f in
        omega (arith, one, two, sum_by-append (λ (n : Note). f n.key) a.put b.put, sum_by-append (λ (n : Note). f n.key) a.took b.took, sum_by-append (λ (j : JobView R). f (g.key_of j.run)) k.done.items w.done.items) in
        subst (λ (y : PassView R × List (JobView R)). IsBalanced g begun y.0 y.1) (λ i. (sym e i, sym said.2 i)) now;
    handed = hand;
  }

pub all_init : {X : Type 0} (P : X → Type 0) (xs : List X) (y : X) → All P (xs ++ y ∷ []) → All P xs
all_init P [] y h k d lt = absurd (omega arith)
all_init P (x ∷ xs) y h zero d lt = h 0 d (omega arith)
all_init P (x ∷ xs) y h (suc k) d lt = all_init P xs y (All-tail P x (xs ++ y ∷ []) h) k d (omega arith)

pub all_last : {X : Type 0} (P : X → Type 0) (xs : List X) (y : X) → All P (xs ++ y ∷ []) → P y
all_last P [] y h = h 0 y (omega arith)
all_last P (x ∷ xs) y h = all_last P xs y (All-tail P x (xs ++ y ∷ []) h)
