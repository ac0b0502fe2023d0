-- The next put of the opening.
use Rattle.std.proofs.Common.{◌≡◌, ◌+◌, ◌<◌, ◌≤◌, false, List, ◌∷◌, ◌++◌, map, length, length-append, sym, ap, ◌∙◌, subst, arith}
use Rattle.std.specs.List.{All}
use mathlib.Core.Option.{some}
use lib.ListN.{get_elem?, length-map}
use Rattle.crossbeam_queue.proofs.Lists.{at_longer}
use Rattle.solver_pool.specs.declared.resume.Resume.{Ghosts}
use Rattle.solver_pool.specs.Job.{JobView, Differ, key_at, IsNew, key_in, note_of, entry_of}
use Rattle.solver_pool.specs.own.PassView.{MayOpen}
use Rattle.solver_pool.specs.Ring.{IsOpened}
use Rattle.solver_pool.specs.declared.pass_view.PassView.{PassView}
use Rattle.solver_pool.specs.declared.pass_view.Note.{Note}
use Rattle.solver_pool.specs.declared.pass_view.BookEntry.{BookEntry}
use Rattle.solver_pool.proofs.Places.{at_here, in_range, at_mid, at_mapped}

module _ {R : Type 0} (g : Ghosts R) where
  pub still_alone : (jobs seen rest : List (JobView R)) (x : JobView R) (v : PassView R) → seen ++ x ∷ rest ≡ jobs → length jobs ≤ 16 → IsOpened g seen v → MayOpen v
  still_alone jobs seen rest x v whole few is =
      let put : length v.put ≡ length seen = ap (λ (l : List Note). length l) is.put ∙ length-map seen (note_of g) in
      let all = ap (λ (l : List (JobView R)). length l) whole in
      let more : length v.put < length v.took + 16 = omega (arith, put, all, few, length-append seen (x ∷ rest)) in
      ((is.owns, is.counts), more)

  pub still_new : (jobs seen rest : List (JobView R)) (x : JobView R) (v : PassView R) → seen ++ x ∷ rest ≡ jobs → Differ (key_in g) jobs → IsOpened g seen v → IsNew v.book (g.key_of x.run)
  still_new jobs seen rest x v whole differ is k e at same =
      let there : get_elem? (map (entry_of g) seen) k ≡ some e = subst (λ (l : List (BookEntry R)). get_elem? l k ≡ some e) is.book at in
      let found = at_mapped (entry_of g) seen k e there in
      let j = found.0 in
      let one : get_elem? jobs k ≡ some j = subst (λ (l : List (JobView R)). get_elem? l k ≡ some j) whole (at_longer seen (x ∷ rest) k j found.1) in
      let two : get_elem? jobs (length seen) ≡ some x = subst (λ (l : List (JobView R)). get_elem? l (length seen) ≡ some x) whole (at_here seen x rest) in
      let is_it = differ k (length seen) j x one two (ap key_at found.2 ∙ same) in
      let below = in_range seen k j found.1 in
      omega (arith, is_it, below)

  pub still_sound : (jobs seen rest : List (JobView R)) (x : JobView R) → seen ++ x ∷ rest ≡ jobs → All (λ (j : JobView R). g.spoilt_at j.run ≡ false) jobs → g.spoilt_at x.run ≡ false
  still_sound jobs seen rest x whole sound = at_mid (λ (j : JobView R). g.spoilt_at j.run ≡ false) seen x rest (subst (λ (l : List (JobView R)). All (λ (j : JobView R). g.spoilt_at j.run ≡ false) l) (sym whole) sound)
