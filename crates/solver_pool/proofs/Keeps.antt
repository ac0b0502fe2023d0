-- Each step of the ring keeps its rule.
use Rattle.std.proofs.Common.{Option, Some, None, MatchOption, ◌≡◌, ◌≢◌, ℕ, zero, suc, ◌+◌, ◌<◌, ◌≤◌, ◌==◌, Bool, true, false, true≢false, not, List, [], ◌∷◌, ◌++◌, length, set, sym, refl, ap, ◌∙◌, subst, ◌⊎◌, ⊎_elim, inl, inr, arith, length-append, eq-eqb}
use Rattle.std.proofs.lemmas.Bool.{eqb-true}
use Rattle.std.proofs.lemmas.List.{nil_from_length}
use Rattle.std.specs.List.{All, sum_by}
use Rattle.std.proofs.lemmas.List.Sums.{sum_by-cons, sum_by_push, sum_by-append}
use Rattle.std.proofs.lemmas.List.Elements.{All-append, All-nil, All-tail}
use mathlib.Core.Option.{some, some-injective, some-ne-none}
use lib.ListN.{get_elem?}
use Rattle.crossbeam_queue.specs.Fifo.{Pushes, Pops, Forks, Merges, Learns, Held}
use Rattle.crossbeam_queue.proofs.Lists.{at_set, at_snoc, at_longer, at_last}
use Rattle.solver_pool.specs.declared.resume.Resume.{Ghosts}
use Rattle.solver_pool.specs.Resume.{IsMoved}
use Rattle.solver_pool.specs.Job.{JobView, Differ, key_at, IsNew, note_of, entry_of, Fits}
use Rattle.solver_pool.specs.own.PassView.{owner_view, worker_view, ended_view, with_put, with_take, with_entry, with_pass_out, with_pass_in, count_of, live_count, MayPut}
use Rattle.solver_pool.specs.own.Rule.{IsWorkerView, IsLawful, RuleHolds}
use Rattle.solver_pool.specs.own.Steps.{TookAll, TookPuts, Settles, Takes, Opens}
use Rattle.solver_pool.specs.declared.pass_view.PassView.{PassView}
use Rattle.solver_pool.specs.declared.pass_view.Note.{Note}
use Rattle.solver_pool.specs.declared.pass_view.BookEntry.{BookEntry}
use Rattle.solver_pool.proofs.Sums.{one_if, sum_there, no_term, no_sum, sum_ones, sums_of, sum_le, sum_lt}

pub all_one : {X : Type 0} (P : X → Type 0) (x : X) → P x → All P (x ∷ [])
all_one P x p zero d h = p
all_one P x p (suc k) d h = absurd (omega arith)

-- one more note of this key
times_push : (h : ℕ) (ns : List Note) (n : Note) → n.key ≡ h → count_of h (ns ++ n ∷ []) ≡ count_of h ns + 1
times_push h ns n e =
    let one : one_if (n.key == h) ≡ 1 = ap one_if (eq-eqb n.key h e) in
    omega (arith, one, sum_by_push (λ (m : Note). one_if (m.key == h)) ns n)

times_grow : (h : ℕ) (ns : List Note) (n : Note) → count_of h ns ≤ count_of h (ns ++ n ∷ [])
times_grow h ns n = omega (arith, sum_by_push (λ (m : Note). one_if (m.key == h)) ns n)

is_over : (b : Bool) → one_if (not b) ≡ 0 → b ≡ true
is_over true e = refl
is_over false e = absurd (omega (arith, e))

-- what stands in a list with one item more
at_end : {A : Type 0} (l : List A) (a b : A) (j : ℕ) → get_elem? (l ++ a ∷ []) j ≡ some b → (get_elem? l j ≡ some b) ⊎ ((a ≡ b) × (j ≡ length l))
at_end [] a b zero e = inr (some-injective a b e, refl)
at_end [] a b (suc j) e = absurd (some-ne-none b (sym e))
at_end (x ∷ xs) a b zero e = inl e
at_end (x ∷ xs) a b (suc j) e = ⊎_elim (λ t. inl t) (λ t. let m = t.1 in inr (t.0, omega (arith, m))) (at_end xs a b j e)

-- a book with an entry of a new key
differ_more : {R : Type 0} (book : List (BookEntry R)) (x : BookEntry R) → Differ key_at book → IsNew book x.key → Differ key_at (book ++ x ∷ [])
differ_more book x differ new i j a b p q e =
    ⊎_elim (λ (s : get_elem? book i ≡ some a).
    ⊎_elim (λ (t : get_elem? book j ≡ some b). differ i j a b s t e) (λ (t : (x ≡ b) × (j ≡ length book)). absurd (new i a s (e ∙ ap key_at (sym t.0)))) (at_end book x b j q))
    (λ (s : (x ≡ a) × (i ≡ length book)).
    ⊎_elim (λ (t : get_elem? book j ≡ some b). absurd (new j b t (sym e ∙ ap key_at (sym s.0)))) (λ (t : (x ≡ b) × (j ≡ length book)). s.1 ∙ sym t.1) (at_end book x b j q))
    (at_end book x a i p)

-- a put of a key that was taken more often than put
times_put : (h k : ℕ) (put took : List Note) (n : Note) → n.key ≡ k → count_of k put < count_of k took → count_of h put ≤ count_of h took → count_of h (put ++ n ∷ []) ≤ count_of h took
times_put h k put took n e more le =
    let P : Bool → Type 0 = λ b. (n.key == h) ≡ b → count_of h (put ++ n ∷ []) ≤ count_of h took in
    let yes : P true = λ t.
    let same : k ≡ h = sym e ∙ eqb-true n.key h t in
    let more' : count_of h put < count_of h took = subst (λ j. count_of j put < count_of j took) same more in
    omega (arith, times_push h put n (e ∙ same), more') in
    let no : P false = λ f.
    let zero' : one_if (n.key == h) ≡ 0 = ap one_if f in
    omega (arith, zero', le, sum_by_push (λ (m : Note). one_if (m.key == h)) put n) in
    (elim (n.key == h) as P [ true ↦ yes | false ↦ no ]) refl

module _ {R : Type 0} (g : Ghosts R) where
  pub begins : RuleHolds g [] (owner_view ∷ [])
  begins = record { owner = refl; all_notes = λ f. refl; workers = λ j v e. absurd (some-ne-none v (sym e)); count = refl; few = omega arith; differ = λ i j a b e. absurd (some-ne-none a (sym e)); fits = All-nil (Fits g []) }

  owner_puts : (x : JobView R) (items : List (JobView R)) (o : PassView R) (ws : List (PassView R)) → IsLawful g items o ws → length o.put < length o.took + 16 → Fits g o.book x
      → IsLawful g (items ++ x ∷ []) (with_put o (note_of g x)) ws
  owner_puts x items o ws r room fit = record {
    owner = r.owner;
    all_notes = λ f. let before = r.all_notes f in omega (arith, before, sum_by_push f o.put (note_of g x), sum_by_push (λ j. f (note_of g j)) items x);
    workers = r.workers;
    count = r.count;
    few = omega (arith, length-append o.put (note_of g x ∷ []));
    differ = r.differ;
    fits = All-append (Fits g o.book) items (x ∷ []) r.fits (all_one (Fits g o.book) x fit);
  }

  -- a worker's pass gets other notes, and the ring holds other jobs
  worker_moves : (items jobs : List (JobView R)) (o : PassView R) (ws : List (PassView R)) (j : ℕ) (v : PassView R) (put took : List Note) → IsLawful g items o ws → get_elem? ws j ≡ some v → v.ended ≡ false
      → ((h : ℕ) → count_of h put ≤ count_of h took) → length put ≤ length took
      → ((f : Note → ℕ) → sum_by f put + sum_by f v.took + sum_by (λ j. f (note_of g j)) items ≡ sum_by f v.put + sum_by f took + sum_by (λ j. f (note_of g j)) jobs)
      → All (Fits g o.book) jobs → IsLawful g jobs o (set ws j (record v { put = put; took = took }))
  worker_moves items jobs o ws j v put took r at live back fewer notes fits =
      let w : PassView R = record v { put = put; took = took } in
      let was = r.workers j v at in
      let now : IsWorkerView o.book w = record { worker = was.worker; same = was.same; none = λ e. absurd (true≢false (sym e ∙ live)); back = back; fewer = fewer } in
      record {
        owner = r.owner;
        all_notes = λ f. omega (arith, r.all_notes f, notes f, sum_there (λ (u : PassView R). sum_by f u.put) ws j v w at, sum_there (λ (u : PassView R). sum_by f u.took) ws j v w at);
        workers = λ k u e. ⊎_elim (λ (t : (k ≡ j) × (w ≡ u)). subst (λ (y : PassView R). IsWorkerView o.book y) t.1 now) (λ (t : (k ≢ j) × (get_elem? ws k ≡ some u)). r.workers k u t.1) (at_set ws j k w u e);
        count = let t = sum_there (λ (u : PassView R). one_if (not u.ended)) ws j v w at in omega (arith, t, r.count);
        few = r.few;
        differ = r.differ;
        fits = fits;
      }

  worker_puts : (x : JobView R) (items : List (JobView R)) (o : PassView R) (ws : List (PassView R)) (j : ℕ) (v : PassView R) → IsLawful g items o ws → get_elem? ws j ≡ some v → v.ended ≡ false
      → count_of (g.key_of x.run) v.put < count_of (g.key_of x.run) v.took → length v.put < length v.took → Fits g v.book x
      → IsLawful g (items ++ x ∷ []) o (set ws j (with_put v (note_of g x)))
  worker_puts x items o ws j v r at live held fewer fit =
      let n = note_of g x in
      let was = r.workers j v at in
      worker_moves items (items ++ x ∷ []) o ws j v (v.put ++ n ∷ []) v.took r at live (λ h. times_put h n.key v.put v.took n refl held (was.back h)) (omega (arith, length-append v.put (n ∷ [])))
      (λ f. omega (arith, sum_by_push f v.put n, sum_by_push (λ j. f (note_of g j)) items x))
      (All-append (Fits g o.book) items (x ∷ []) r.fits (all_one (Fits g o.book) x (subst (λ (b : List (BookEntry R)). Fits g b x) (was.same live) fit)))

  pub puts : (n port : ℕ) (v : PassView R) (x : JobView R) → v.ended ≡ false → MayPut v (g.key_of x.run) → Fits g v.book x → Pushes (RuleHolds g) n port v x (λ w. w ≡ with_put v (note_of g x))
  puts n port v x live may fit items [] space b at = absurd b
  puts n zero v x live may fit items (o ∷ ws) space b at =
      let is : o ≡ v = some-injective o v at in
      let room' : length o.put < length o.took + 16 = let mine = may.0 (ap (λ (y : PassView R). y.owner) (sym is) ∙ b.owner) in subst (λ (y : PassView R). length y.put < length y.took + 16) (sym is) mine in
      (with_put v (note_of g x), subst (λ (y : PassView R). IsLawful g (items ++ x ∷ []) (with_put y (note_of g x)) ws) is (owner_puts x items o ws b room' (subst (λ (y : PassView R). Fits g y.book x) (sym is) fit)), refl)
  puts n (suc j) v x live may fit items (o ∷ ws) space b at =
      let mine = may.1 (b.workers j v at).worker in
      (with_put v (note_of g x), worker_puts x items o ws j v b at live mine.0 mine.1 fit, refl)

  owner_takes : (x : JobView R) (items : List (JobView R)) (o : PassView R) (ws : List (PassView R)) → IsLawful g (x ∷ items) o ws → IsLawful g items (with_take o (note_of g x)) ws
  owner_takes x items o ws r = record {
    owner = r.owner;
    all_notes = λ f. let before = r.all_notes f in omega (arith, before, sum_by_push f o.took (note_of g x), sum_by-cons (λ j. f (note_of g j)) x items);
    workers = r.workers;
    count = r.count;
    few = omega (arith, r.few, length-append o.took (note_of g x ∷ []));
    differ = r.differ;
    fits = All-tail (Fits g o.book) x items r.fits;
  }

  worker_takes : (x : JobView R) (items : List (JobView R)) (o : PassView R) (ws : List (PassView R)) (j : ℕ) (v : PassView R) → IsLawful g (x ∷ items) o ws → get_elem? ws j ≡ some v → v.ended ≡ false
      → IsLawful g items o (set ws j (with_take v (note_of g x)))
  worker_takes x items o ws j v r at live =
      let n = note_of g x in
      let was = r.workers j v at in
      worker_moves (x ∷ items) items o ws j v v.put (v.took ++ n ∷ []) r at live (λ h. omega (arith, was.back h, times_grow h v.took n)) (omega (arith, was.fewer, length-append v.took (n ∷ [])))
      (λ f. omega (arith, sum_by_push f v.took n, sum_by-cons (λ j. f (note_of g j)) x items))
      (All-tail (Fits g o.book) x items r.fits)

  -- the owner's pass is the first
  first : (items : List (JobView R)) (o : PassView R) (ws : List (PassView R)) (port : ℕ) (v : PassView R) → IsLawful g items o ws → v.owner ≡ true → get_elem? (o ∷ ws) port ≡ some v → (port ≡ 0) × (o ≡ v)
  first items o ws zero v r owns at = (refl, some-injective o v at)
  first items o ws (suc j) v r owns at = absurd (true≢false (sym owns ∙ (r.workers j v at).worker))

  -- where all others ended, the owner's puts are its takes and what the ring holds
  pub settles : (port : ℕ) (v : PassView R) → Learns (RuleHolds g) port v (Settles g v)
  settles port v items [] b at = absurd b
  settles port v items (o ∷ ws) b at = λ owns none f.
      let mine = first items o ws port v b owns at in
      let is : o ≡ v = mine.1 in
      let zero' : live_count ws ≡ 0 = b.count ∙ (ap (λ (y : PassView R). y.out) is ∙ none) in
      let over : (j : ℕ) (u : PassView R) → get_elem? ws j ≡ some u → u.ended ≡ true = λ j u e. is_over u.ended (no_term (λ (y : PassView R). one_if (not y.ended)) ws j u zero' e) in
      let no_put = no_sum (λ (y : PassView R). sum_by f y.put) ws (λ j u e. ap (λ (l : List Note). sum_by f l) ((b.workers j u e).none (over j u e)).0) in
      let no_took = no_sum (λ (y : PassView R). sum_by f y.took) ws (λ j u e. ap (λ (l : List Note). sum_by f l) ((b.workers j u e).none (over j u e)).1) in
      let said : sum_by f o.put ≡ sum_by f o.took + sum_by (λ j. f (note_of g j)) items = omega (arith, b.all_notes f, no_put, no_took) in
      subst (λ (y : PassView R). sum_by f y.put ≡ sum_by f y.took + sum_by (λ j. f (note_of g j)) items) is said

  -- what a pass took, where no other is out, the owner put
  took_puts : (x : JobView R) (items : List (JobView R)) (passes : List (PassView R)) (port : ℕ) (v : PassView R) → RuleHolds g (x ∷ items) passes → get_elem? passes port ≡ some v → TookPuts (with_take v (note_of g x))
  took_puts x items passes port v b at owns none f =
      omega (arith, settles port v (x ∷ items) passes b at owns none f, sum_by_push f v.took (note_of g x), sum_by-cons (λ j. f (note_of g j)) x items)

  pub takes : (port : ℕ) (v : PassView R) → v.ended ≡ false → Pops (RuleHolds g) port v (Takes g v)
  takes port v live x items [] b at = absurd b
  takes zero v live x items (o ∷ ws) b at =
      let is : o ≡ v = some-injective o v at in
      let few : length v.put ≤ length v.took + 16 = subst (λ (y : PassView R). length y.put ≤ length y.took + 16) is b.few in
      let owns : v.owner ≡ true = ap (λ (y : PassView R). y.owner) (sym is) ∙ b.owner in (
        with_take v (note_of g x),
        subst (λ (y : PassView R). IsLawful g items (with_take y (note_of g x)) ws) is (owner_takes x items o ws b),
        (refl, subst (λ (y : PassView R). Fits g y.book x) is (b.fits 0 x (omega arith)), ((λ _. omega (arith, few, length-append v.took (note_of g x ∷ []))), λ e. absurd (true≢false (sym owns ∙ e))), subst (λ (y : PassView R). Differ key_at y.book) is b.differ, took_puts x items (o ∷ ws) 0 v b at),
      )
  takes (suc j) v live x items (o ∷ ws) b at =
      let was = b.workers j v at in (
        with_take v (note_of g x),
        worker_takes x items o ws j v b at live,
        (
          refl,
          subst (λ (k : List (BookEntry R)). Fits g k x) (sym (was.same live)) (b.fits 0 x (omega arith)),
          (
            (λ e. absurd (true≢false (sym e ∙ was.worker))),
            λ _. (omega (arith, was.back (g.key_of x.run), times_push (g.key_of x.run) v.took (note_of g x) refl), omega (arith, was.fewer, length-append v.took (note_of g x ∷ []))),
          ),
          subst (λ (k : List (BookEntry R)). Differ key_at k) (sym (was.same live)) b.differ,
          took_puts x items (o ∷ ws) (suc j) v b at,
        ),
      )

  pub forks : (port : ℕ) (v : PassView R) → v.owner ≡ true → Forks (RuleHolds g) port v (with_pass_out v) (worker_view v.book)
  forks port v owns items [] b at = absurd b
  forks zero v owns items (o ∷ ws) b at =
      let is : o ≡ v = some-injective o v at in
      let w = worker_view o.book in
      let now : IsWorkerView o.book w = record { worker = refl; same = λ _. refl; none = λ e. absurd (true≢false (sym e)); back = λ h. omega arith; fewer = omega arith } in
      let kept : IsLawful g items (with_pass_out o) (ws ++ w ∷ []) = record {
        owner = b.owner;
        all_notes = λ f. omega (arith, b.all_notes f, sum_by_push (λ (u : PassView R). sum_by f u.put) ws w, sum_by_push (λ (u : PassView R). sum_by f u.took) ws w);
        workers = λ k u e. ⊎_elim (λ (t : get_elem? ws k ≡ some u). b.workers k u t) (λ (t : w ≡ u). subst (λ (y : PassView R). IsWorkerView o.book y) t now) (at_snoc ws w u k e);
        count = omega (arith, b.count, sum_by_push (λ (u : PassView R). one_if (not u.ended)) ws w);
        few = b.few;
        differ = b.differ;
        fits = b.fits;
      } in
      subst (λ (y : PassView R). IsLawful g items (with_pass_out y) (ws ++ worker_view y.book ∷ [])) is kept
  forks (suc j) v owns items (o ∷ ws) b at = absurd (true≢false (sym owns ∙ (b.workers j v at).worker))

  pub merges : (port : ℕ) (v : PassView R) (other : ℕ) (u : PassView R) → v.owner ≡ true → u.ended ≡ false → Merges (RuleHolds g) port v other u (with_pass_in v u) ended_view
  merges port v other u owns live items [] b at two at' = absurd b
  merges zero v zero u owns live items (o ∷ ws) b at two at' = absurd (two refl)
  merges zero v (suc j) u owns live items (o ∷ ws) b at two at' =
      let is : o ≡ v = some-injective o v at in
      let was = b.workers j u at' in
      let gone : IsWorkerView o.book ended_view = record { worker = refl; same = λ e. absurd (true≢false e); none = λ _. (refl, refl); back = λ h. omega arith; fewer = omega arith } in
      let out : live_count (set ws j ended_view) + 1 ≡ live_count ws = let t = sum_there (λ (y : PassView R). one_if (not y.ended)) ws j u ended_view at' in
      let one : one_if (not u.ended) ≡ 1 = ap (λ b. one_if (not b)) live in omega (arith, t, one) in
      let kept : IsLawful g items (with_pass_in o u) (set ws j ended_view) = record {
        owner = b.owner;
        all_notes = λ f. omega (arith, b.all_notes f, sum_by-append f o.put u.put, sum_by-append f o.took u.took, sum_there (λ (y : PassView R). sum_by f y.put) ws j u ended_view at', sum_there (λ (y : PassView R). sum_by f y.took) ws j u ended_view at');
        workers = λ k y e. ⊎_elim (λ (t : (k ≡ j) × (ended_view ≡ y)). subst (λ (z : PassView R). IsWorkerView o.book z) t.1 gone) (λ (t : (k ≢ j) × (get_elem? ws k ≡ some y)). b.workers k y t.1) (at_set ws j k ended_view y e);
        count = omega (arith, out, b.count);
        few = omega (arith, b.few, was.fewer, length-append o.put u.put, length-append o.took u.took);
        differ = b.differ;
        fits = b.fits;
      } in
      subst (λ (y : PassView R). IsLawful g items (with_pass_in y u) (set ws j ended_view)) is kept
  merges (suc i) v other u owns live items (o ∷ ws) b at two at' = absurd (true≢false (sym owns ∙ (b.workers i v at).worker))

  -- the numbers of notes and of jobs
  lengths : (items : List (JobView R)) (o : PassView R) (ws : List (PassView R)) → IsLawful g items o ws
      → length o.put + sum_by (λ (v : PassView R). length v.put) ws ≡ length o.took + sum_by (λ (v : PassView R). length v.took) ws + length items
  lengths items o ws r =
      let said = r.all_notes (λ _. 1) in
      omega (arith, said, sum_ones o.put, sum_ones o.took, sum_ones items, sums_of (λ (v : PassView R). v.put) ws, sums_of (λ (v : PassView R). v.took) ws)

  pub room : (port : ℕ) (v : PassView R) (h : ℕ) → MayPut v h → Learns (RuleHolds g) port v (λ items. length items < 16)
  room port v h may items [] b at = absurd b
  room zero v h may items (o ∷ ws) b at =
      let is : o ≡ v = some-injective o v at in
      let mine : length o.put < length o.took + 16 = subst (λ (y : PassView R). length y.put < length y.took + 16) (sym is) (may.0 (ap (λ (y : PassView R). y.owner) (sym is) ∙ b.owner)) in
      omega (arith, mine, lengths items o ws b, sum_le (λ (v : PassView R). length v.put) (λ (v : PassView R). length v.took) ws (λ j u e. (b.workers j u e).fewer))
  room (suc j) v h may items (o ∷ ws) b at =
      let mine = (may.1 (b.workers j v at).worker).1 in
      omega (arith, b.few, lengths items o ws b, sum_lt (λ (v : PassView R). length v.put) (λ (v : PassView R). length v.took) ws j v at mine (λ j u e. (b.workers j u e).fewer))

  -- a put of the opening, while no pass is out
  pub opens : (n port : ℕ) (v : PassView R) (x : JobView R) → v.owner ≡ true → v.out ≡ 0 → length v.put < length v.took + 16
      → IsNew v.book (g.key_of x.run) → IsMoved g (g.origin_of x.run) (g.granted_of x.run) x.run → g.granted_of x.run ≤ x.target → g.spoilt_at x.run ≡ false → Pushes (RuleHolds g) n port v x (Opens g v x)
  opens n port v x owns alone few new moved within sound items [] space b at = absurd b
  opens n port v x owns alone few new moved within sound items (o ∷ ws) space b at =
      let mine = first items o ws port v b owns at in
      let is : o ≡ v = mine.1 in
      let book = o.book ++ entry_of g x ∷ [] in
      let o' = with_entry o (entry_of g x) in
      let none : live_count ws ≡ 0 = b.count ∙ (ap (λ (y : PassView R). y.out) is ∙ alone) in
      let over : (j : ℕ) (u : PassView R) → get_elem? ws j ≡ some u → u.ended ≡ true = λ j u e. is_over u.ended (no_term (λ (y : PassView R). one_if (not y.ended)) ws j u none e) in
      let longer : IsLawful g items o' ws = record {
        owner = b.owner;
        all_notes = b.all_notes;
        workers = λ j u e. let was = b.workers j u e in record { worker = was.worker; same = λ f. absurd (true≢false (sym (over j u e) ∙ f)); none = was.none; back = was.back; fewer = was.fewer };
        count = b.count;
        few = b.few;
        differ = differ_more o.book (entry_of g x) b.differ (subst (λ (y : PassView R). IsNew y.book (g.key_of x.run)) (sym is) new);
        fits = λ k d lt. let fit = b.fits k d lt in let l = fit.listed in record { listed = (l.0, l.1, at_longer o.book (entry_of g x ∷ []) l.0 l.1 l.2, l.3); moved = fit.moved; within = fit.within; sound = fit.sound };
      } in
      let fit : Fits g book x = record { listed = (length o.book, entry_of g x, at_last o.book (entry_of g x) (length o.book) refl, (refl, refl, refl)); moved = moved; within = within; sound = sound } in
      let few' : length o.put < length o.took + 16 = subst (λ (y : PassView R). length y.put < length y.took + 16) (sym is) few in
      let kept : IsLawful g (items ++ x ∷ []) (with_entry (with_put o (note_of g x)) (entry_of g x)) ws = owner_puts x items o' ws longer few' fit in
      let w = with_entry (with_put v (note_of g x)) (entry_of g x) in
      let there : RuleHolds g (items ++ x ∷ []) (set (o ∷ ws) port w) = subst (λ (i : ℕ). RuleHolds g (items ++ x ∷ []) (set (o ∷ ws) i w)) (sym mine.0) (subst (λ (y : PassView R). IsLawful g (items ++ x ∷ []) (with_entry (with_put y (note_of g x)) (entry_of g x)) ws) is kept) in
      (w, there, refl)

  pub room_first : (port : ℕ) (v : PassView R) (h : ℕ) → v.owner ≡ true → length v.put < length v.took + 16 → Learns (RuleHolds g) port v (λ items. length items < 16)
  room_first port v h owns few = room port v h ((λ _. few), λ e. absurd (true≢false (sym owns ∙ e)))

pub found : {T : Type 0} (o : Option T) (P : Type 0) (F : List T → Type 0) (G : Type 0) (Q : T → Type 0) → (F [] → G) → MatchOption o (P × Held 0 F) Q → MatchOption o (P × G) Q
found None P F G Q so h = let fact = h.1.2 in (h.0, so (subst F (nil_from_length h.1.0 h.1.1) fact))
found (Some x) P F G Q so h = h

-- with no job in the ring
pub took_all : {R : Type 0} (g : Ghosts R) (v : PassView R) → Settles g v [] → TookAll v
took_all g v h owns none f = let e = h owns none f in omega (arith, e)
