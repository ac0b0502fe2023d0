use Rattle.std.proofs.Common.{arith, ◌≡◌, ◌==◌, ℕ, ◌+◌, ◌*◌, ◌/◌, ◌%◌, ◌<◌, List, [], ◌∷◌, length, Bool, true, false, not, ◌||◌, ◌&&◌, refl, sym, ap, ◌∙◌, inl, inr}
use Rattle.std.specs.List.{list_any, filter}
use Rattle.gt_core.specs.Literal.{opposite, holds, all_hold, is_in}
use Rattle.gt_core.specs.Task.{Effect, Task, action, precondition, action_numbers}
use Rattle.gt_core.specs.Active.{is_active}
use Rattle.gt_core.specs.Execution.{makes, gains, loses, next_of_one, CanRun, run}
use Rattle.gt_core.specs.Interference.{asks, disables, takes, reads}
use Rattle.gt_core.specs.Published.{Pairwise, IsPublished, order_of}
use Rattle.gt_core.specs.Step.{gained, lost, IsStep}
use Rattle.gt_core.specs.Laws.{RunsInOrder}
use Rattle.gt_core.proofs.published.Basics.{Among, passing, any_at, all_at, all_from, each_at, any_same, all_same, same_if, or_split, or_left, or_right, and_split, and_both, not_split, not_false, not_true, apart, same_test, test_same}
use Rattle.gt_core.proofs.published.Literals.{opposite_twice, holds_add, holds_delete, holds_same, half_opposite, even_is_add, odd_is_delete, add_opposite, delete_opposite, among_in, among_range}
use Rattle.gt_core.proofs.published.Pairwise.{pairwise_both, pairwise_filter, filtered, into_filter}
use Rattle.gt_core.proofs.published.Makers.{gainer, gained_by, loser, lost_by}
use Rattle.gt_core.proofs.published.PublishedLaw.{published_apart, published_all}

-- A step's members, run in published order, lead to the state after the step: what runs before an action takes
-- nothing that the action reads.

pub disables_over : (task : Task) (m a b : ℕ) → (a == b) ≡ false → takes task m a ≡ true → reads task m b ≡ true → disables task a b ≡ true
disables_over task m a b ne t r =
    let p = passing _ (action task a).effects t in
    let l : p.one.literal ≡ opposite m = test_same _ _ p.passes in
    let back : opposite p.one.literal ≡ m = ap opposite l ∙ opposite_twice m in
    let half : p.one.literal / 2 ≡ m / 2 = ap (λ (n : ℕ). n / 2) l ∙ half_opposite m in
    and_both _ _ (not_false _ ne)
    (any_at (λ e. is_in (precondition task b) (opposite e.literal) || asks task b (e.literal / 2)) (action task a).effects p.one p.among
    (elim (or_split (is_in (precondition task b) m) _ r) [
      | inl i ↦ or_left _ _ (ap (is_in (precondition task b)) back ∙ i)
      | inr i ↦ or_right _ _ (ap (asks task b) half ∙ i)
    ]))

-- in the state u as in s: an action can run, and its effects' conditions are the same
pub record Undisturbed (task : Task) (s u : ℕ → Bool) (b : ℕ) : Type 0 where
  pub runs : all_hold u (precondition task b) ≡ true
  pub conditions : (e : Effect) → Among e (action task b).effects → (c : ℕ) → Among c e.condition → u (c / 2) ≡ s (c / 2)

makes_same : (task : Task) (s u : ℕ → Bool) (a l : ℕ) → Undisturbed task s u a → makes task u a l ≡ makes task s a l
makes_same task s u a l d =
    any_same (is_active u l) (is_active s l) (action task a).effects (λ e i.
    ap (λ (b : Bool). (e.literal == l) && b) (all_same (holds u) (holds s) e.condition (λ c j. holds_same u s c (d.conditions e i c j))))

-- an action that takes nothing of what another reads leaves it undisturbed
module _ (task : Task) (s u : ℕ → Bool) (a b : ℕ) (free : (m : ℕ) → takes task m a ≡ true → reads task m b ≡ true → ⊥) where
  takes_of : (v : ℕ → Bool) (l : ℕ) → makes task v a (opposite l) ≡ true → takes task l a ≡ true
  takes_of v l h =
      let p = passing (is_active v (opposite l)) (action task a).effects h in
      any_at (λ e. e.literal == opposite l) (action task a).effects p.one p.among (and_split (p.one.literal == opposite l) _ p.passes).0

  unmade : (p : ℕ) → Among p (precondition task b) → makes task u a (opposite p) ≡ false
  unmade p i = not_true _ (λ h. free p (takes_of u p h) (or_left _ _ (any_at _ (precondition task b) p i (same_test p p refl))))

  keeps_true : (g l now : Bool) → l ≡ false → now ≡ true → (g || (now && not l)) ≡ true
  keeps_true true l now e f = refl
  keeps_true false true now e f = cc
  keeps_true false false now e f = and_both now _ f refl

  keeps_false : (g l now : Bool) → g ≡ false → now ≡ false → (g || (now && not l)) ≡ false
  keeps_false true l now e f = cc
  keeps_false false l true e f = cc
  keeps_false false l false e f = refl

  keeps_same : (g d now : Bool) → g ≡ false → d ≡ false → (g || (now && not (d && not g))) ≡ now
  keeps_same true d now e f = cc
  keeps_same false true now e f = cc
  keeps_same false false true e f = refl
  keeps_same false false false e f = refl

  loses_false : (v : ℕ → Bool) (f : ℕ) → makes task v a (2 * f + 1) ≡ false → loses task v a f ≡ false
  loses_false v f e = not_true _ (λ h. apart _ (and_split _ _ h).0 e)

  still : (p : ℕ) (even : Bool) → (p % 2 == 0) ≡ even → Among p (precondition task b) → holds u p ≡ true → holds (next_of_one task u a) p ≡ true
  still p true e i h =
      let f = p / 2 in
      let is = even_is_add p e in
      let no : makes task u a (2 * f + 1) ≡ false = ap (makes task u a) (sym (add_opposite p f is)) ∙ unmade p i in
      let now : u f ≡ true = sym (holds_add u f) ∙ ap (holds u) (sym is) ∙ h in
      ap (holds (next_of_one task u a)) is ∙ holds_add (next_of_one task u a) f ∙ keeps_true (gains task u a f) (loses task u a f) (u f) (loses_false u f no) now
  still p false e i h =
      let f = p / 2 in
      let is = odd_is_delete p e in
      let no : gains task u a f ≡ false = ap (makes task u a) (sym (delete_opposite p f is)) ∙ unmade p i in
      let now : u f ≡ false = not_split (u f) (sym (holds_delete u f) ∙ ap (holds u) (sym is) ∙ h) in
      ap (holds (next_of_one task u a)) is ∙ holds_delete (next_of_one task u a) f ∙ not_false (next_of_one task u a f) (keeps_false (gains task u a f) (loses task u a f) (u f) no now)

  half_delete : (f : ℕ) → (2 * f + 1) / 2 ≡ f
  half_delete f = omega arith

  half_add : (f : ℕ) → (2 * f) / 2 ≡ f
  half_add f = omega arith

  -- no effect of a touches a fact of an effect condition of b
  untouched : (e : Effect) → Among e (action task b).effects → (c : ℕ) → Among c e.condition → (l : ℕ) → l / 2 ≡ c / 2 → makes task u a l ≡ false
  untouched e i c j l h = not_true _ (λ k.
      free (opposite l) (takes_of u (opposite l) (ap (makes task u a) (opposite_twice l) ∙ k))
      (or_right _ _ (any_at (λ d. list_any (λ n. n / 2 == opposite l / 2) d.condition) (action task b).effects e i (any_at (λ n. n / 2 == opposite l / 2) e.condition c j (same_test _ _ (sym h ∙ sym (half_opposite l)))))))

  pub undisturbed : Undisturbed task s u b → Undisturbed task s (next_of_one task u a) b
  undisturbed d = record {
    runs = all_from _ (precondition task b) (λ p i. still p (p % 2 == 0) refl i (all_at (holds u) (precondition task b) p d.runs i));
    conditions = λ e i c j.
        let f = c / 2 in
        keeps_same (gains task u a f) (makes task u a (2 * f + 1)) (u f)
        (untouched e i c j (2 * f) (half_add f)) (untouched e i c j (2 * f + 1) (half_delete f))
        ∙ d.conditions e i c j;
  }

-- the gains and losses of a list of actions, in one state
abbrev pub gained_in : Task → (ℕ → Bool) → List ℕ → ℕ → Bool
gained_in task s ks f = list_any (λ a. gains task s a f) ks

abbrev pub lost_in : Task → (ℕ → Bool) → List ℕ → ℕ → Bool
lost_in task s ks f = list_any (λ a. loses task s a f) ks

in_turn : (g l now gs ls : Bool) → (g ≡ true → ls ≡ false) → (gs || ((g || (now && not l)) && not ls)) ≡ ((g || gs) || (now && not (l || ls)))
in_turn true l now true ls h = refl
in_turn true l now false true h = sym (h refl)
in_turn true l now false false h = refl
in_turn false l now true ls h = refl
in_turn false true true false ls h = refl
in_turn false true false false ls h = refl
in_turn false false true false ls h = refl
in_turn false false false false ls h = refl

module _ (task : Task) (s : ℕ → Bool) where
  abbrev Apart : ℕ → ℕ → Type 0
  Apart a b = ((a == b) ≡ false) × disables task a b ≡ false

  pub run_in_turn : (ks : List ℕ) (u : ℕ → Bool) → ((k : ℕ) → Among k ks → k < length task.actions) → Pairwise Apart ks → ((a b f : ℕ) → Among a ks → Among b ks → gains task s a f ≡ true → loses task s b f ≡ true → ⊥) → ((k : ℕ) → Among k ks → Undisturbed task s u k) → CanRun task u ks × ((f : ℕ) → run task u ks f ≡ (gained_in task s ks f || (u f && not (lost_in task s ks f))))
  run_in_turn [] u w o clash d = (tt, λ f. none (u f))
    where
      none : (b : Bool) → b ≡ (b && true)
      none true = refl
      none false = refl
  run_in_turn (k ∷ ks) u below o clash d =
      let w = next_of_one task u k in
      let here = d k (inl refl) in
      let r = run_in_turn ks w (λ b i. below b (inr i)) o.1 (λ a b f i j. clash a b f (inr i) (inr j)) (λ b i.
      let h = each_at (Apart k) ks b o.0 i in
      undisturbed task s u k b (λ m t x. apart (disables task k b) (disables_over task m k b h.0 t x) h.1) (d b (inr i))) in (
        (record { action = below k (inl refl); able = here.runs }, r.0),
        λ f.
            let g = makes_same task s u k (2 * f) here in
            let l = makes_same task s u k (2 * f + 1) here in
            let is : w f ≡ (gains task s k f || (u f && not (loses task s k f))) = rw (g, l) in
            r.1 f ∙ rw is (in_turn (gains task s k f) (loses task s k f) (u f) (gained_in task s ks f) (lost_in task s ks f) (λ x.
            not_true _ (λ y. let p = passing (λ a. loses task s a f) ks y in clash k p.one f (inl refl) (inr p.among) x p.passes))),
      )

-- the members of a step in published order run one after the other, to the state after the step
pub runs_in_order : (task : Task) (clauses : List (ℕ × ℕ)) (components : List (List ℕ)) (s members t : ℕ → Bool) → IsPublished task clauses components → IsStep task (order_of components) s members t → RunsInOrder task (order_of components) s members t
runs_in_order task clauses components s members t published step =
    let order = order_of components in
    let ms = filter members order in
    let o = pairwise_filter members _ (λ a b. ((a == b) ≡ false) × disables task a b ≡ false) order (λ a b x y q. (q.0, q.1 x y)) (pairwise_both _ _ order (published_apart task clauses components published) step.ordered) in
    let r = run_in_turn task s ms s (λ k i. (step.runs k (filtered members order k i).1).action) o
    (λ a b f i j. step.no_clash a b f (filtered members order a i).1 (filtered members order b j).1)
    (λ k i. record { runs = (step.runs k (filtered members order k i).1).able; conditions = λ e a c j. refl }) in
    record {
      runs = r.0;
      leads = λ f lt.
          let g : gained_in task s ms f ≡ gained task s members f = same_if _ _
          (λ h. let p = passing (λ a. gains task s a f) ms h in gained_by task members s p.one f (filtered members order p.one p.among).1 p.passes)
          (λ h. let p = gainer task members s f h in any_at (λ a. gains task s a f) ms p.one (into_filter members order p.one (placed p.one p.member) p.member) p.done) in
          let l : lost_in task s ms f ≡ lost task s members f = same_if _ _
          (λ h. let p = passing (λ a. loses task s a f) ms h in lost_by task members s p.one f (filtered members order p.one p.among).1 p.passes)
          (λ h. let p = loser task members s f h in any_at (λ a. loses task s a f) ms p.one (into_filter members order p.one (placed p.one p.member) p.member) p.done) in
          r.1 f ∙ rw (g, l) (sym (step.after f lt));
    }
  where
    placed : (a : ℕ) → members a ≡ true → Among a (order_of components)
    placed a h =
        let lt = (step.runs a h).action in
        published_all task clauses components published a (among_in (action_numbers task) a (among_range (length task.actions) 0 a (omega arith) (omega arith)))
