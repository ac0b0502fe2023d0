use Rattle.std.proofs.Common.{arith, ◌≡◌, ℕ, zero, suc, ◌<◌, List, [], ◌∷◌, map, length, refl, sym, ap, ◌∙◌}
use Rattle.action_order.specs.own.Graph.{IsClassed, class_at, item}
use Rattle.action_order.specs.own.Walk.{mark_of, IsWalk, number_of}
use Rattle.action_order.specs.declared.walk.Mark.{Mark}
use Rattle.action_order.specs.declared.walk.Mark.TheVariants.{Unseen, At, Done}

-- The finished walk gives the components.

mark_done : (m : Mark) → (m ≡ Unseen → ⊥) → ((p : ℕ) → m ≡ At p → ⊥) → m ≡ Done (number_of m)
mark_done Unseen h g = absurd (h refl)
mark_done (At p) h g = absurd (g p refl)
mark_done (Done c) h g = refl

number_at : (marks : List Mark) (v : ℕ) → class_at (map number_of marks) v ≡ number_of (mark_of marks v)
number_at [] v = refl
number_at (m ∷ marks) zero = refl
number_at (m ∷ marks) (suc v) = number_at marks v

length-numbers : (marks : List Mark) → length (map number_of marks) ≡ length marks
length-numbers [] = refl
length-numbers (m ∷ marks) = let h = length-numbers marks in omega arith

module _ (targets : List (List ℕ)) (marks : List Mark) (stack starts work roots : List ℕ) (w : IsWalk targets marks stack starts work roots) (empty : length stack ≡ 0) (seen : (v : ℕ) → v < length targets → mark_of marks v ≡ Unseen → ⊥) where
  all_done : (v : ℕ) → v < length targets → mark_of marks v ≡ Done (class_at (map number_of marks) v)
  all_done v lt =
      mark_done (mark_of marks v) (seen v lt) (λ p e. let o = (w.on_stack v p lt e).0 in omega arith) ∙ ap Done (sym (number_at marks v))

  pub classed : IsClassed targets (map number_of marks) roots
  classed = record {
    long = length-numbers marks ∙ w.marks_long;
    below = λ a lt. w.finished.known a (class_at (map number_of marks) a) lt (all_done a lt);
    connected = λ a b la lb e. w.finished.connected a b (class_at (map number_of marks) a) la lb (all_done a la) (all_done b lb ∙ ap Done (sym e));
    falls = λ a b la lb e.
        let r = w.finished.falls a b (class_at (map number_of marks) a) la (all_done a la) e in
        let same : Done r.0 ≡ Done (class_at (map number_of marks) b) = sym r.1 ∙ all_done b lb in
        let is : r.0 ≡ class_at (map number_of marks) b = cc in
        let le = r.2 in omega arith;
    used = λ c lt.
        let r = w.finished.used c lt in
        let same : Done (class_at (map number_of marks) (item roots c)) ≡ Done c = sym (all_done (item roots c) r.0) ∙ r.1 in
        (r.0, let is : class_at (map number_of marks) (item roots c) ≡ c = cc in is);
  }
