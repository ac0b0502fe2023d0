-- What the walk through the tree of types keeps: an open type is one that the place of the walk lies under.
use Rattle.std.proofs.Common.{◌≡◌, ℕ, zero, suc, ◌+◌, ◌<◌, ◌≤◌, Bool, true, false, cond, ◌==◌, List, length, refl, ap, ◌∙◌, sym, subst, arith, inl, inr, replicate}
use Rattle.std.specs.Prelude.{◌||◌, nat_le, nat_lt, slice_index}
use Rattle.std.proofs.Math.ListN.{set}
use Rattle.std.proofs.lemmas.List.{get_or-set_same, get_or-set_other, length-set, length-replicate}
use Rattle.std.proofs.lemmas.List.Sums.{sum_by-set, sum_by-cons}
use Rattle.std.proofs.lemmas.Bool.{cases_eq, eqb-true, eq-eqb, leb-true, le-leb, lt-ltb, and_parts}
use borrow.Author.Tests.{ltb-true}
use Rattle.pd_model.specs.Types.{leads_to, is_under}
use Rattle.pd_model.specs.own.TypeTree.{is_between, IsTypeTree}
use Rattle.pd_model.specs.own.Walk.{Above, AreRooted, AreChains, IsWalk, to_do}
use Rattle.pd_model.specs.own.Walk.Above.{here, up}

-- ---- one number is written

data Written (xs : List ℕ) (i x k : ℕ) : Type 0 where
  same : k ≡ i → slice_index (set xs i x) k ≡ x → Written xs i x k
  other : (k ≡ i → ⊥) → slice_index (set xs i x) k ≡ slice_index xs k → Written xs i x k

written : (xs : List ℕ) (i x k : ℕ) → i < length xs → Written xs i x k
written xs i x k lt = elim (cases_eq k i) [
  | inl is ↦ same is (ap (slice_index (set xs i x)) is ∙ get_or-set_same xs i x 0 lt)
  | inr differ ↦ other differ (get_or-set_other xs i k x 0 differ)
]

fewer : (xs : List ℕ) (i x : ℕ) → i < length xs → slice_index xs i ≡ 0 → 0 < x → to_do (set xs i x) + 1 ≡ to_do xs
fewer xs i x lt none some =
    let differ : (x == 0) ≡ false = grind arith in
    let weight : ℕ → ℕ = λ n. cond (n == 0) 1 0 in
    let old : weight (slice_index xs i) ≡ weight 0 = ap weight none in
    let new : weight x ≡ 0 = rw differ refl in
    omega (arith, sum_by-set weight xs i x 0 lt, old, new)

-- a type that is left does not wait any more
pub left_fewer : (parents entries exits last before : List ℕ) (next at : ℕ) → IsWalk parents entries exits last before next at → to_do (set exits at next) + 1 ≡ to_do exits
left_fewer parents entries exits last before next at w = fewer exits at next (omega (arith, w.at_type, w.exits_long)) (w.at_open) (omega (arith, w.entered at))

-- ---- parents lead from one type to another

above_zero : (parents : List ℕ) → slice_index parents 0 ≡ 0 → (kind above : ℕ) → Above parents kind above → kind ≡ 0 → above ≡ 0
above_zero parents first _ _ (here kind) is = is
above_zero parents first _ _ (up kind above h) is = above_zero parents first (slice_index parents kind) above h (ap (slice_index parents) is ∙ first)

leads_above : (parents : List ℕ) (n kind above : ℕ) → leads_to parents n kind above ≡ true → Above parents kind above
leads_above parents zero kind above is = subst (λ a. Above parents kind a) (eqb-true kind above is) (here kind)
leads_above parents (suc n) kind above is = by_test (kind == above) refl is (leads_above parents n (slice_index parents kind) above)
  where
    by_test : (b : Bool) → (kind == above) ≡ b → b || leads_to parents n (slice_index parents kind) above ≡ true
        → (leads_to parents n (slice_index parents kind) above ≡ true → Above parents (slice_index parents kind) above) → Above parents kind above
    by_test true e is later = subst (λ a. Above parents kind a) (eqb-true kind above e) (here kind)
    by_test false e is later = up kind above (later is)

or_true : (b : Bool) → b || true ≡ true
or_true true = refl
or_true false = refl

pub at_once : (parents : List ℕ) (n a b : ℕ) → a ≡ b → leads_to parents n a b ≡ true
at_once parents zero a b e = eq-eqb a b e
at_once parents (suc n) a b e = rw (eq-eqb a b e) refl

above_leads : (parents : List ℕ) → slice_index parents 0 ≡ 0 → (n kind above : ℕ) → leads_to parents n kind 0 ≡ true → Above parents kind above → leads_to parents n kind above ≡ true
above_leads parents first n _ _ rooted (here kind) = at_once parents n kind kind refl
above_leads parents first zero _ _ rooted (up kind above h) =
    let is : kind ≡ 0 = eqb-true kind 0 rooted in
    eq-eqb kind above (is ∙ sym (above_zero parents first (slice_index parents kind) above h (ap (slice_index parents) is ∙ first)))
above_leads parents first (suc n) _ _ rooted (up kind above h) = by_test (kind == 0) refl rooted (λ more. above_leads parents first n (slice_index parents kind) above more h)
  where
    by_test : (b : Bool) → (kind == 0) ≡ b → b || leads_to parents n (slice_index parents kind) 0 ≡ true
        → (leads_to parents n (slice_index parents kind) 0 ≡ true → leads_to parents n (slice_index parents kind) above ≡ true)
        → (kind == above) || leads_to parents n (slice_index parents kind) above ≡ true
    by_test true e rooted later =
        let is : kind ≡ 0 = eqb-true kind 0 e in
        rw (eq-eqb kind above (is ∙ sym (above_zero parents first (slice_index parents kind) above h (ap (slice_index parents) is ∙ first)))) refl
    by_test false e rooted later = rw (later rooted) (or_true (kind == above))

-- ---- the last child is entered

module _ (parents entries exits last before : List ℕ) (next at child : ℕ) (w : IsWalk parents entries exits last before next at)
    (is : slice_index last at ≡ child) (some : 0 < child) where
  pub child_in : child < length parents
  child_in = let h = (w.last_child at (omega arith)).1 in omega (arith, h)

  parent_is : slice_index parents child ≡ at
  parent_is = ap (slice_index parents) (sym is) ∙ (w.last_child at (omega arith)).0

  new : slice_index entries child ≡ 0
  new = let e : slice_index last (slice_index parents child) ≡ child = ap (slice_index last) parent_is ∙ is in w.not_yet child some (omega (arith, e))

  apart : at ≡ child → ⊥
  apart e = let h = ap (slice_index entries) e in omega (arith, h, new, w.at_entered)

  unleft_child : slice_index exits child ≡ 0
  unleft_child = elim (cases_eq (slice_index exits child) 0) [
    | inl e ↦ e
    | inr differ ↦ let h = (w.left child (omega arith)).2 in absurd (omega (arith, h, new))
  ]

  written_entry : (k : ℕ) → Written entries child next k
  written_entry k = written entries child next k (omega (arith, child_in, w.entries_long))

  written_last : (k : ℕ) → Written last at (slice_index before child) k
  written_last k = written last at (slice_index before child) k (omega (arith, w.at_type, w.last_long))

  -- the parent of a type that was entered is as it was
  parent_kept : (k : ℕ) → 0 < slice_index entries (slice_index parents k) → slice_index (set entries child next) (slice_index parents k) ≡ slice_index entries (slice_index parents k)
  parent_kept k h = elim (written_entry (slice_index parents k)) [
    | same e v ↦ let z = ap (slice_index entries) e in absurd (omega (arith, z, new, h))
    | other differ v ↦ v
  ]

  enter_parent : (k : ℕ) → 0 < k → 0 < slice_index (set entries child next) k
      → (0 < slice_index (set entries child next) (slice_index parents k)) × (slice_index (set entries child next) (slice_index parents k) < slice_index (set entries child next) k)
  enter_parent k pos h = elim (written_entry k) [
    | same e v ↦
        let p : slice_index entries (slice_index parents k) ≡ slice_index entries at = ap (slice_index entries) (ap (slice_index parents) e ∙ parent_is) in
        let kept = parent_kept k (omega (arith, p, w.at_entered)) in
        let low = w.entered at in
        (omega (arith, kept, p, w.at_entered), omega (arith, kept, p, v, low))
    | other differ v ↦
        let old = w.parent_first k pos (omega (arith, v, h)) in
        let kept = parent_kept k (old.0) in
        (omega (arith, kept, old.0), omega (arith, kept, v, old.1))
  ]

  enter_left : (k : ℕ) → 0 < slice_index exits k → (slice_index (set entries child next) k < slice_index exits k) × (slice_index exits k ≤ next + 1) × (0 < slice_index (set entries child next) k)
  enter_left k h = elim (written_entry k) [
    | same e v ↦ let z = ap (slice_index exits) e in absurd (omega (arith, z, unleft_child, h))
    | other differ v ↦ let old = w.left k h in (omega (arith, v, old.0), omega (arith, old.1), omega (arith, v, old.2))
  ]

  enter_inside : (k above : ℕ) → slice_index (set entries child next) above ≤ slice_index (set entries child next) k → slice_index (set entries child next) k < slice_index exits above → Above parents k above
  enter_inside k above low high = elim (written_entry above) [
    | same e v ↦ let z = ap (slice_index exits) e in absurd (omega (arith, z, unleft_child, high))
    | other differ v ↦ elim (written_entry k) [
      | same e u ↦ let old = w.left above (omega (arith, high)) in absurd (omega (arith, u, high, old.1))
      | other unlike u ↦ w.inside k above (omega (arith, u, v, low)) (omega (arith, u, high))
    ]
  ]

  through_child : (k above : ℕ) → k ≡ child → Above parents at above → Above parents k above
  through_child k above e h = up k above (subst (λ a. Above parents a above) (sym (ap (slice_index parents) e ∙ parent_is)) h)

  enter_after : (k above : ℕ) → 0 < slice_index (set entries child next) above → slice_index exits above ≡ 0 → slice_index (set entries child next) above ≤ slice_index (set entries child next) k → Above parents k above
  enter_after k above pos unleft low = elim (written_entry above) [
    | same e v ↦ elim (written_entry k) [
      | same f u ↦ subst (λ a. Above parents k a) (f ∙ sym e) (here k)
      | other differ u ↦ let old = w.entered k in absurd (omega (arith, u, v, low, old))
    ]
    | other differ v ↦ elim (written_entry k) [
      | same f u ↦ through_child k above f (w.path above (omega (arith, v, pos)) unleft)
      | other unlike u ↦ w.after k above (omega (arith, v, pos)) unleft (omega (arith, u, v, low))
    ]
  ]

  enter_path : (above : ℕ) → 0 < slice_index (set entries child next) above → slice_index exits above ≡ 0 → Above parents child above
  enter_path above pos unleft = elim (written_entry above) [
    | same e v ↦ subst (λ a. Above parents child a) (sym e) (here child)
    | other differ v ↦ through_child child above refl (w.path above (omega (arith, v, pos)) unleft)
  ]

  enter_last : (k : ℕ) → 0 < slice_index (set last at (slice_index before child)) k
      → (slice_index parents (slice_index (set last at (slice_index before child)) k) ≡ k) × (slice_index (set last at (slice_index before child)) k < length parents)
  enter_last k pos = elim (written_last k) [
    | same e v ↦
        let brother = w.before_child child (omega (arith, v, pos)) in
        let low = w.before_below child some in
        (ap (slice_index parents) v ∙ brother ∙ parent_is ∙ sym e, omega (arith, v, low, child_in))
    | other differ v ↦ let old = w.last_child k (omega (arith, v, pos)) in (ap (slice_index parents) v ∙ old.0, omega (arith, v, old.1))
  ]

  enter_waiting : (k : ℕ) → 0 < k → k < length parents → slice_index (set entries child next) k ≡ 0 → k ≤ slice_index (set last at (slice_index before child)) (slice_index parents k)
  enter_waiting k pos lt none = elim (written_entry k) [
    | same e v ↦ let low = w.entered at in absurd (omega (arith, v, none, low))
    | other differ v ↦
        let old = w.waiting k pos lt (sym v ∙ none) in
        elim (written_last (slice_index parents k)) [
          | same e u ↦
              let z = ap (slice_index last) e ∙ is in
              let less : k < child = omega (arith, old, z, differ) in
              let brother = w.is_before k child pos less child_in (e ∙ sym parent_is) in
              omega (arith, u, brother)
          | other unlike u ↦ omega (arith, u, old)
        ]
  ]

  enter_not_yet : (k : ℕ) → 0 < k → k ≤ slice_index (set last at (slice_index before child)) (slice_index parents k) → slice_index (set entries child next) k ≡ 0
  enter_not_yet k pos low = elim (written_last (slice_index parents k)) [
    | same e u ↦
        let less = w.before_below child some in
        let z = ap (slice_index last) e ∙ is in
        let old = w.not_yet k pos (omega (arith, z, u, low, less)) in
        elim (written_entry k) [
          | same f v ↦ absurd (omega (arith, f, u, low, less))
          | other differ v ↦ v ∙ old
        ]
    | other unlike u ↦
        let old = w.not_yet k pos (omega (arith, u, low)) in
        elim (written_entry k) [
          | same f v ↦ absurd (unlike (ap (slice_index parents) f ∙ parent_is))
          | other differ v ↦ v ∙ old
        ]
  ]

  pub entered_child : IsWalk parents (set entries child next) exits (set last at (slice_index before child)) before (next + 1) child
  entered_child = record {
    rooted = w.rooted;
    entries_long = length-set entries child next ∙ w.entries_long;
    exits_long = w.exits_long;
    last_long = length-set last at (slice_index before child) ∙ w.last_long;
    before_long = w.before_long;
    counted = let e = fewer entries child next (omega (arith, child_in, w.entries_long)) new (omega (arith, w.entered at)) in omega (arith, e, w.counted);
    at_type = child_in;
    at_entered = elim (written_entry child) [ same e v ↦ omega (arith, v, w.entered at) | other differ v ↦ absurd (differ refl) ];
    at_open = unleft_child;
    started = elim (written_entry 0) [ same e v ↦ absurd (omega (arith, e, some)) | other differ v ↦ omega (arith, v, w.started) ];
    entered = λ k. elim (written_entry k) [ same e v ↦ omega (arith, v) | other differ v ↦ omega (arith, v, w.entered k) ];
    parent_first = enter_parent;
    left = enter_left;
    nested = w.nested;
    inside = enter_inside;
    after = enter_after;
    path = enter_path;
    last_child = enter_last;
    waiting = enter_waiting;
    not_yet = enter_not_yet;
    before_below = w.before_below;
    before_child = w.before_child;
    is_before = w.is_before;
  }

  pub entered_fewer : to_do (set entries child next) + 1 ≡ to_do entries
  entered_fewer = fewer entries child next (omega (arith, child_in, w.entries_long)) new (omega (arith, w.entered at))

-- ---- a type with differ child left is left

module _ (parents entries exits last before : List ℕ) (next at : ℕ) (w : IsWalk parents entries exits last before next at) (none : slice_index last at ≡ 0) where
  written_exit : (k : ℕ) → Written exits at next k
  written_exit k = written exits at next k (omega (arith, w.at_type, w.exits_long))

  -- what parents lead to was entered before
  entered_before : (k above : ℕ) → Above parents k above → 0 < slice_index entries k → slice_index entries above ≤ slice_index entries k
  entered_before _ _ (here k) pos = omega arith
  entered_before _ _ (up zero above h) pos =
      let e : slice_index entries (slice_index parents 0) ≡ slice_index entries 0 = ap (slice_index entries) (w.rooted.first) in
      let old = entered_before (slice_index parents 0) above h (omega (arith, e, pos)) in
      omega (arith, old, e)
  entered_before _ _ (up (suc k) above h) pos =
      let step = w.parent_first (suc k) (omega arith) pos in
      let old = entered_before (slice_index parents (suc k)) above h (step.0) in
      omega (arith, old, step.1)

  children_left : (k : ℕ) → 0 < k → k < length parents → slice_index parents k ≡ at → 0 < slice_index exits k
  children_left k pos lt is = elim (cases_eq (slice_index exits k) 0) [
    | inr differ ↦ omega (arith, differ)
    | inl unleft ↦ elim (cases_eq (slice_index entries k) 0) [
      | inl new ↦
          let h = w.waiting k pos lt new in
          let z = ap (slice_index last) is ∙ none in
          absurd (omega (arith, h, z, pos))
      | inr old ↦
          let here_before = entered_before at k (w.path k (omega (arith, old)) unleft) (w.at_entered) in
          let step = (w.parent_first k pos (omega (arith, old))).1 in
          let z = ap (slice_index entries) is in
          absurd (omega (arith, here_before, step, z))
    ]
  ]

  leave_nested : (k : ℕ) → 0 < k → k < length parents → 0 < slice_index (set exits at next) (slice_index parents k)
      → (0 < slice_index (set exits at next) k) × (slice_index (set exits at next) k ≤ slice_index (set exits at next) (slice_index parents k))
  leave_nested k pos lt h = elim (written_exit (slice_index parents k)) [
    | same e v ↦
        let closed = children_left k pos lt e in
        let old = (w.left k closed).1 in
        elim (written_exit k) [
          | same f u ↦ let z = ap (slice_index exits) f in absurd (omega (arith, z, closed, w.at_open))
          | other differ u ↦ (omega (arith, u, closed), omega (arith, u, v, old))
        ]
    | other unlike v ↦
        let old = w.nested k pos lt (omega (arith, v, h)) in
        elim (written_exit k) [
          | same f u ↦ let z = ap (slice_index exits) f in absurd (omega (arith, z, old.0, w.at_open))
          | other differ u ↦ (omega (arith, u, old.0), omega (arith, u, v, old.1))
        ]
  ]

  leave_left : (k : ℕ) → 0 < slice_index (set exits at next) k → (slice_index entries k < slice_index (set exits at next) k) × (slice_index (set exits at next) k ≤ next) × (0 < slice_index entries k)
  leave_left k h = elim (written_exit k) [
    | same e v ↦
        let z = ap (slice_index entries) e in
        (omega (arith, v, z, w.entered at), omega (arith, v), omega (arith, z, w.at_entered))
    | other differ v ↦ let old = w.left k (omega (arith, v, h)) in (omega (arith, v, old.0), omega (arith, v, old.1), old.2)
  ]

  leave_inside : (k above : ℕ) → slice_index entries above ≤ slice_index entries k → slice_index entries k < slice_index (set exits at next) above → Above parents k above
  leave_inside k above low high = elim (written_exit above) [
    | same e v ↦ w.after k above (let z = ap (slice_index entries) e in omega (arith, z, w.at_entered)) (ap (slice_index exits) e ∙ w.at_open) low
    | other differ v ↦ w.inside k above low (omega (arith, v, high))
  ]

  no_longer : (above : ℕ) → slice_index (set exits at next) above ≡ 0 → (above ≡ at → ⊥) × (slice_index exits above ≡ 0)
  no_longer above unleft = elim (written_exit above) [
    | same e v ↦ absurd (omega (arith, v, unleft, w.entered at))
    | other differ v ↦ (differ, sym v ∙ unleft)
  ]

  outwards : (kind above : ℕ) → Above parents kind above → (above ≡ kind → ⊥) → Above parents (slice_index parents kind) above
  outwards _ _ (here kind) differ = absurd (differ refl)
  outwards _ _ (up kind above h) differ = h

  pub left_for_parent : 0 < at → IsWalk parents entries (set exits at next) last before next (slice_index parents at)
  left_for_parent pos =
      let step = w.parent_first at pos (w.at_entered) in
      record {
        rooted = w.rooted;
        entries_long = w.entries_long;
        exits_long = length-set exits at next ∙ w.exits_long;
        last_long = w.last_long;
        before_long = w.before_long;
        counted = w.counted;
        at_type = w.rooted.below at;
        at_entered = step.0;
        at_open = elim (written_exit (slice_index parents at)) [
          | same e v ↦ let z = ap (slice_index entries) e in absurd (omega (arith, z, step.1))
          | other differ v ↦ elim (cases_eq (slice_index exits (slice_index parents at)) 0) [
            | inl e ↦ v ∙ e
            | inr unlike ↦ let h = (w.nested at pos (w.at_type) (omega (arith, unlike))).0 in absurd (omega (arith, h, w.at_open))
          ]
        ];
        started = w.started;
        entered = w.entered;
        parent_first = w.parent_first;
        last_child = w.last_child;
        left = leave_left;
        nested = leave_nested;
        inside = leave_inside;
        after = λ k above seen unleft low. w.after k above seen ((no_longer above unleft).1) low;
        path = λ above seen unleft. outwards at above (w.path above seen ((no_longer above unleft).1)) ((no_longer above unleft).0);
        waiting = w.waiting;
        not_yet = w.not_yet;
        before_below = w.before_below;
        before_child = w.before_child;
        is_before = w.is_before;
      }

  -- ---- when type 0 is left, each type was left

  module _ (at_first : at ≡ 0) where
    first_left : 0 < slice_index (set exits at next) 0
    first_left = elim (written_exit 0) [
      | same e v ↦ omega (arith, v, w.entered at)
      | other differ v ↦ absurd (differ (sym at_first))
    ]

    each_left : (k above : ℕ) → Above parents k above → above ≡ 0 → k < length parents → 0 < slice_index (set exits at next) k
    each_left _ _ (here k) e lt = subst (λ a. 0 < slice_index (set exits at next) a) (sym e) first_left
    each_left _ _ (up zero above h) e lt = first_left
    each_left _ _ (up (suc k) above h) e lt =
        (leave_nested (suc k) (omega arith) lt (each_left (slice_index parents (suc k)) above h e (w.rooted.below (suc k)))).0

    all_left : (k : ℕ) → k < length parents → 0 < slice_index (set exits at next) k
    all_left k lt = each_left k 0 (w.rooted.rooted k lt) refl lt

    around : (k above : ℕ) → Above parents k above → k < length parents → (slice_index entries above ≤ slice_index entries k) × (slice_index (set exits at next) k ≤ slice_index (set exits at next) above)
    around _ _ (here k) lt = (omega arith, omega arith)
    around _ _ (up zero above h) lt =
        let old = around (slice_index parents 0) above h (w.rooted.below 0) in
        let x = ap (slice_index entries) (w.rooted.first) in
        let y = ap (slice_index (set exits at next)) (w.rooted.first) in
        (omega (arith, x, old.0), omega (arith, y, old.1))
    around _ _ (up (suc k) above h) lt =
        let old = around (slice_index parents (suc k)) above h (w.rooted.below (suc k)) in
        let closed = all_left (suc k) lt in
        let seen = (leave_left (suc k) closed).2 in
        let step = (w.parent_first (suc k) (omega arith) seen).1 in
        let nest = (leave_nested (suc k) (omega arith) lt (all_left (slice_index parents (suc k)) (w.rooted.below (suc k)))).1 in
        (omega (arith, old.0, step), omega (arith, old.1, nest))

    within_is : (kind above : ℕ) → kind < length parents → is_under parents kind above ≡ true → is_between entries (set exits at next) kind above ≡ true
    within_is kind above lt is =
        let h = around kind above (leads_above parents (length parents) kind above is) lt in
        let mine = (leave_left kind (all_left kind lt)).0 in
        rw (le-leb (slice_index entries above) (slice_index entries kind) (h.0), lt-ltb (slice_index entries kind) (slice_index (set exits at next) above) (omega (arith, h.1, mine))) refl

    between_is : (kind above : ℕ) → kind < length parents → is_between entries (set exits at next) kind above ≡ true → is_under parents kind above ≡ true
    between_is kind above lt is =
        let parts = and_parts (nat_le (slice_index entries above) (slice_index entries kind)) (nat_lt (slice_index entries kind) (slice_index (set exits at next) above)) is in
        let h = leave_inside kind above (leb-true (slice_index entries above) (slice_index entries kind) (parts.0)) (ltb-true (slice_index entries kind) (slice_index (set exits at next) above) (parts.1)) in
        above_leads parents (w.rooted.first) (length parents) kind above (w.rooted.leads kind lt) h

    alike : (b c : Bool) → (b ≡ true → c ≡ true) → (c ≡ true → b ≡ true) → b ≡ c
    alike true c there back = sym (there refl)
    alike false true there back = back refl
    alike false false there back = refl

    pub tree_is : IsTypeTree parents entries (set exits at next)
    tree_is = record {
      entries_long = w.entries_long;
      exits_long = length-set exits at next ∙ w.exits_long;
      between = λ kind above lt. alike (is_between entries (set exits at next) kind above) (is_under parents kind above) (between_is kind above lt) (within_is kind above lt);
    }

-- ---- before the first step

pub rooted_is : (parents : List ℕ) → 0 < length parents → slice_index parents 0 ≡ 0 → ((kind : ℕ) → slice_index parents kind < length parents)
    → ((kind : ℕ) → kind < length parents → is_under parents kind 0 ≡ true) → AreRooted parents
rooted_is parents some first below leads = record {
  some = some;
  first = first;
  below = below;
  leads = leads;
  rooted = λ kind lt. leads_above parents (length parents) kind 0 (leads kind lt);
}

zeros : (n k : ℕ) → slice_index (replicate n 0) k ≡ 0
zeros zero k = refl
zeros (suc n) zero = refl
zeros (suc n) (suc k) = zeros n k

all_to_do : (n : ℕ) → to_do (replicate n 0) ≡ n
all_to_do zero = refl
all_to_do (suc n) = let weight : ℕ → ℕ = λ k. cond (k == 0) 1 0 in omega (arith, sum_by-cons weight 0 (replicate n 0), all_to_do n)

pub no_chains : (parents : List ℕ) (n : ℕ) → length parents ≡ n → AreChains parents (replicate n 0) (replicate n 0) 1
no_chains parents n long =
    let none : (k : ℕ) → 0 < slice_index (replicate n 0) k → ⊥ = λ k pos. omega (arith, zeros n k, pos) in
    record {
      last_long = length-replicate n 0 ∙ sym long;
      before_long = length-replicate n 0 ∙ sym long;
      last_below = λ k. omega (arith, zeros n k);
      last_child = λ k pos. absurd (none k pos);
      is_last = λ k pos lt. absurd (omega arith);
      before_below = λ k pos. omega (arith, zeros n k, pos);
      before_child = λ k pos. absurd (none k pos);
      is_before = λ k later pos less lt e. absurd (omega arith);
    }

-- one type more joins the chain of its parent
module _ (parents last before : List ℕ) (count : ℕ) (c : AreChains parents last before count) (pos : 0 < count) (lt : count < length parents)
    (below : slice_index parents count < length parents) where
  written_after : (k : ℕ) → Written last (slice_index parents count) count k
  written_after k = written last (slice_index parents count) count k (omega (arith, below, c.last_long))

  written_before : (k : ℕ) → Written before count (slice_index last (slice_index parents count)) k
  written_before k = written before count (slice_index last (slice_index parents count)) k (omega (arith, lt, c.before_long))

  pub chains_more : AreChains parents (set last (slice_index parents count) count) (set before count (slice_index last (slice_index parents count))) (count + 1)
  chains_more = record {
    last_long = length-set last (slice_index parents count) count ∙ c.last_long;
    before_long = length-set before count (slice_index last (slice_index parents count)) ∙ c.before_long;
    last_below = λ k. elim (written_after k) [ same e v ↦ omega (arith, v) | other differ v ↦ omega (arith, v, c.last_below k) ];
    last_child = λ k some. elim (written_after k) [
      | same e v ↦ ap (slice_index parents) v ∙ sym e
      | other differ v ↦ ap (slice_index parents) v ∙ c.last_child k (omega (arith, v, some))
    ];
    is_last = λ k some less. elim (written_after (slice_index parents k)) [
      | same e v ↦ omega (arith, v, less)
      | other differ v ↦ elim (cases_eq k count) [
        | inl is ↦ absurd (differ (ap (slice_index parents) is))
        | inr unlike ↦ omega (arith, v, c.is_last k some (omega (arith, less, unlike)))
      ]
    ];
    before_below = λ k some. elim (written_before k) [
      | same e v ↦ omega (arith, v, e, c.last_below (slice_index parents count))
      | other differ v ↦ omega (arith, v, c.before_below k some)
    ];
    before_child = λ k some. elim (written_before k) [
      | same e v ↦ ap (slice_index parents) v ∙ c.last_child (slice_index parents count) (omega (arith, v, some)) ∙ sym (ap (slice_index parents) e)
      | other differ v ↦ ap (slice_index parents) v ∙ c.before_child k (omega (arith, v, some))
    ];
    is_before = λ k later some less within e. elim (written_before later) [
      | same is v ↦
          let z = ap (slice_index last) (e ∙ ap (slice_index parents) is) in
          omega (arith, v, z, c.is_last k some (omega (arith, less, is)))
      | other differ v ↦ omega (arith, v, c.is_before k later some less (omega (arith, within, differ)) e)
    ];
  }

pub walk_starts : (parents last before : List ℕ) (n : ℕ) → length parents ≡ n → AreRooted parents → AreChains parents last before n
    → IsWalk parents (set (replicate n 0) 0 1) (replicate n 0) last before 2 0
walk_starts parents last before n long rooted c = record {
  rooted = rooted;
  entries_long = length-set (replicate n 0) 0 1 ∙ length-replicate n 0 ∙ sym long;
  exits_long = length-replicate n 0 ∙ sym long;
  last_long = c.last_long;
  before_long = c.before_long;
  counted = omega (arith, fewer (replicate n 0) 0 1 first_in (zeros n 0) (omega arith), all_to_do n, long);
  at_type = rooted.some;
  at_entered = omega (arith, one);
  at_open = zeros n 0;
  started = omega (arith, one);
  entered = λ k. elim (first_written k) [ same e v ↦ omega (arith, v) | other differ v ↦ omega (arith, v, zeros n k) ];
  parent_first = λ k pos seen. elim (first_written k) [ same e v ↦ absurd (omega (arith, e, pos)) | other differ v ↦ absurd (omega (arith, v, seen, zeros n k)) ];
  left = λ k seen. absurd (omega (arith, seen, zeros n k));
  nested = λ k pos lt seen. absurd (omega (arith, seen, zeros n (slice_index parents k)));
  inside = λ k above low high. absurd (omega (arith, high, zeros n above));
  after = λ k above seen unleft low. elim (first_written above) [
    | same e v ↦ elim (first_written k) [
      | same f u ↦ subst (λ a. Above parents k a) (f ∙ sym e) (here k)
      | other differ u ↦ absurd (omega (arith, u, v, low, zeros n k))
    ]
    | other differ v ↦ absurd (omega (arith, v, seen, zeros n above))
  ];
  path = λ above seen unleft. elim (first_written above) [
    | same e v ↦ subst (λ a. Above parents 0 a) (sym e) (here 0)
    | other differ v ↦ absurd (omega (arith, v, seen, zeros n above))
  ];
  last_child = λ k some. (c.last_child k some, omega (arith, c.last_below k, long));
  waiting = λ k pos lt new. c.is_last k pos (omega (arith, lt, long));
  not_yet = λ k pos low. elim (first_written k) [ same e v ↦ absurd (omega (arith, e, pos)) | other differ v ↦ v ∙ zeros n k ];
  before_below = c.before_below;
  before_child = c.before_child;
  is_before = λ k later pos less lt e. c.is_before k later pos less (omega (arith, lt, long)) e;
}
  where
    first_in : 0 < length (replicate {A = ℕ} n 0)
    first_in = subst (λ m. 0 < m) (sym (length-replicate n 0 ∙ sym long)) (rooted.some)

    first_written : (k : ℕ) → Written (replicate n 0) 0 1 k
    first_written k = written (replicate n 0) 0 1 k first_in

    one : slice_index (set (replicate n 0) 0 1) 0 ≡ 1
    one = get_or-set_same (replicate n 0) 0 1 0 first_in
