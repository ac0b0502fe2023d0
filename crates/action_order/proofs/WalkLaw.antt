use Rattle.std.proofs.Common.{arith, ◌≡◌, ◌==◌, ℕ, ◌+◌, ◌<◌, ◌≤◌, List, [], ◌∷◌, ◌++◌, length, Bool, true, false, not, ◌&&◌, ◌||◌, refl, sym, ap, ◌∙◌, subst, ◌⊎◌, inl, inr, set}
use Rattle.std.specs.Prelude.{nat_lt, Option, Some, None, if◌then◌else◌}
use Rattle.std.proofs.lemmas.List.{length_push, length-set, get_or-set_same, get_or-set_other, get_or_past}
use Rattle.std.proofs.lemmas.Bool.Decides.{nat_tests}
use Rattle.bit_sets.specs.Rows.{row_has, IsLeastFrom}
use Rattle.std.proofs.Math.Bool.{and-false}
use Rattle.gt_core.proofs.published.Basics.{and_split, and_both, apart, not_true, test_same, same_test}
use Rattle.std.proofs.lemmas.Bool.{cases_lt, cases_eq}
use Rattle.gt_core.specs.Literal.{is_in}
use Rattle.gt_core.specs.Published.{Reaches, here, Pairwise}
use Rattle.action_order.specs.own.Graph.{leads, item}
use Rattle.action_order.specs.own.Walk.{mark_of, is_unseen, is_stacked, lower, place_of as place_in, IsSeen, IsOpen, IsSegmentStart, AreFinished, IsWalk, AllReach, KeepsSeen, IsLowest, IsLowestBelow, AreSets, MarksFrom, TakesFrom}
use Rattle.action_order.specs.declared.walk.Mark.{Mark}
use Rattle.action_order.specs.declared.walk.Mark.TheVariants.{Unseen, At, Done}
use Rattle.action_order.proofs.published.Lists.{push_old, push_new, place_cases, in_push, in_push_new, in_push_old, rising_push, rising_front, rising_last, reaches_more, reaches_edge}

-- What each move of the depth-first walk keeps.

pub at_apart : (m : Mark) (p q : ℕ) → m ≡ At p → m ≡ At q → p ≡ q
at_apart m p q e f = let h : At p ≡ At q = sym e ∙ f in cc

pub not_done : (m : Mark) (p c : ℕ) → m ≡ At p → m ≡ Done c → ⊥
not_done m p c e f = let h : At p ≡ Done c = sym e ∙ f in cc

pub done_same : (m : Mark) (c d : ℕ) → m ≡ Done c → m ≡ Done d → c ≡ d
done_same m c d e f = let h : Done c ≡ Done d = sym e ∙ f in cc

pub unseen_at : (m : Mark) (p : ℕ) → m ≡ Unseen → m ≡ At p → ⊥
unseen_at m p e f = let h : Unseen ≡ At p = sym e ∙ f in cc

pub unseen_done : (m : Mark) (c : ℕ) → m ≡ Unseen → m ≡ Done c → ⊥
unseen_done m c e f = let h : Unseen ≡ Done c = sym e ∙ f in cc

-- the mark of another vertex than the one that was marked
other_mark : (marks : List Mark) (v u : ℕ) (m : Mark) → (u ≡ v → ⊥) → mark_of (set marks v m) u ≡ mark_of marks u
other_mark marks v u m ne = get_or-set_other marks v u m Unseen ne

own_mark : (marks : List Mark) (v : ℕ) (m : Mark) → v < length marks → mark_of (set marks v m) v ≡ m
own_mark marks v m lt = get_or-set_same marks v m Unseen lt

pub mark_cases : (m : Mark) → (m ≡ Unseen) ⊎ (((p : ℕ) × (m ≡ At p)) ⊎ ((c : ℕ) × (m ≡ Done c)))
mark_cases Unseen = inl refl
mark_cases (At p) = inr (inl (p, refl))
mark_cases (Done c) = inr (inr (c, refl))

pub unseen_is : (m : Mark) → is_unseen m ≡ true → m ≡ Unseen
unseen_is Unseen e = refl
unseen_is (At p) e = cc
unseen_is (Done c) e = cc

pub stacked_at : (m : Mark) → is_stacked m ≡ true → m ≡ At (place_in m)
stacked_at Unseen e = cc
stacked_at (At p) e = refl
stacked_at (Done c) e = cc

-- what has a mark is a vertex
pub marked_below : (marks : List Mark) (v : ℕ) → (mark_of marks v ≡ Unseen → ⊥) → v < length marks
marked_below marks v h = elim (cases_lt v (length marks)) [ inl l ↦ l | inr l ↦ absurd (h (get_or_past marks v Unseen l)) ]

-- a vertex that was seen keeps its mark where another gets one
pub keeps_marked : (marks : List Mark) (v : ℕ) (m : Mark) → (m ≡ Unseen → ⊥) → KeepsSeen marks (set marks v m)
keeps_marked marks v m ne u seen e = elim (cases_lt v (length marks)) [
  | inl lt ↦ elim (cases_eq u v) [
    | inl s ↦ ne (sym (own_mark marks v m lt) ∙ ap (mark_of (set marks v m)) (sym s) ∙ e)
    | inr n ↦ seen (sym (other_mark marks v u m n) ∙ e)
  ]
  | inr ge ↦ elim (cases_eq u v) [
    | inl s ↦ seen (get_or_past marks u Unseen (omega arith))
    | inr n ↦ seen (sym (other_mark marks v u m n) ∙ e)
  ]
]

-- the least number of two rows, where there is one
pub common_in : (p : ℕ → Bool) (from : ℕ) (r : Option ℕ) (x : ℕ) → IsLeastFrom p from r → r ≡ Some x → (from ≤ x) × (p x ≡ true) × ((j : ℕ) → from ≤ j → j < x → p j ≡ false)
common_in p from r x h e = subst (IsLeastFrom p from) e h

pub common_none : (p : ℕ → Bool) (from : ℕ) (r : Option ℕ) → IsLeastFrom p from r → r ≡ None → (j : ℕ) → from ≤ j → p j ≡ false
common_none p from r h e = subst (IsLeastFrom p from) e h

pub common_below : (a b : Bool) → (a && b) ≡ true → a ≡ true
common_below true b e = refl
common_below false b e = e

-- one more target on the stack
pub lowest_more : (targets : List (List ℕ)) (marks : List Mark) (v from x place : ℕ) (low : Option ℕ) (stacked : List ℕ) → ((u : ℕ) → row_has stacked u ≡ is_stacked (mark_of marks u)) → IsLowestBelow targets marks v from low → ((j : ℕ) → from ≤ j → j < x → (leads targets v j && row_has stacked j) ≡ false) → (leads targets v x && row_has stacked x) ≡ true → place ≡ place_in (mark_of marks x) → IsLowestBelow targets marks v (x + 1) (Some (lower low place))
lowest_more targets marks v from x place low stacked sets below between both is = by low below
  where
    here : (leads targets v x ≡ true) × (mark_of marks x ≡ At place)
    here = let p = and_split (leads targets v x) (row_has stacked x) both in (p.0, stacked_at (mark_of marks x) (sym (sets x) ∙ p.1) ∙ ap At (sym is))

    none_between : (u p : ℕ) → from ≤ u → u < x → leads targets v u ≡ true → mark_of marks u ≡ At p → ⊥
    none_between u p f l e m = apart (leads targets v u && row_has stacked u) (and_both (leads targets v u) (row_has stacked u) e (sets u ∙ ap is_stacked m)) (between u f l)

    own : (u p : ℕ) → u ≡ x → mark_of marks u ≡ At p → p ≡ place
    own u p s m = at_apart (mark_of marks x) p place (ap (mark_of marks) (sym s) ∙ m) here.1

    each : (bound : ℕ) → ((u p : ℕ) → u < from → leads targets v u ≡ true → mark_of marks u ≡ At p → bound ≤ p) → bound ≤ place → (u p : ℕ) → u < x + 1 → leads targets v u ≡ true → mark_of marks u ≡ At p → bound ≤ p
    each bound old le u p lt e m = elim (cases_lt u from) [
      | inl l ↦ old u p l e m
      | inr f ↦ elim (cases_lt u x) [
        | inl l ↦ absurd (none_between u p f l e m)
        | inr g ↦ let s : u ≡ x = omega arith in let o = own u p s m in omega arith
      ]
    ]

    chosen : (other : ℕ) → ((u : ℕ) × (leads targets v u ≡ true) × (mark_of marks u ≡ At other)) × ((u p : ℕ) → u < from → leads targets v u ≡ true → mark_of marks u ≡ At p → other ≤ p) → (t : Bool) → nat_lt other place ≡ t → IsLowestBelow targets marks v (x + 1) (Some (if t then other else place))
    chosen other b true e = (b.0, each other b.1 (let l : other < place = grind (arith, nat_tests) in omega arith))
    chosen other b false e =
        let l : place ≤ other = grind (arith, nat_tests) in
        ((x, here.0, here.1), each place (λ u p lt f m. let k = b.1 u p lt f m in omega arith) (omega arith))

    by : (low : Option ℕ) → IsLowestBelow targets marks v from low → IsLowestBelow targets marks v (x + 1) (Some (lower low place))
    by None b = ((x, here.0, here.1), each place (λ u p lt e m. absurd (b u p lt e m)) (omega arith))
    by (Some other) b = chosen other b (nat_lt other place) refl

-- with no target on the stack from a vertex on
pub lowest_all : (targets : List (List ℕ)) (marks : List Mark) (v from : ℕ) (low : Option ℕ) (stacked : List ℕ) → ((u : ℕ) → row_has stacked u ≡ is_stacked (mark_of marks u)) → IsLowestBelow targets marks v from low → ((j : ℕ) → from ≤ j → (leads targets v j && row_has stacked j) ≡ false) → IsLowest targets marks v low
lowest_all targets marks v from low stacked sets below none = by low below
  where
    none_from : (u p : ℕ) → from ≤ u → leads targets v u ≡ true → mark_of marks u ≡ At p → ⊥
    none_from u p f e m = apart (leads targets v u && row_has stacked u) (and_both (leads targets v u) (row_has stacked u) e (sets u ∙ ap is_stacked m)) (none u f)

    by : (low : Option ℕ) → IsLowestBelow targets marks v from low → IsLowest targets marks v low
    by None b = λ u p e m. elim (cases_lt u from) [ inl l ↦ b u p l e m | inr f ↦ none_from u p f e m ]
    by (Some to) b = (b.0, λ u p e m. elim (cases_lt u from) [ inl l ↦ b.1 u p l e m | inr f ↦ absurd (none_from u p f e m) ])

-- a target at the bottom of the stack is the lowest
pub lowest_bottom : (targets : List (List ℕ)) (marks : List Mark) (v x place : ℕ) (stacked : List ℕ) → ((u : ℕ) → row_has stacked u ≡ is_stacked (mark_of marks u)) → (leads targets v x && row_has stacked x) ≡ true → place ≡ place_in (mark_of marks x) → place ≡ 0 → IsLowest targets marks v (Some 0)
lowest_bottom targets marks v x place stacked sets both is zero_place =
    let p = and_split (leads targets v x) (row_has stacked x) both in
    ((x, p.0, stacked_at (mark_of marks x) (sym (sets x) ∙ p.1) ∙ ap At (sym is ∙ zero_place)), λ u q e m. omega arith)

module _ (targets : List (List ℕ)) where
  abbrev edge : ℕ → ℕ → Bool
  edge = leads targets

  -- a vertex that was not seen goes onto the stack
  module _ (marks : List Mark) (stack starts work roots : List ℕ) (w : IsWalk targets marks stack starts work roots) (v : ℕ) (vertex : v < length targets) (unseen : mark_of marks v ≡ Unseen) (reached : AllReach targets stack v) where
    abbrev top : ℕ
    top = length stack

    abbrev marked : List Mark
    marked = set marks v (At top)

    own : mark_of marked v ≡ At top
    own = own_mark marks v (At top) (let l = w.marks_long in omega arith)

    done_before : (u c : ℕ) → mark_of marked u ≡ Done c → mark_of marks u ≡ Done c
    done_before u c e = elim (cases_eq u v) [
      | inl s ↦ absurd (not_done (mark_of marked v) top c own (ap (mark_of marked) (sym s) ∙ e))
      | inr n ↦ sym (other_mark marks v u (At top) n) ∙ e
    ]

    done_after : (u c : ℕ) → mark_of marks u ≡ Done c → mark_of marked u ≡ Done c
    done_after u c e = other_mark marks v u (At top) (λ s. unseen_done (mark_of marks v) c unseen (ap (mark_of marks) (sym s) ∙ e)) ∙ e

    at_after : (u p : ℕ) → mark_of marks u ≡ At p → mark_of marked u ≡ At p
    at_after u p e = other_mark marks v u (At top) (λ s. unseen_at (mark_of marks v) p unseen (ap (mark_of marks) (sym s) ∙ e)) ∙ e

    opened_finished : AreFinished targets marked roots
    opened_finished =
        let f = w.finished in
        record {
          known = λ u c lt e. f.known u c lt (done_before u c e);
          connected = λ u x c lu lx eu ex. f.connected u x c lu lx (done_before u c eu) (done_before x c ex);
          falls = λ u x c lu eu e. let r = f.falls u x c lu (done_before u c eu) e in (r.0, done_after x r.0 r.1, r.2);
          used = λ c lt. let r = f.used c lt in (r.0, done_after (item roots c) c r.1);
        }

    -- with these starts of segments afterwards
    module _ (after : List ℕ) (old : (s : ℕ) → is_in after s ≡ true → (is_in starts s ≡ true) ⊎ (s ≡ top)) (kept : (s : ℕ) → is_in starts s ≡ true → is_in after s ≡ true) where
      seen_old : (p x : ℕ) → p < top → IsOpen marks work p x ⊎ IsSeen marks starts p x → IsOpen marked (work ++ top ∷ []) p x ⊎ IsSeen marked after p x
      seen_old p x lt (inl o) = elim (cases_eq x v) [
        | inl s ↦ inr (inr (top, ap (mark_of marked) s ∙ own, λ r i le. omega arith))
        | inr n ↦ inl (other_mark marks v x (At top) n ∙ o.0, in_push_old work top p o.1)
      ]
      seen_old p x lt (inr (inl d)) = inr (inl (d.0, done_after x d.0 d.1))
      seen_old p x lt (inr (inr a)) = inr (inr (a.0, at_after x a.0 a.1, λ s i le. elim (old s i) [ inl k ↦ a.2 s k le | inr e ↦ absurd (omega arith) ]))

      path_to_new : (p q : ℕ) → p ≤ q → q ≡ top → Reaches edge (item (stack ++ v ∷ []) p) (item (stack ++ v ∷ []) q)
      path_to_new p q le e = elim (cases_lt p top) [
        | inl h ↦ rw (push_new stack v q e, push_old stack v p h) (reached p h)
        | inr h ↦ let p_is : p ≡ top = omega arith in rw (push_new stack v q e, push_new stack v p p_is) (here v)
      ]

      back_old : (p s : ℕ) → p < top → IsSegmentStart after p s → Reaches edge (item (stack ++ v ∷ []) p) (item (stack ++ v ∷ []) s)
      back_old p s h st = elim (old s st.start) [
        | inl k ↦
            let le = st.before in
            rw (push_old stack v p h, push_old stack v s (omega arith)) (w.back p s h (record { start = k; before = st.before; last = λ r i lr. st.last r (kept r i) lr }))
        | inr e ↦ let le = st.before in absurd (omega arith)
      ]

      opened : Pairwise (λ a b. a < b) after → is_in after 0 ≡ true → ((s : ℕ) → IsSegmentStart after top s → Reaches edge v (item (stack ++ v ∷ []) s)) → ((u : ℕ) → edge v u ≡ true → IsOpen marked (work ++ top ∷ []) top u ⊎ IsSeen marked after top u) → IsWalk targets marked (stack ++ v ∷ []) after (work ++ top ∷ []) roots
      opened rising bottom own_back own_seen = record {
        marks_long = length-set marks v (At top) ∙ w.marks_long;
        vertex = λ p lt. elim (place_cases stack v p lt) [
          | inl h ↦ rw (push_old stack v p h) (w.vertex p h)
          | inr e ↦ rw (push_new stack v p e) vertex
        ];
        placed = λ p lt. elim (place_cases stack v p lt) [
          | inl h ↦ ap (mark_of marked) (push_old stack v p h) ∙ at_after (item stack p) p (w.placed p h)
          | inr e ↦ ap (mark_of marked) (push_new stack v p e) ∙ own ∙ ap At (sym e)
        ];
        on_stack = λ u p lt e. elim (cases_eq u v) [
          | inl s ↦
              let p_is : p ≡ top = at_apart (mark_of marked v) p top (ap (mark_of marked) (sym s) ∙ e) own in
              let l = length_push stack v in
              (omega arith, push_new stack v p p_is ∙ sym s)
          | inr n ↦
              let r = w.on_stack u p lt (sym (other_mark marks v u (At top) n) ∙ e) in
              let l = length_push stack v in
              (let h = r.0 in omega arith, push_old stack v p r.0 ∙ r.1)
        ];
        path = λ p q le lt. elim (place_cases stack v q lt) [
          | inl h ↦ rw (push_old stack v q h, push_old stack v p (omega arith)) (w.path p q le h)
          | inr e ↦ path_to_new p q le e
        ];
        back = λ p s lt st. elim (place_cases stack v p lt) [
          | inl h ↦ back_old p s h st
          | inr e ↦ rw (push_new stack v p e) (own_back s (subst (λ (q : ℕ). IsSegmentStart after q s) e st))
        ];
        seen = λ p x lt li. elim (place_cases stack v p lt) [
          | inl h ↦
              let is = push_old stack v p h in
              let li' : edge (item stack p) x ≡ true = subst (λ (y : ℕ). edge y x ≡ true) is li in
              seen_old p x h (w.seen p x h li')
          | inr e ↦
              let li' : edge v x ≡ true = subst (λ (y : ℕ). edge y x ≡ true) (push_new stack v p e) li in
              subst (λ (q : ℕ). IsOpen marked (work ++ top ∷ []) q x ⊎ IsSeen marked after q x) (sym e) (own_seen x li')
        ];
        work_within = λ p i. let l = length_push stack v in elim (in_push work top p i) [
          | inl k ↦ let h = w.work_within p k in omega arith
          | inr e ↦ omega arith
        ];
        work_rising = rising_push work top w.work_rising (λ x i. w.work_within x i);
        starts_in_work = λ s i. elim (old s i) [
          | inl k ↦ in_push_old work top s (w.starts_in_work s k)
          | inr e ↦ subst (λ (x : ℕ). is_in (work ++ top ∷ []) x ≡ true) (sym e) (in_push_new work top)
        ];
        starts_rising = rising;
        bottom = λ lt. bottom;
        finished = opened_finished;
      }

    -- what is not on the stack yet is open, or finished, or the vertex itself
    target_of : (after : List ℕ) → ((p : ℕ) (u : ℕ) → mark_of marks u ≡ At p → edge v u ≡ true → (s : ℕ) → is_in after s ≡ true → s ≤ top → s ≤ p) → (u : ℕ) → edge v u ≡ true → IsOpen marked (work ++ top ∷ []) top u ⊎ IsSeen marked after top u
    target_of after low u e = elim (cases_eq u v) [
      | inl s ↦ inr (inr (top, ap (mark_of marked) s ∙ own, λ r i le. le))
      | inr n ↦ elim (mark_cases (mark_of marks u)) [
        | inl un ↦ inl (other_mark marks v u (At top) n ∙ un, in_push_new work top)
        | inr r ↦ elim r [
          | inl a ↦ inr (inr (a.0, at_after u a.0 a.1, λ s i le. low a.0 u a.1 e s i le))
          | inr d ↦ inr (inl (d.0, done_after u d.0 d.1))
        ]
      ]
    ]

    -- as a segment of its own, where it leads to none of the stack
    pub opened_alone : ((u p : ℕ) → edge v u ≡ true → mark_of marks u ≡ At p → ⊥) → IsWalk targets marked (stack ++ v ∷ []) (starts ++ top ∷ []) (work ++ top ∷ []) roots
    opened_alone none =
        opened (starts ++ top ∷ []) (λ s i. in_push starts top s i) (λ s i. in_push_old starts top s i)
        (rising_push starts top w.starts_rising (λ x i. w.work_within x (w.starts_in_work x i)))
        (elim (cases_lt 0 top) [
          | inl h ↦ in_push_old starts top 0 (w.bottom h)
          | inr e ↦ let z : 0 ≡ top = omega arith in subst (λ (x : ℕ). is_in (starts ++ top ∷ []) x ≡ true) (sym z) (in_push_new starts top)
        ])
        (λ s st.
        let up = st.last top (in_push_new starts top) (omega arith) in
        let down = st.before in
        let s_is : s ≡ top = omega arith in
        rw (push_new stack v s s_is) (here v))
        (target_of (starts ++ top ∷ []) (λ p u m e s i le. absurd (none u p e m)))

    -- into the last segment, where it leads to a place of it
    pub opened_joined : (to u : ℕ) → edge v u ≡ true → mark_of marks u ≡ At to → u < length targets → ((x p : ℕ) → edge v x ≡ true → mark_of marks x ≡ At p → to ≤ p) → ((s : ℕ) → is_in starts s ≡ true → s ≤ to) → IsWalk targets marked (stack ++ v ∷ []) starts (work ++ top ∷ []) roots
    opened_joined to u e at below lowest joined =
        let o = w.on_stack u to below at in
        opened starts (λ s i. inl i) (λ s i. i) w.starts_rising (let h = o.0 in w.bottom (omega arith))
        (λ s st.
        let le = joined s st.start in
        let h = o.0 in
        rw (push_old stack v s (omega arith))
        (reaches_more edge v u (item stack s) (reaches_edge edge v u e)
        (subst (λ (x : ℕ). Reaches edge x (item stack s)) o.1 (w.back to s o.0 (record { start = st.start; before = le; last = λ r i lr. st.last r i (let a = joined r i in omega arith) })))))
        (target_of starts (λ p x m ex s i le. let a = joined s i in let b = lowest x p ex m in omega arith))

  -- the last segment joins the one before it, where an edge leads back
  pub joined_once : (marks : List Mark) (stack starts work roots front : List ℕ) (start to : ℕ) → IsWalk targets marks stack starts work roots → starts ≡ front ++ start ∷ [] → to < length stack → to < start → AllReach targets stack (item stack to) → IsWalk targets marks stack front work roots
  joined_once marks stack starts work roots front start to w is to_lt back_to reached = record {
    marks_long = w.marks_long;
    vertex = w.vertex;
    placed = w.placed;
    on_stack = w.on_stack;
    path = w.path;
    back = λ p s lt st. elim (cases_lt p start) [
      | inl h ↦ w.back p s lt (record { start = old s st.start; before = st.before; last = λ r i le. elim (split r i) [ inl k ↦ st.last r k le | inr e ↦ absurd (omega arith) ] })
      | inr h ↦ through p s lt h st
    ];
    seen = λ p x lt li. elim (w.seen p x lt li) [ inl o ↦ inl o | inr a ↦ inr (fewer p x a) ];
    work_within = w.work_within;
    work_rising = w.work_rising;
    starts_in_work = λ s i. w.starts_in_work s (old s i);
    starts_rising = rising_front front start (subst (λ (xs : List ℕ). Pairwise (λ a b. a < b) xs) is w.starts_rising);
    bottom = λ lt. elim (split 0 (w.bottom lt)) [ inl k ↦ k | inr e ↦ absurd (omega arith) ];
    finished = w.finished;
  }
    where
      old : (s : ℕ) → is_in front s ≡ true → is_in starts s ≡ true
      old s i = rw is (in_push_old front start s i)

      split : (s : ℕ) → is_in starts s ≡ true → (is_in front s ≡ true) ⊎ (s ≡ start)
      split s i = in_push front start s (rw is at i)

      below : (s : ℕ) → is_in front s ≡ true → s < start
      below s i = rising_last front start s (subst (λ (xs : List ℕ). Pairwise (λ a b. a < b) xs) is w.starts_rising) i

      fewer : (p x : ℕ) → IsSeen marks starts p x → IsSeen marks front p x
      fewer p x (inl d) = inl d
      fewer p x (inr a) = inr (a.0, a.1, λ s i le. a.2 s (old s i) le)

      -- from the last segment along the edge back, and on to the start before
      through : (p s : ℕ) → p < length stack → start ≤ p → IsSegmentStart front p s → Reaches edge (item stack p) (item stack s)
      through p s lt h st =
          let there : Reaches edge (item stack p) (item stack to) = reached p lt in
          let s_below = below s st.start in
          elim (cases_lt to s) [
            | inl k ↦ reaches_more edge _ _ _ there (w.path to s (omega arith) (omega arith))
            | inr k ↦ reaches_more edge _ _ _ there (w.back to s (omega arith) (record { start = old s st.start; before = k; last = λ r i le. elim (split r i) [ inl j ↦ st.last r j (let b = below r j in omega arith) | inr e ↦ absurd (omega arith) ] }))
          ]

  -- a place whose edges were all followed leaves the work
  pub left : (marks : List Mark) (stack starts work roots : List ℕ) (place : ℕ) (front : List ℕ) → IsWalk targets marks stack starts work roots → work ≡ front ++ place ∷ [] → ((u : ℕ) → edge (item stack place) u ≡ true → mark_of marks u ≡ Unseen → ⊥) → is_in starts place ≡ false → IsWalk targets marks stack starts front roots
  left marks stack starts work roots place front w is done none = record {
    marks_long = w.marks_long;
    vertex = w.vertex;
    placed = w.placed;
    on_stack = w.on_stack;
    path = w.path;
    seen = λ p x lt li. elim (w.seen p x lt li) [
      | inl o ↦ elim (split p o.1) [
        | inl j ↦ inl (o.0, j)
        | inr e ↦ absurd (done x (subst (λ (q : ℕ). edge (item stack q) x ≡ true) e li) o.0)
      ]
      | inr a ↦ inr a
    ];
    back = w.back;
    work_within = λ p i. w.work_within p (rw is (in_push_old front place p i));
    work_rising = rising_front front place (subst (λ (xs : List ℕ). Pairwise (λ a b. a < b) xs) is w.work_rising);
    starts_in_work = λ s i. elim (split s (w.starts_in_work s i)) [
      | inl j ↦ j
      | inr e ↦ absurd (let t : is_in starts place ≡ true = subst (λ (x : ℕ). is_in starts x ≡ true) e i in let f : true ≡ false = sym t ∙ none in cc)
    ];
    starts_rising = w.starts_rising;
    bottom = w.bottom;
    finished = w.finished;
  }
    where
      split : (s : ℕ) → is_in work s ≡ true → (is_in front s ≡ true) ⊎ (s ≡ place)
      split s i = in_push front place s (rw is at i)

-- the lowest place that a vertex leads to
pub lowest_place : (targets : List (List ℕ)) (marks : List Mark) (stack starts work roots : List ℕ) → IsWalk targets marks stack starts work roots → (v to : ℕ) → (l : IsLowest targets marks v (Some to)) → (to < length stack) × (item stack to ≡ l.0.0)
lowest_place targets marks stack starts work roots w v to l =
    let below = marked_below marks l.0.0 (λ e. unseen_at (mark_of marks l.0.0) to e l.0.2) in
    let long = w.marks_long in
    w.on_stack l.0.0 to (omega arith) l.0.2

-- a vertex that goes onto the stack goes from one row of bits to the other
pub stacked_sets :
    (marks : List Mark) (unseen stacked left on : List ℕ) (v p : ℕ) → AreSets marks unseen stacked → v < length marks
    → ((k : ℕ) → row_has left k ≡ (not (v == k) && row_has unseen k)) → ((k : ℕ) → row_has on k ≡ ((v == k) || row_has stacked k))
    → AreSets (set marks v (At p)) left on
stacked_sets marks unseen stacked left on v p a lt takes puts = record { unseen = λ k. takes k ∙ left_is k (cases_eq k v); stacked = λ k. puts k ∙ on_is k (cases_eq k v) }
  where
    after : List Mark
    after = set marks v (At p)

    own : (k : ℕ) → k ≡ v → mark_of after k ≡ At p
    own k s = ap (mark_of after) s ∙ own_mark marks v (At p) lt

    other : (k : ℕ) → (k ≡ v → ⊥) → (v == k) ≡ false
    other k n = not_true (v == k) (λ e. n (sym (test_same v k e)))

    left_is : (k : ℕ) → (k ≡ v) ⊎ (k ≡ v → ⊥) → (not (v == k) && row_has unseen k) ≡ (nat_lt k (length after) && is_unseen (mark_of after k))
    left_is k (inl s) = ap (λ (b : Bool). not b && row_has unseen k) (same_test v k (sym s)) ∙ sym (ap (λ (m : Mark). nat_lt k (length after) && is_unseen m) (own k s) ∙ and-false (nat_lt k (length after)))
    left_is k (inr n) =
        ap (λ (b : Bool). not b && row_has unseen k) (other k n) ∙ a.unseen k
        ∙ ap (λ (n : ℕ). nat_lt k n && is_unseen (mark_of marks k)) (sym (length-set marks v (At p)))
        ∙ ap (λ (m : Mark). nat_lt k (length after) && is_unseen m) (sym (other_mark marks v k (At p) n))

    on_is : (k : ℕ) → (k ≡ v) ⊎ (k ≡ v → ⊥) → ((v == k) || row_has stacked k) ≡ is_stacked (mark_of after k)
    on_is k (inl s) = ap (λ (b : Bool). b || row_has stacked k) (same_test v k (sym s)) ∙ sym (ap is_stacked (own k s))
    on_is k (inr n) = ap (λ (b : Bool). b || row_has stacked k) (other k n) ∙ a.stacked k ∙ ap is_stacked (sym (other_mark marks v k (At p) n))

-- a place up to another with a different vertex is below it
before_last : (stack : List ℕ) (p i : ℕ) → p < i + 1 → (item stack p ≡ item stack i → ⊥) → p < i
before_last stack p i l n = elim (cases_lt p i) [ inl h ↦ h | inr h ↦ let e : p ≡ i = omega arith in absurd (n (ap (item stack) e)) ]

-- one more vertex of a stack gets a mark
pub marks_more : (before now : List Mark) (stack : List ℕ) (place i : ℕ) (mark : Mark) → place ≤ i → item stack i < length before → MarksFrom before now stack place i mark → MarksFrom before (set now (item stack i) mark) stack place (i + 1) mark
marks_more before now stack place i mark ge lt m = record {
  long = length-set now (item stack i) mark ∙ m.long;
  marked = λ p le l. by p le l (cases_eq (item stack p) (item stack i));
  others = λ v n. other_mark now (item stack i) v mark (λ s. n i ge (omega arith) (sym s)) ∙ m.others v (λ p le l. n p le (omega arith));
}
  where
    by : (p : ℕ) → place ≤ p → p < i + 1 → (item stack p ≡ item stack i) ⊎ (item stack p ≡ item stack i → ⊥) → mark_of (set now (item stack i) mark) (item stack p) ≡ mark
    by p le l (inl s) = ap (mark_of (set now (item stack i) mark)) s ∙ own_mark now (item stack i) mark (omega (arith, m.long))
    by p le l (inr n) = other_mark now (item stack i) (item stack p) mark n ∙ m.marked p le (before_last stack p i l n)

-- one more vertex of a stack is taken out of a set
pub takes_more :
    (stack : List ℕ) (place i : ℕ) (before now after : List ℕ) → place ≤ i → TakesFrom stack place i before now
    → ((k : ℕ) → row_has after k ≡ (not (item stack i == k) && row_has now k)) → TakesFrom stack place (i + 1) before after
takes_more stack place i before now after ge t h = record {
  taken = λ p le l. h (item stack p) ∙ by p le l (cases_eq (item stack p) (item stack i));
  others = λ v n. h v ∙ left v (not_true (item stack i == v) (λ e. n i ge (omega arith) (test_same (item stack i) v e))) ∙ t.others v (λ p le l. n p le (omega arith));
}
  where
    left : (v : ℕ) → (item stack i == v) ≡ false → (not (item stack i == v) && row_has now v) ≡ row_has now v
    left v e = ap (λ (b : Bool). not b && row_has now v) e

    by : (p : ℕ) → place ≤ p → p < i + 1 → (item stack p ≡ item stack i) ⊎ (item stack p ≡ item stack i → ⊥) → (not (item stack i == item stack p) && row_has now (item stack p)) ≡ false
    by p le l (inl s) = ap (λ (b : Bool). not b && row_has now (item stack p)) (same_test (item stack i) (item stack p) (sym s))
    by p le l (inr n) = left (item stack p) (not_true (item stack i == item stack p) (λ e. n (sym (test_same (item stack i) (item stack p) e)))) ∙ t.taken p le (before_last stack p i l n)
