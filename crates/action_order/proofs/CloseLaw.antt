use Rattle.std.proofs.Common.{arith, ◌≡◌, ℕ, ◌<◌, ◌≤◌, List, [], ◌∷◌, ◌++◌, length, take, Bool, true, false, ◌&&◌, refl, sym, ap, ◌∙◌, subst, ◌⊎◌, inl, inr}
use Rattle.std.specs.Prelude.{nat_lt}
use Rattle.std.proofs.lemmas.List.{length_push, length-take-le, get_or-take}
use Rattle.bit_sets.specs.Rows.{row_has}
use Rattle.std.proofs.lemmas.Bool.{cases_lt, cases_eq}
use Rattle.gt_core.specs.Literal.{is_in}
use Rattle.gt_core.specs.Published.{Reaches, Pairwise}
use Rattle.action_order.specs.own.Graph.{leads, item}
use Rattle.action_order.specs.own.Walk.{mark_of, IsSeen, IsOpen, IsSegmentStart, AreFinished, IsWalk, KeepsSeen, MarksFrom, is_unseen, is_stacked, AreSets, TakesFrom}
use Rattle.action_order.specs.declared.walk.Mark.{Mark}
use Rattle.action_order.specs.declared.walk.Mark.TheVariants.{Unseen, At, Done}
use Rattle.action_order.proofs.published.Lists.{push_old, push_new, place_cases, in_push, in_push_new, in_push_old, rising_front, rising_last, reaches_more}
use Rattle.action_order.proofs.WalkLaw.{at_apart, not_done, done_same, unseen_at, unseen_done, mark_cases, marked_below}

-- The last segment of the stack, whose edges were all followed, is a component.

module _ (targets : List (List ℕ)) (marks after : List Mark) (stack starts work roots first front : List ℕ) (place : ℕ) (w : IsWalk targets marks stack starts work roots) (place_lt : place < length stack) (starts_is : starts ≡ first ++ place ∷ []) (work_is : work ≡ front ++ place ∷ []) (done : (u : ℕ) → leads targets (item stack place) u ≡ true → mark_of marks u ≡ Unseen → ⊥) (finish : MarksFrom marks after stack place (length stack) (Done (length roots))) where
  abbrev edge : ℕ → ℕ → Bool
  edge = leads targets

  abbrev number : ℕ
  number = length roots

  abbrev rest : List ℕ
  rest = take place stack

  abbrev found : List ℕ
  found = roots ++ item stack place ∷ []

  rest_long : length rest ≡ place
  rest_long = length-take-le place stack (omega arith)

  rest_item : (p : ℕ) → p < place → item rest p ≡ item stack p
  rest_item p lt = get_or-take place stack p 0 lt

  low : (p : ℕ) → p < length rest → p < place
  low p lt = let l = rest_long in omega arith

  -- a place before the segment keeps its mark
  low_mark : (p : ℕ) → p < place → mark_of after (item stack p) ≡ At p
  low_mark p lt = finish.others (item stack p) (λ q le lq e.
      let same = at_apart (mark_of marks (item stack p)) p q (w.placed p (omega arith)) (ap (mark_of marks) (sym e) ∙ w.placed q lq) in omega arith) ∙ w.placed p (omega arith)

  -- a vertex with another mark after the finish had it before
  before_finish : (v : ℕ) (m : Mark) → mark_of after v ≡ m → (m ≡ Done number → ⊥) → mark_of marks v ≡ m
  before_finish v m e ne = sym (finish.others v (λ q le lq s. ne (sym e ∙ ap (mark_of after) (sym s) ∙ finish.marked q le lq))) ∙ e

  done_later : (v c : ℕ) → mark_of marks v ≡ Done c → mark_of after v ≡ Done c
  done_later v c e = finish.others v (λ q le lq s. not_done (mark_of marks v) q c (ap (mark_of marks) (sym s) ∙ w.placed q lq) e) ∙ e

  vertex_at : (v p : ℕ) → mark_of marks v ≡ At p → v < length targets
  vertex_at v p e = let l = marked_below marks v (λ u. unseen_at (mark_of marks v) p u e) in let m = w.marks_long in omega arith

  vertex_done : (v c : ℕ) → mark_of marks v ≡ Done c → v < length targets
  vertex_done v c e = let l = marked_below marks v (λ u. unseen_done (mark_of marks v) c u e) in let m = w.marks_long in omega arith

  -- a vertex of the new component stands in the segment
  pub record InSegment (v : ℕ) : Type 0 where
    pub spot : ℕ
    pub from : place ≤ spot
    pub below : spot < length stack
    pub is : item stack spot ≡ v

  in_segment : (v : ℕ) → v < length targets → mark_of after v ≡ Done number → InSegment v
  in_segment v lv e = elim (mark_cases (mark_of marks v)) [
    | inl u ↦ absurd (unseen_done (mark_of after v) number (finish.others v (λ q le lq s. unseen_at (mark_of marks v) q u (ap (mark_of marks) (sym s) ∙ w.placed q lq)) ∙ u) e)
    | inr r ↦ elim r [
      | inl a ↦
          let o = w.on_stack v a.0 lv a.1 in
          elim (cases_lt a.0 place) [
            | inl l ↦ absurd (not_done (mark_of after v) a.0 number (ap (mark_of after) (sym o.1) ∙ low_mark a.0 l) e)
            | inr l ↦ record { spot = a.0; from = l; below = o.0; is = o.1 }
          ]
      | inr d ↦
          let k = w.finished.known v d.0 lv d.1 in
          let same = done_same (mark_of after v) d.0 number (done_later v d.0 d.1) e in absurd (omega arith)
    ]
  ]

  old_start : (s : ℕ) → is_in first s ≡ true → is_in starts s ≡ true
  old_start s i = rw starts_is (in_push_old first place s i)

  split_start : (s : ℕ) → is_in starts s ≡ true → (is_in first s ≡ true) ⊎ (s ≡ place)
  split_start s i = in_push first place s (rw starts_is at i)

  place_start : is_in starts place ≡ true
  place_start = rw starts_is (in_push_new first place)

  start_below : (s : ℕ) → is_in first s ≡ true → s < place
  start_below s i = rising_last first place s (subst (λ (xs : List ℕ). Pairwise (λ a b. a < b) xs) starts_is w.starts_rising) i

  split_work : (p : ℕ) → is_in work p ≡ true → (is_in front p ≡ true) ⊎ (p ≡ place)
  split_work p i = in_push front place p (rw work_is at i)

  work_below : (p : ℕ) → is_in front p ≡ true → p < place
  work_below p i = rising_last front place p (subst (λ (xs : List ℕ). Pairwise (λ a b. a < b) xs) work_is w.work_rising) i

  -- all edges of the segment were followed
  all_followed : (p v : ℕ) → place ≤ p → p < length stack → edge (item stack p) v ≡ true → IsSeen marks starts p v
  all_followed p v le lp e = elim (w.seen p v lp e) [
    | inl o ↦ elim (split_work p o.1) [
      | inl j ↦ let b = work_below p j in absurd (omega arith)
      | inr s ↦ absurd (done v (subst (λ (q : ℕ). edge (item stack q) v ≡ true) s e) o.0)
    ]
    | inr a ↦ a
  ]

  segment_start : (p : ℕ) → place ≤ p → IsSegmentStart starts p place
  segment_start p le = record { start = place_start; before = le; last = λ r i lr. elim (split_start r i) [ inl k ↦ let b = start_below r k in omega arith | inr e ↦ omega arith ] }

  -- an edge from the segment leads into it, or to an earlier component
  segment_falls : (u v : ℕ) → InSegment u → edge u v ≡ true → (d : ℕ) × (mark_of after v ≡ Done d) × (d ≤ number)
  segment_falls u v s e =
      let t : edge (item stack s.spot) v ≡ true = subst (λ (x : ℕ). edge x v ≡ true) (sym s.is) e in
      let h = all_followed s.spot v s.from s.below t in
      elim h [
        | inl d ↦ let b = w.finished.known v d.0 (vertex_done v d.0 d.1) d.1 in (d.0, done_later v d.0 d.1, omega arith)
        | inr a ↦
            let o = w.on_stack v a.0 (vertex_at v a.0 a.1) a.1 in
            let up = a.2 place place_start s.from in
            (number, ap (mark_of after) (sym o.1) ∙ finish.marked a.0 up o.0, omega arith)
      ]

  not_number : (c : ℕ) → (c ≡ number → ⊥) → Done c ≡ Done number → ⊥
  not_number c n e = n (let h : Done c ≡ Done number = e in cc)

  closed_finished : AreFinished targets after found
  closed_finished = record {
    known = λ v c lv e. let l = length_push roots (item stack place) in elim (cases_eq c number) [
      | inl s ↦ omega arith
      | inr n ↦ let k = w.finished.known v c lv (before_finish v (Done c) e (not_number c n)) in omega arith
    ];
    connected = λ u v c lu lv eu ev. elim (cases_eq c number) [
      | inl s ↦
          let a = in_segment u lu (eu ∙ ap Done s) in
          let b = in_segment v lv (ev ∙ ap Done s) in
          let up = w.back a.spot place a.below (segment_start a.spot a.from) in
          let over = w.path place b.spot b.from b.below in
          subst (λ (x : ℕ). Reaches edge x v) a.is (subst (λ (y : ℕ). Reaches edge (item stack a.spot) y) b.is (reaches_more edge _ _ _ up over))
      | inr n ↦ w.finished.connected u v c lu lv (before_finish u (Done c) eu (not_number c n)) (before_finish v (Done c) ev (not_number c n))
    ];
    falls = λ u v c lu eu e. elim (cases_eq c number) [
      | inl s ↦ let r = segment_falls u v (in_segment u lu (eu ∙ ap Done s)) e in (r.0, r.1, let h = r.2 in omega arith)
      | inr n ↦ let r = w.finished.falls u v c lu (before_finish u (Done c) eu (not_number c n)) e in (r.0, done_later v r.0 r.1, r.2)
    ];
    used = λ c lt. elim (place_cases roots (item stack place) c lt) [
      | inl h ↦ let r = w.finished.used c h in rw (push_old roots (item stack place) c h) (r.0, done_later (item roots c) c r.1)
      | inr e ↦ rw (push_new roots (item stack place) c e) (w.vertex place place_lt, finish.marked place (omega arith) place_lt ∙ ap Done (sym e))
    ];
  }

  closed_seen : (p x : ℕ) → p < place → IsSeen marks starts p x → IsSeen after first p x
  closed_seen p x lt (inl d) = inl (d.0, done_later x d.0 d.1)
  closed_seen p x lt (inr a) =
      let o = w.on_stack x a.0 (vertex_at x a.0 a.1) a.1 in
      elim (cases_lt a.0 place) [
        | inl l ↦ inr (a.0, ap (mark_of after) (sym o.1) ∙ low_mark a.0 l, λ s i le. a.2 s (old_start s i) le)
        | inr l ↦ inl (number, ap (mark_of after) (sym o.1) ∙ finish.marked a.0 l o.0)
      ]

  closed_or_open : (p x : ℕ) → p < place → IsOpen marks work p x ⊎ IsSeen marks starts p x → IsOpen after front p x ⊎ IsSeen after first p x
  closed_or_open p x lt (inl o) = inl (
    finish.others x (λ q le lq s. unseen_at (mark_of marks x) q o.0 (ap (mark_of marks) (sym s) ∙ w.placed q lq)) ∙ o.0,
    elim (split_work p o.1) [ inl j ↦ j | inr e ↦ absurd (omega arith) ],
  )
  closed_or_open p x lt (inr a) = inr (closed_seen p x lt a)

  closed_on_stack : (v p : ℕ) → v < length targets → mark_of after v ≡ At p → (p < length rest) × (item rest p ≡ v)
  closed_on_stack v p lv e =
      let o = w.on_stack v p lv (before_finish v (At p) e (λ s. not_done (At p) p number refl s)) in
      let l = rest_long in
      elim (cases_lt p place) [
        | inl h ↦ (omega arith, rest_item p h ∙ o.1)
        | inr h ↦ absurd (not_done (mark_of after v) p number e (ap (mark_of after) (sym o.1) ∙ finish.marked p h o.0))
      ]

  pub closed_keeps : KeepsSeen marks after
  closed_keeps v seen e = seen (before_finish v Unseen e (λ s. unseen_done Unseen number refl s))

  -- the vertices that were not seen are the same
  pub closed_unseen : (v : ℕ) → is_unseen (mark_of after v) ≡ is_unseen (mark_of marks v)
  closed_unseen v = elim (mark_cases (mark_of marks v)) [
    | inl u ↦ ap is_unseen (finish.others v (λ q le lq s. unseen_at (mark_of marks v) q u (ap (mark_of marks) (sym s) ∙ w.placed q lq)))
    | inr r ↦ elim (mark_cases (mark_of after v)) [
      | inl u ↦ absurd (seen_before r (before_finish v Unseen u (λ s. unseen_done Unseen number refl s)))
      | inr q ↦ not_unseen (mark_of after v) q ∙ sym (not_unseen (mark_of marks v) r)
    ]
  ]
    where
      not_unseen : (m : Mark) → ((p : ℕ) × (m ≡ At p)) ⊎ ((c : ℕ) × (m ≡ Done c)) → is_unseen m ≡ false
      not_unseen m (inl a) = ap is_unseen a.1
      not_unseen m (inr d) = ap is_unseen d.1

      seen_before : ((p : ℕ) × (mark_of marks v ≡ At p)) ⊎ ((c : ℕ) × (mark_of marks v ≡ Done c)) → mark_of marks v ≡ Unseen → ⊥
      seen_before (inl a) u = unseen_at (mark_of marks v) a.0 u a.1
      seen_before (inr d) u = unseen_done (mark_of marks v) d.0 u d.1

  -- so the rows of bits are those of the marks
  pub closed_sets : (unseen stacked left : List ℕ) → AreSets marks unseen stacked → TakesFrom stack place (length stack) stacked left → AreSets after unseen left
  closed_sets unseen stacked left a t = record {
    unseen = λ v. a.unseen v ∙ ap (λ (n : ℕ). nat_lt v n && is_unseen (mark_of marks v)) (sym finish.long) ∙ ap (λ (b : Bool). nat_lt v (length after) && b) (sym (closed_unseen v));
    stacked = λ v. by v (mark_cases (mark_of marks v));
  }
    where
      apart_from : (v : ℕ) → ((p : ℕ) → mark_of marks v ≡ At p → ⊥) → (q : ℕ) → place ≤ q → q < length stack → item stack q ≡ v → ⊥
      apart_from v n q le lq s = n q (ap (mark_of marks) (sym s) ∙ w.placed q lq)

      same : (v : ℕ) → ((q : ℕ) → place ≤ q → q < length stack → item stack q ≡ v → ⊥) → row_has left v ≡ is_stacked (mark_of after v)
      same v n = t.others v n ∙ a.stacked v ∙ ap is_stacked (sym (finish.others v n))

      by : (v : ℕ) → (mark_of marks v ≡ Unseen) ⊎ (((p : ℕ) × (mark_of marks v ≡ At p)) ⊎ ((c : ℕ) × (mark_of marks v ≡ Done c))) → row_has left v ≡ is_stacked (mark_of after v)
      by v (inl u) = same v (apart_from v (λ p e. unseen_at (mark_of marks v) p u e))
      by v (inr (inr d)) = same v (apart_from v (λ p e. not_done (mark_of marks v) p d.0 e d.1))
      by v (inr (inl q)) =
          let o = w.on_stack v q.0 (vertex_at v q.0 q.1) q.1 in
          elim (cases_lt q.0 place) [
            | inl l ↦ same v (λ r le lr s. let e = at_apart (mark_of marks v) q.0 r q.1 (ap (mark_of marks) (sym s) ∙ w.placed r lr) in omega arith)
            | inr l ↦
                ap (row_has left) (sym o.1) ∙ t.taken q.0 l o.0
                ∙ sym (ap (λ (x : ℕ). is_stacked (mark_of after x)) (sym o.1) ∙ ap is_stacked (finish.marked q.0 l o.0))
          ]

  pub closed : IsWalk targets after rest first front found
  closed = record {
    marks_long = finish.long ∙ w.marks_long;
    vertex = λ p lt. let h = low p lt in rw (rest_item p h) (w.vertex p (omega arith));
    placed = λ p lt. let h = low p lt in ap (mark_of after) (rest_item p h) ∙ low_mark p h;
    on_stack = closed_on_stack;
    path = λ p q le lt. let h = low q lt in rw (rest_item q h, rest_item p (omega arith)) (w.path p q le (omega arith));
    back = λ p s lt st.
        let h = low p lt in
        let b = st.before in
        rw (rest_item p h, rest_item s (omega arith)) (w.back p s (omega arith) (record { start = old_start s st.start; before = st.before; last = λ r i lr. elim (split_start r i) [ inl k ↦ st.last r k lr | inr e ↦ absurd (omega arith) ] }));
    seen = λ p x lt li.
        let h = low p lt in
        let li' : edge (item stack p) x ≡ true = subst (λ (y : ℕ). edge y x ≡ true) (rest_item p h) li in
        closed_or_open p x h (w.seen p x (omega arith) li');
    work_within = λ p i. let b = work_below p i in let l = rest_long in omega arith;
    work_rising = rising_front front place (subst (λ (xs : List ℕ). Pairwise (λ a b. a < b) xs) work_is w.work_rising);
    starts_in_work = λ s i. let b = start_below s i in elim (split_work s (w.starts_in_work s (old_start s i))) [ inl j ↦ j | inr e ↦ absurd (omega arith) ];
    starts_rising = rising_front first place (subst (λ (xs : List ℕ). Pairwise (λ a b. a < b) xs) starts_is w.starts_rising);
    bottom = λ lt. let h = low 0 lt in elim (split_start 0 (w.bottom (omega arith))) [ inl k ↦ k | inr e ↦ absurd (omega arith) ];
    finished = closed_finished;
  }
