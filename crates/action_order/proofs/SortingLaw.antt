use Rattle.std.proofs.Common.{arith, ◌≡◌, ◌==◌, ℕ, zero, suc, ◌+◌, ◌<◌, ◌≤◌, List, [], ◌∷◌, ◌++◌, length, Bool, true, false, not, refl, sym, ap, ◌∙◌, subst, ◌⊎◌, inl, inr, set, replicate, cond, count_by}
use Rattle.std.proofs.lemmas.List.{length-set, get_or-set_same, get_or-set_other}
use Rattle.std.proofs.lemmas.Bool.{cases_lt, cases_eq, cases_Bool}
use Rattle.std.specs.List.{AllByRecursion}
use Rattle.std.proofs.lemmas.List.Sums.{sum_by-set}
use Rattle.gt_core.specs.Literal.{is_in, range}
use Rattle.gt_core.proofs.published.Basics.{or_split, test_same, apart, not_true}
use Rattle.gt_core.proofs.published.Literals.{among_in, among_range}
use Rattle.action_order.specs.own.Graph.{leads, class_at, item}
use Rattle.action_order.specs.own.Sorting.{list_at, is_taken, IsTakenNext, AreTaken, IsTopologicalOrder, IsReadyName, Waits, IsSorting, AreNamedComponents}
use Rattle.action_order.specs.own.KeySet.{IsFirst, IsWith}
use Rattle.action_order.proofs.published.Lists.{in_push, in_push_new, in_push_old}
use Rattle.std.proofs.lemmas.List.{length-replicate}
use Rattle.containers.proofs.published.Made.{get_or-replicate_default}

-- What each move of the sorting keeps.

module _ (rows : List (List ℕ)) (names classes : List ℕ) where
  -- the same sorting, with other ready names and other components to look at
  reordered : (taken : List Bool) (passed : List ℕ) (waiting : List (List ℕ)) (ready more order free left : List ℕ) → IsSorting rows names classes taken passed waiting ready order free → ((k : ℕ) → is_in more k ≡ true → IsReadyName rows names classes order k) → ((x : ℕ) → x < length rows → is_in order x ≡ false → (is_in more (item names x) ≡ true) ⊎ ((Waits rows waiting classes order x) ⊎ (is_in left x ≡ true))) → IsSorting rows names classes taken passed waiting more order left
  reordered taken passed waiting ready more order free left d ready_is covered =
      record { taken_long = d.taken_long; passed_long = d.passed_long; waiting_long = d.waiting_long; waiting_below = d.waiting_below; marks = d.marks; order_below = d.order_below; passed_taken = d.passed_taken; ready_is = ready_is; covered = covered; sorting = d.sorting }

  -- further targets of a component were found taken
  pub passed_more : (taken : List Bool) (passed : List ℕ) (waiting : List (List ℕ)) (ready order free : List ℕ) (c end : ℕ) → AreNamedComponents rows names classes → c < length rows → IsSorting rows names classes taken passed waiting ready order free → ((b : ℕ) → item passed c ≤ b → b < end → leads rows c b ≡ true → is_taken taken (class_at classes b) ≡ true) → IsSorting rows names classes taken (set passed c end) waiting ready order free
  passed_more taken passed waiting ready order free c end n lc d p = record {
    taken_long = d.taken_long;
    passed_long = length-set passed c end ∙ d.passed_long;
    waiting_long = d.waiting_long;
    waiting_below = d.waiting_below;
    marks = d.marks;
    order_below = d.order_below;
    passed_taken = λ x b lx lb e. elim (cases_eq x c) [
      | inl s ↦
          let lb' : b < item (set passed c end) c = subst (λ (y : ℕ). b < item (set passed c end) y) s lb in
          let own = get_or-set_same passed c end 0 (let l = d.passed_long in omega arith) in
          here b (omega arith) (subst (λ (y : ℕ). leads rows y b ≡ true) s e)
      | inr m ↦ let o = get_or-set_other passed c x end 0 m in d.passed_taken x b lx (omega arith) e
    ];
    ready_is = d.ready_is;
    covered = d.covered;
    sorting = d.sorting;
  }
    where
      here : (b : ℕ) → b < end → leads rows c b ≡ true → is_in order (class_at classes b) ≡ true
      here b lb e = elim (cases_lt b (item passed c)) [
        | inl h ↦ d.passed_taken c b lc h e
        | inr h ↦
            let f = n.falls c b lc e in
            sym (d.marks (class_at classes b) (omega arith)) ∙ p b h lb e
      ]

  -- all targets of a component are taken
  pub all_found : (taken : List Bool) (passed : List ℕ) (waiting : List (List ℕ)) (ready order free : List ℕ) (c : ℕ) → AreNamedComponents rows names classes → c < length rows → IsSorting rows names classes taken passed waiting ready order free → ((b : ℕ) → item passed c ≤ b → leads rows c b ≡ true → is_taken taken (class_at classes b) ≡ true) → (b : ℕ) → leads rows c b ≡ true → is_in order (class_at classes b) ≡ true
  all_found taken passed waiting ready order free c n lc d p b e = elim (cases_lt b (item passed c)) [
    | inl h ↦ d.passed_taken c b lc h e
    | inr h ↦
        let f = n.falls c b lc e in
        sym (d.marks (class_at classes b) (omega arith)) ∙ p b h e
  ]

  -- a component waits for a target that is not taken
  module _ (taken : List Bool) (passed : List ℕ) (waiting : List (List ℕ)) (ready order free : List ℕ) (c target : ℕ) (lc : c < length rows) (lon : class_at classes target < length rows) (d : IsSorting rows names classes taken passed waiting ready order (c ∷ free)) where
    abbrev on : ℕ
    on = class_at classes target

    abbrev longer : List (List ℕ)
    longer = set waiting on (list_at waiting on ++ c ∷ [])

    own_list : list_at longer on ≡ list_at waiting on ++ c ∷ []
    own_list = get_or-set_same waiting on (list_at waiting on ++ c ∷ []) [] (let l = d.waiting_long in omega arith)

    kept_list : (x y : ℕ) → is_in (list_at waiting x) y ≡ true → is_in (list_at longer x) y ≡ true
    kept_list x y i = elim (cases_eq x on) [
      | inl s ↦ subst (λ (z : ℕ). is_in (list_at longer z) y ≡ true) (sym s) (subst (λ (zs : List ℕ). is_in zs y ≡ true) (sym own_list) (in_push_old (list_at waiting on) c y (subst (λ (z : ℕ). is_in (list_at waiting z) y ≡ true) s i)))
      | inr n ↦ subst (λ (zs : List ℕ). is_in zs y ≡ true) (sym (get_or-set_other waiting on x (list_at waiting on ++ c ∷ []) [] n)) i
    ]

    longer_below : (x y : ℕ) → is_in (list_at longer x) y ≡ true → y < length rows
    longer_below x y i = elim (cases_eq x on) [
      | inl s ↦ elim (in_push (list_at waiting on) c y (subst (λ (zs : List ℕ). is_in zs y ≡ true) own_list (subst (λ (z : ℕ). is_in (list_at longer z) y ≡ true) s i))) [
        | inl j ↦ d.waiting_below on y j
        | inr e ↦ omega arith
      ]
      | inr n ↦ d.waiting_below x y (subst (λ (zs : List ℕ). is_in zs y ≡ true) (get_or-set_other waiting on x (list_at waiting on ++ c ∷ []) [] n) i)
    ]

    pub waits_for : leads rows c target ≡ true → is_taken taken on ≡ false → IsSorting rows names classes taken passed longer ready order free
    waits_for needed un = record {
      taken_long = d.taken_long;
      passed_long = d.passed_long;
      waiting_long = length-set waiting on (list_at waiting on ++ c ∷ []) ∙ d.waiting_long;
      waiting_below = longer_below;
      marks = d.marks;
      order_below = d.order_below;
      passed_taken = d.passed_taken;
      ready_is = d.ready_is;
      covered = λ x lx e. elim (d.covered x lx e) [
        | inl r ↦ inl r
        | inr w ↦ elim w [
          | inl h ↦ inr (inl (record { target = h.target; among = kept_list (class_at classes h.target) x h.among; untaken = h.untaken; needed = h.needed }))
          | inr i ↦ elim (or_split (c == x) (is_in free x) i) [
            | inl s ↦ inr (inl (subst (λ (y : ℕ). Waits rows longer classes order y) (test_same c x s) (record { target = target; among = subst (λ (zs : List ℕ). is_in zs c ≡ true) (sym own_list) (in_push_new (list_at waiting on) c); untaken = sym (d.marks on lon) ∙ un; needed = needed })))
            | inr k ↦ inr (inr k)
          ]
        ]
      ];
      sorting = d.sorting;
    }

  -- a component is ready
  pub gets_ready : (taken : List Bool) (passed : List ℕ) (waiting : List (List ℕ)) (ready more order free : List ℕ) (c : ℕ) → c < length rows → IsSorting rows names classes taken passed waiting ready order (c ∷ free) → is_taken taken c ≡ false → ((b : ℕ) → leads rows c b ≡ true → is_in order (class_at classes b) ≡ true) → IsWith ready (item names c) more → IsSorting rows names classes taken passed waiting more order free
  gets_ready taken passed waiting ready more order free c lc d un all w =
      reordered taken passed waiting ready more order (c ∷ free) free d
      (λ k i. elim (w.only k i) [
        | inl s ↦ record { component = c; below = lc; name = sym s; untaken = sym (d.marks c lc) ∙ un; all = all }
        | inr j ↦ d.ready_is k j
      ])
      (λ x lx e. elim (d.covered x lx e) [
        | inl r ↦ inl (w.kept (item names x) r)
        | inr h ↦ elim h [
          | inl g ↦ inr (inl g)
          | inr i ↦ elim (or_split (c == x) (is_in free x) i) [
            | inl s ↦ let same = test_same c x s in inl (subst (λ (y : ℕ). is_in more (item names y) ≡ true) same w.added)
            | inr k ↦ inr (inr k)
          ]
        ]
      ])

  -- one more component is taken
  pub taken_push : (before xs : List ℕ) (c : ℕ) → AreTaken rows names classes before xs → IsTakenNext rows names classes (before ++ xs) c → AreTaken rows names classes before (xs ++ c ∷ [])
  taken_push before [] c a n = (subst (λ (ys : List ℕ). IsTakenNext rows names classes ys c) (append_nil before) n, tt)
    where
      append_nil : (ys : List ℕ) → ys ++ [] ≡ ys
      append_nil [] = refl
      append_nil (y ∷ ys) = ap (λ (zs : List ℕ). y ∷ zs) (append_nil ys)
  taken_push before (x ∷ xs) c a n = (a.0, taken_push (before ++ x ∷ []) xs c a.1 (subst (λ (ys : List ℕ). IsTakenNext rows names classes ys c) (moved before xs) n))
    where
      moved : (ys zs : List ℕ) → ys ++ x ∷ zs ≡ (ys ++ x ∷ []) ++ zs
      moved [] zs = refl
      moved (y ∷ ys) zs = ap (λ (ws : List ℕ). y ∷ ws) (moved ys zs)

  -- the component of the least name that is ready is taken, and those that waited for it are to be looked at
  module _ (taken : List Bool) (passed : List ℕ) (waiting : List (List ℕ)) (ready rest order : List ℕ) (k t : ℕ) (unnamed : (c d : ℕ) → c < length rows → d < length rows → item names c ≡ item names d → c ≡ d) (d : IsSorting rows names classes taken passed waiting ready order []) (first : IsFirst ready k rest) (lt : t < length rows) (named : item names t ≡ k) where
    abbrev r : IsReadyName rows names classes order k
    r = d.ready_is k first.among

    is_t : r.component ≡ t
    is_t = unnamed r.component t r.below lt (r.name ∙ sym named)

    untaken_t : is_in order t ≡ false
    untaken_t = subst (λ (x : ℕ). is_in order x ≡ false) is_t r.untaken

    all_t : (b : ℕ) → leads rows t b ≡ true → is_in order (class_at classes b) ≡ true
    all_t = subst (λ (x : ℕ). (b : ℕ) → leads rows x b ≡ true → is_in order (class_at classes b) ≡ true) is_t r.all

    abbrev marked : List Bool
    marked = set taken t true

    abbrev cleared : List (List ℕ)
    cleared = set waiting t []

    abbrev longer_order : List ℕ
    longer_order = order ++ t ∷ []

    still : (x : ℕ) → is_in longer_order x ≡ false → (is_in order x ≡ false) × (x ≡ t → ⊥)
    still x e = (
      not_true (is_in order x) (λ h. apart (is_in longer_order x) (in_push_old order t x h) e),
      λ s. apart (is_in longer_order t) (in_push_new order t) (subst (λ (y : ℕ). is_in longer_order y ≡ false) s e),
    )

    untaken_after : (x : ℕ) → is_in order x ≡ false → (x ≡ t → ⊥) → is_in longer_order x ≡ false
    untaken_after x e n = not_true (is_in longer_order x) (λ h. elim (in_push order t x h) [ inl i ↦ apart (is_in order x) i e | inr s ↦ n s ])

    next_least : (o : ℕ) → o < length rows → is_in order o ≡ false → ((b : ℕ) → leads rows o b ≡ true → is_in order (class_at classes b) ≡ true) → item names t ≤ item names o
    next_least o lo e all = elim (d.covered o lo e) [
      | inl i ↦ elim (first.rest (item names o) i) [
        | inl s ↦ omega arith
        | inr j ↦ let above = (first.others (item names o) j).1 in omega arith
      ]
      | inr h ↦ elim h [
        | inl w ↦ absurd (apart (is_in order (class_at classes w.target)) (all w.target w.needed) w.untaken)
        | inr i ↦ absurd (let f : false ≡ true = i in cc)
      ]
    ]

    pub taken_next : IsTakenNext rows names classes order t
    taken_next = record { below = lt; new = untaken_t; ready = all_t; least = next_least }

    marks_after : (x : ℕ) → x < length rows → is_taken marked x ≡ is_in longer_order x
    marks_after x lx = elim (cases_eq x t) [
      | inl s ↦ subst (λ (y : ℕ). is_taken marked y ≡ is_in longer_order y) (sym s) (get_or-set_same taken t true false (let l = d.taken_long in omega arith) ∙ sym (in_push_new order t))
      | inr n ↦ get_or-set_other taken t x true false n ∙ d.marks x lx ∙ by (is_in order x) refl n
    ]
      where
        by : (b : Bool) → is_in order x ≡ b → (x ≡ t → ⊥) → is_in order x ≡ is_in longer_order x
        by true e n = e ∙ sym (in_push_old order t x e)
        by false e n = e ∙ sym (untaken_after x e n)

    covered_after : (x : ℕ) → x < length rows → is_in longer_order x ≡ false → (is_in rest (item names x) ≡ true) ⊎ ((Waits rows cleared classes longer_order x) ⊎ (is_in (list_at waiting t) x ≡ true))
    covered_after x lx e =
        let s = still x e in
        elim (d.covered x lx s.0) [
          | inl i ↦ elim (first.rest (item names x) i) [
            | inl n ↦ absurd (s.1 (unnamed x t lx lt (n ∙ sym named)))
            | inr j ↦ inl j
          ]
          | inr h ↦ elim h [
            | inl w ↦ elim (cases_eq (class_at classes w.target) t) [
              | inl n ↦ inr (inr (subst (λ (y : ℕ). is_in (list_at waiting y) x ≡ true) n w.among))
              | inr n ↦ inr (inl (record { target = w.target; among = subst (λ (ys : List ℕ). is_in ys x ≡ true) (sym (get_or-set_other waiting t (class_at classes w.target) [] [] n)) w.among; untaken = untaken_after (class_at classes w.target) w.untaken n; needed = w.needed }))
            ]
            | inr i ↦ absurd (let f : false ≡ true = i in cc)
          ]
        ]

    cleared_below : (x y : ℕ) → is_in (list_at cleared x) y ≡ true → y < length rows
    cleared_below x y i = elim (cases_eq x t) [
      | inl s ↦
          let own = get_or-set_same waiting t [] [] (let l = d.waiting_long in omega arith) in
          let j : is_in [] y ≡ true = subst (λ (zs : List ℕ). is_in zs y ≡ true) own (subst (λ (z : ℕ). is_in (list_at cleared z) y ≡ true) s i) in
          absurd (let f : false ≡ true = j in cc)
      | inr n ↦ d.waiting_below x y (subst (λ (zs : List ℕ). is_in zs y ≡ true) (get_or-set_other waiting t x [] [] n) i)
    ]

    pub taken_one : IsSorting rows names classes marked passed cleared rest longer_order (list_at waiting t)
    taken_one = record {
      taken_long = length-set taken t true ∙ d.taken_long;
      passed_long = d.passed_long;
      waiting_long = length-set waiting t [] ∙ d.waiting_long;
      waiting_below = cleared_below;
      marks = marks_after;
      order_below = λ x i. elim (in_push order t x i) [ inl j ↦ d.order_below x j | inr s ↦ omega arith ];
      passed_taken = λ x b lx lb e. in_push_old order t (class_at classes b) (d.passed_taken x b lx lb e);
      ready_is = λ x i.
          let o = first.others x i in
          let y = d.ready_is x o.0 in
          record {
            component = y.component;
            below = y.below;
            name = y.name;
            all = λ b e. in_push_old order t (class_at classes b) (y.all b e);
            untaken = untaken_after y.component y.untaken (λ s.
                let same : item names y.component ≡ item names t = ap (item names) s in
                let n = y.name in let m = named in let a = o.1 in omega arith);
          };
      covered = covered_after;
      sorting = taken_push [] order t d.sorting taken_next;
    }

  -- with nothing ready and nothing to look at, all are taken
  all_below : (taken : List Bool) (passed : List ℕ) (waiting : List (List ℕ)) (order : List ℕ) → AreNamedComponents rows names classes → IsSorting rows names classes taken passed waiting [] order [] → (n c : ℕ) → c < n → c < length rows → is_in order c ≡ true
  all_below taken passed waiting order falls d zero c lt lc = absurd (omega arith)
  all_below taken passed waiting order falls d (suc n) c lt lc = elim (cases_Bool (is_in order c)) [
    | inl e ↦ e
    | inr e ↦ elim (d.covered c lc e) [
      | inl i ↦ absurd (let f : false ≡ true = i in cc)
      | inr h ↦ elim h [
        | inl w ↦
            let below = falls.falls c w.target lc w.needed in
            absurd (apart (is_in order (class_at classes w.target)) (all_below taken passed waiting order falls d n (class_at classes w.target) (omega arith) (omega arith)) w.untaken)
        | inr i ↦ absurd (let f : false ≡ true = i in cc)
      ]
    ]
  ]

  pub all_taken : (taken : List Bool) (passed : List ℕ) (waiting : List (List ℕ)) (order : List ℕ) → AreNamedComponents rows names classes → IsSorting rows names classes taken passed waiting [] order [] → IsTopologicalOrder rows names classes order
  all_taken taken passed waiting order falls d = record {
    taken = d.sorting;
    all = λ c lc. all_below taken passed waiting order falls d (suc c) c (omega arith) lc;
  }

  -- at the start all components are to be looked at
  pub sorting_start : IsSorting rows names classes (replicate (length rows) false) (replicate (length rows) 0) (replicate (length rows) []) [] [] (range (length rows))
  sorting_start = record {
    taken_long = length-replicate (length rows) false;
    passed_long = length-replicate (length rows) 0;
    waiting_long = length-replicate (length rows) [];
    waiting_below = λ on c i. absurd (let f : false ≡ true = subst (λ (zs : List ℕ). is_in zs c ≡ true) (get_or-replicate_default (length rows) [] on) i in cc);
    marks = λ c lc. get_or-replicate_default (length rows) false c;
    order_below = λ c i. absurd (let f : false ≡ true = i in cc);
    passed_taken = λ c b lc lb e. let z : item (replicate (length rows) 0) c ≡ 0 = get_or-replicate_default (length rows) 0 c in absurd (omega arith);
    ready_is = λ k i. absurd (let f : false ≡ true = i in cc);
    covered = λ c lc e. inr (inr (among_in (range (length rows)) c (among_range (length rows) 0 c (omega arith) (omega arith))));
    sorting = tt;
  }

fewer : (x y : ℕ) (b : Bool) → b ≡ false → x + cond (not b) 1 0 ≡ y + 0 → x < y
fewer x y true e s = cc
fewer x y false e s = omega arith

-- the measure of the sorting falls
pub fewer_untaken : (taken : List Bool) (t : ℕ) → t < length taken → is_taken taken t ≡ false → count_by not (set taken t true) < count_by not taken
fewer_untaken taken t lt e =
    fewer (count_by not (set taken t true)) (count_by not taken) (is_taken taken t) e (sum_by-set (λ (b : Bool). cond (not b) 1 0) taken t true false lt)

-- the component of a ready name
pub component_named : (rows : List (List ℕ)) (names classes order : List ℕ) (k : ℕ) → AreNamedComponents rows names classes → IsReadyName rows names classes order k → (class_at classes k < length rows) × (item names (class_at classes k) ≡ k) × (is_in order (class_at classes k) ≡ false) × (k < length classes)
component_named rows names classes order k named r =
    let m = named.members r.component r.below in
    let is : class_at classes k ≡ r.component = ap (class_at classes) (sym r.name) ∙ m.1 in (
      subst (λ (x : ℕ). x < length rows) (sym is) r.below,
      ap (item names) is ∙ r.name,
      subst (λ (x : ℕ). is_in order x ≡ false) (sym is) r.untaken,
      subst (λ (x : ℕ). x < length classes) r.name m.0,
    )

-- taken components are components
pub taken_below : (rows : List (List ℕ)) (names classes before xs : List ℕ) → AreTaken rows names classes before xs → AllByRecursion (λ c. c < length rows) xs
taken_below rows names classes before [] d = tt
taken_below rows names classes before (c ∷ xs) d = (d.0.below, taken_below rows names classes (before ++ c ∷ []) xs d.1)
