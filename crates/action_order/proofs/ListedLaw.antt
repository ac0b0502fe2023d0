use Rattle.std.proofs.Common.{arith, ◌≡◌, ◌==◌, ℕ, zero, suc, ◌+◌, ◌<◌, ◌≤◌, List, [], ◌∷◌, ◌++◌, map, length, Bool, true, false, refl, sym, ap, ◌∙◌, subst, ◌⊎◌, inl, inr}
use Rattle.std.specs.List.{AllByRecursion}
use Rattle.std.proofs.lemmas.Bool.{cases_eq}
use Rattle.gt_core.specs.Literal.{is_in, range, range_from}
use Rattle.gt_core.specs.Published.{Reaches, here, along, IsMutual, IsComponent, IsReady, IsNext, IsListed, Pairwise}
use Rattle.gt_core.proofs.published.Basics.{Among, each_at, each_from, not_true, or_left, or_right, or_split, same_test, test_same, apart}
use Rattle.gt_core.proofs.published.Literals.{in_among, among_in, in_split, in_left, in_right, among_range, below_range}
use Rattle.gt_core.proofs.published.Pairwise.{pairwise_filter, filtered, into_filter}
use Rattle.action_order.specs.own.Graph.{leads, item, class_at, IsGraph, IsClassed}
use Rattle.action_order.specs.own.Quotient.{IsQuotient, AreNames}
use Rattle.action_order.specs.own.Sorting.{IsTakenNext, AreTaken, IsTopologicalOrder}
use Rattle.std.specs.Prelude.{if◌then◌else◌}
use Rattle.action_order.specs.Order.{name_in}
use Rattle.action_order.specs.own.Group.{members, listed}
use Rattle.action_order.proofs.published.Lists.{in_push, in_push_new, in_push_old}

-- The sorted components are the published order of the graph.

from_first : (n first : ℕ) → AllByRecursion (λ b. first ≤ b) (range_from first n)
from_first n first = each_from _ (range_from first n) (λ b i. at_least n first b i)
  where
    at_least : (n first b : ℕ) → Among b (range_from first n) → first ≤ b
    at_least zero first b i = absurd i
    at_least (suc n) first b (inl e) = omega arith
    at_least (suc n) first b (inr i) = let h = at_least n (first + 1) b i in omega arith

range_rising : (n first : ℕ) → Pairwise (λ a b. a < b) (range_from first n)
range_rising zero first = tt
range_rising (suc n) first =
    (each_from _ (range_from (first + 1) n) (λ b i. let h = each_at (λ b. first + 1 ≤ b) (range_from (first + 1) n) b (from_first n (first + 1)) i in omega arith), range_rising n (first + 1))

module _ (targets : List (List ℕ)) (classes roots : List ℕ) (rows : List (List ℕ)) (names : List ℕ) (graph : IsGraph targets) (classed : IsClassed targets classes roots) (q : IsQuotient targets classes (length roots) rows) (named : AreNames classes (length roots) (length classes) names) where
  abbrev edge : ℕ → ℕ → Bool
  edge = leads targets

  abbrev vertices : List ℕ
  vertices = range (length targets)

  target_below : (a b : ℕ) → a < length targets → edge a b ≡ true → b < length targets
  target_below a b lt e = graph a b e

  -- along a path the numbers of the components do not rise
  path_falls : (a b : ℕ) → a < length targets → Reaches edge a b → class_at classes b ≤ class_at classes a
  path_falls a b lt (here x) = omega arith
  path_falls a b lt (along x y z e p) =
      let ly = target_below a y lt e in
      let f = classed.falls a y lt ly e in
      let r = path_falls y b ly p in omega arith

  same_class : (a b : ℕ) → a < length targets → b < length targets → IsMutual edge a b → class_at classes b ≡ class_at classes a
  same_class a b la lb m = let f = path_falls a b la m.there in let g = path_falls b a lb m.back in omega arith

  in_vertices : (a : ℕ) → a < length targets → is_in vertices a ≡ true
  in_vertices a lt = among_in vertices a (among_range (length targets) 0 a (omega arith) (omega arith))

  vertex_below : (a : ℕ) → is_in vertices a ≡ true → a < length targets
  vertex_below a i = below_range (length targets) a (in_among vertices a i)

  member_of : (c a : ℕ) → is_in (members classes c) a ≡ true → (a < length targets) × (class_at classes a ≡ c)
  member_of c a i =
      let p = filtered (λ x. class_at classes x == c) (range (length classes)) a (in_among _ a i) in
      let l = classed.long in
      (let b = below_range (length classes) a p.0 in omega arith, test_same (class_at classes a) c p.1)

  is_member : (c a : ℕ) → a < length targets → class_at classes a ≡ c → is_in (members classes c) a ≡ true
  is_member c a lt e =
      let l = classed.long in
      among_in _ a (into_filter (λ x. class_at classes x == c) (range (length classes)) a (among_range (length classes) 0 a (omega arith) (omega arith)) (same_test (class_at classes a) c e))

  members_rising : (c : ℕ) → Pairwise (λ a b. a < b) (members classes c)
  members_rising c = pairwise_filter (λ x. class_at classes x == c) (λ a b. a < b) (λ a b. a < b) (range (length classes)) (λ a b x y h. h) (range_rising (length classes) 0)

  component : (c : ℕ) → IsComponent edge vertices (members classes c)
  component c = record {
    of_actions = λ a i. in_vertices a (member_of c a i).0;
    each_way = λ a b i j.
        let x = member_of c a i in
        let y = member_of c b j in
        record { there = classed.connected a b x.0 y.0 (x.1 ∙ sym y.1); back = classed.connected b a y.0 x.0 (y.1 ∙ sym x.1) };
    whole = λ a b i j m. let x = member_of c a i in is_member c b (vertex_below b j) (same_class a b x.0 (vertex_below b j) m ∙ x.1);
    rising = members_rising c;
  }

  -- a component's members begin with its name
  record Named (c : ℕ) : Type 0 where
    others : List ℕ
    is : members classes c ≡ item names c ∷ others

  named_by : (c : ℕ) → c < length roots → (ks : List ℕ) → members classes c ≡ ks → Named c
  named_by c lc [] e =
      let m = named.member c lc in
      let l = classed.long in
      let i : is_in [] (item names c) ≡ true = subst (λ (xs : List ℕ). is_in xs (item names c) ≡ true) e (is_member c (item names c) (let b = m.0 in omega arith) m.1) in
      absurd (let f : false ≡ true = i in cc)
  named_by c lc (k ∷ ks) e =
      let m = named.member c lc in
      let l = classed.long in
      let i : is_in (k ∷ ks) (item names c) ≡ true = subst (λ (xs : List ℕ). is_in xs (item names c) ≡ true) e (is_member c (item names c) (let b = m.0 in omega arith) m.1) in
      let own = member_of c k (subst (λ (xs : List ℕ). is_in xs k ≡ true) (sym e) (or_left (k == k) (is_in ks k) (same_test k k refl))) in
      let down : item names c ≤ k = subst (λ (x : ℕ). item names x ≤ k) own.1 (named.least k (let b = own.0 in omega arith)) in
      let r : Pairwise (λ a b. a < b) (k ∷ ks) = subst (λ (xs : List ℕ). Pairwise (λ a b. a < b) xs) e (members_rising c) in
      let up : k ≤ item names c = elim (or_split (k == item names c) (is_in ks (item names c)) i) [
        | inl s ↦ let t = test_same k (item names c) s in omega arith
        | inr j ↦ let t = each_at (λ b. k < b) ks (item names c) r.0 (in_among ks (item names c) j) in omega arith
      ] in
      let same : k ≡ item names c = omega arith in
      record { others = ks; is = e ∙ ap (λ (x : ℕ). x ∷ ks) same }

  named_list : (c : ℕ) → c < length roots → Named c
  named_list c lc = named_by c lc (members classes c) refl

  -- the actions that were taken are those of the components that were
  record Agrees (taken before : List ℕ) : Type 0 where
    component_too : (a : ℕ) → a < length targets → is_in taken a ≡ true → is_in before (class_at classes a) ≡ true
    taken_too : (a : ℕ) → a < length targets → is_in before (class_at classes a) ≡ true → is_in taken a ≡ true

  agrees_more : (taken before ks : List ℕ) (c : ℕ) → members classes c ≡ ks → Agrees taken before → Agrees (taken ++ ks) (before ++ c ∷ [])
  agrees_more taken before ks c e g = record {
    component_too = λ a lt i. elim (in_split taken ks a i) [
      | inl j ↦ in_push_old before c (class_at classes a) (g.component_too a lt j)
      | inr j ↦ let m = member_of c a (subst (λ (xs : List ℕ). is_in xs a ≡ true) (sym e) j) in
          subst (λ (x : ℕ). is_in (before ++ c ∷ []) x ≡ true) (sym m.1) (in_push_new before c)
    ];
    taken_too = λ a lt i. elim (in_push before c (class_at classes a) i) [
      | inl j ↦ in_left taken ks a (g.taken_too a lt j)
      | inr s ↦ in_right taken ks a (subst (λ (xs : List ℕ). is_in xs a ≡ true) e (is_member c a lt s))
    ];
  }

  next_component : (taken before : List ℕ) (c : ℕ) → Agrees taken before → IsTakenNext rows names classes before c → (n : Named c) → IsNext edge vertices taken (item names c) n.others
  next_component taken before c g d n = record {
    component = subst (λ (xs : List ℕ). IsComponent edge vertices xs) n.is (component c);
    new = not_true (is_in taken (item names c)) (λ h. apart (is_in before c) (subst (λ (x : ℕ). is_in before x ≡ true) name_class (g.component_too (item names c) name_below h)) d.new);
    ready = λ a b i j e. ready_for a b (member_of c a (subst (λ (xs : List ℕ). is_in xs a ≡ true) (sym n.is) i)) (vertex_below b j) e (cases_eq (class_at classes b) c);
    least = λ other ls lt k none ready. no_lesser other ls lt k none ready;
  }
    where
      below : c < length roots
      below = let l = q.long in let b = d.below in omega arith

      name_below : item names c < length targets
      name_below = let l = classed.long in let b = (named.member c below).0 in omega arith

      name_class : class_at classes (item names c) ≡ c
      name_class = (named.member c below).1

      ready_for : (a b : ℕ) → (a < length targets) × (class_at classes a ≡ c) → b < length targets → edge a b ≡ true → (class_at classes b ≡ c) ⊎ (class_at classes b ≡ c → ⊥) → (is_in (item names c ∷ n.others) b ≡ true) ⊎ (is_in taken b ≡ true)
      ready_for a b m lb e (inl s) = inl (subst (λ (xs : List ℕ). is_in xs b ≡ true) n.is (is_member c b lb s))
      ready_for a b m lb e (inr ne) =
          let t : leads rows (class_at classes a) b ≡ true = q.complete a b m.0 e (λ s. ne (s ∙ m.1)) in
          inr (g.taken_too b lb (d.ready b (subst (λ (x : ℕ). leads rows x b ≡ true) m.1 t)))

      no_lesser : (other : ℕ) (ls : List ℕ) → other < item names c → IsComponent edge vertices (other ∷ ls) → is_in taken other ≡ false → IsReady edge vertices taken (other ∷ ls) → ⊥
      no_lesser other ls lt k none ready =
          let first : is_in (other ∷ ls) other ≡ true = or_left (other == other) (is_in ls other) (same_test other other refl) in
          let lo = vertex_below other (k.of_actions other first) in
          let o = class_at classes other in
          let l = classed.long in
          let o_below : o < length rows = let b = classed.below other lo in let x = q.long in omega arith in
          let o_new : is_in before o ≡ false = not_true (is_in before o) (λ h. apart (is_in taken other) (g.taken_too other lo h) none) in
          let o_ready : (b : ℕ) → leads rows o b ≡ true → is_in before (class_at classes b) ≡ true = λ b e.
          let s = q.sound o b e in
          let cross = s.0 in
          let lb = graph cross.source b cross.edge in
          let member : is_in (other ∷ ls) cross.source ≡ true = k.whole other cross.source first (in_vertices cross.source cross.source_below) (record {
            there = classed.connected other cross.source lo cross.source_below (sym cross.source_class);
            back = classed.connected cross.source other cross.source_below lo cross.source_class;
          }) in
          elim (ready cross.source b member (in_vertices b lb) cross.edge) [
            | inl i ↦ absurd (s.1 (same_class other b lo lb (k.each_way other b first i)))
            | inr i ↦ g.component_too b lb i
          ] in
          let le = d.least o o_below o_new o_ready in
          let down : item names o ≤ other = named.least other (omega arith) in
          omega arith

  listed_from : (after before taken : List ℕ) → AreTaken rows names classes before after → ((c : ℕ) → c < length rows → is_in (before ++ after) c ≡ true) → Agrees taken before → IsListed edge vertices taken (map (members classes) after)
  listed_from [] before taken d all g = λ a i.
      let lt = vertex_below a i in
      let c = class_at classes a in
      let lc : c < length rows = let b = classed.below a lt in let l = q.long in omega arith in
      elim (in_split before [] c (all c lc)) [
        | inl j ↦ g.taken_too a lt j
        | inr j ↦ absurd (let f : false ≡ true = j in cc)
      ]
  listed_from (c ∷ after) before taken d all g =
      let n = named_list c (let l = q.long in let b = d.0.below in omega arith) in
      let more : IsListed edge vertices (taken ++ item names c ∷ n.others) (map (members classes) after) =
      listed_from after (before ++ c ∷ []) (taken ++ item names c ∷ n.others) d.1 (λ x lx. subst (λ (xs : List ℕ). is_in xs x ≡ true) (moved before) (all x lx)) (agrees_more taken before (item names c ∷ n.others) c n.is g) in
      subst (λ (xs : List ℕ). IsListed edge vertices taken (xs ∷ map (members classes) after)) (sym n.is) (next_component taken before c g d.0 n, more)
    where
      moved : (ys : List ℕ) → ys ++ c ∷ after ≡ (ys ++ c ∷ []) ++ after
      moved [] = refl
      moved (y ∷ ys) = ap (λ (ws : List ℕ). y ∷ ws) (moved ys)

  pub is_listed : (order : List ℕ) → IsTopologicalOrder rows names classes order → IsListed edge vertices [] (listed classes order)
  is_listed order d = listed_from order [] [] d.taken d.all (record { component_too = λ a lt i. absurd (let f : false ≡ true = i in cc); taken_too = λ a lt i. absurd (let f : false ≡ true = i in cc) })

  name_first : (order : List ℕ) (c a : ℕ) → a < length targets → (n : Named c) → (class_at classes a ≡ c) ⊎ (class_at classes a ≡ c → ⊥) → (((class_at classes a ≡ c) → ⊥) → name_in (listed classes order) a ≡ item names (class_at classes a)) → name_in ((item names c ∷ n.others) ∷ listed classes order) a ≡ item names (class_at classes a)
  name_first order c a lt n (inl s) h =
      let i : is_in (item names c ∷ n.others) a ≡ true = subst (λ (xs : List ℕ). is_in xs a ≡ true) n.is (is_member c a lt s) in
      chosen (is_in (item names c ∷ n.others) a) (item names c) (name_in (listed classes order) a) i ∙ ap (item names) (sym s)
    where
      chosen : (b : Bool) (x y : ℕ) → b ≡ true → (if b then x else y) ≡ x
      chosen true x y e = refl
      chosen false x y e = cc
  name_first order c a lt n (inr s) h =
      let i : is_in (item names c ∷ n.others) a ≡ false = not_true _ (λ j. s (member_of c a (subst (λ (xs : List ℕ). is_in xs a ≡ true) (sym n.is) j)).1) in
      passed (is_in (item names c ∷ n.others) a) (item names c) (name_in (listed classes order) a) i ∙ h s
    where
      passed : (b : Bool) (x y : ℕ) → b ≡ false → (if b then x else y) ≡ y
      passed true x y e = cc
      passed false x y e = refl

  -- the name of an action's component, from the numbers
  pub name_listed : (order : List ℕ) (a : ℕ) → a < length targets → ((c : ℕ) → is_in order c ≡ true → c < length roots) → is_in order (class_at classes a) ≡ true → name_in (listed classes order) a ≡ item names (class_at classes a)
  name_listed [] a lt below i = absurd (let f : false ≡ true = i in cc)
  name_listed (c ∷ order) a lt below i =
      let n = named_list c (below c (or_left (c == c) (is_in order c) (same_test c c refl))) in
      subst (λ (xs : List ℕ). name_in (xs ∷ listed classes order) a ≡ item names (class_at classes a)) (sym n.is)
      (name_first order c a lt n (cases_eq (class_at classes a) c) (λ s. name_listed order a lt (λ x j. below x (or_right (c == x) (is_in order x) j)) (elim (or_split (c == class_at classes a) (is_in order (class_at classes a)) i) [
        | inl e ↦ absurd (s (sym (test_same c (class_at classes a) e)))
        | inr j ↦ j
      ])))

-- a name by the number of its component
pub name_item : (names classes : List ℕ) (a : ℕ) → a < length classes → item (map (item names) classes) a ≡ item names (class_at classes a)
name_item names [] a lt = absurd (omega arith)
name_item names (c ∷ classes) zero lt = refl
name_item names (c ∷ classes) (suc a) lt = name_item names classes a (omega arith)
