use Rattle.std.proofs.Common.{arith, ◌≡◌, ◌+◌, ◌*◌, ◌≤◌, ◌<◌, ℕ, List, [], ◌∷◌, ◌++◌, length, Bool, true, false, ◌&&◌, ◌||◌, refl, sym, ap, ◌∙◌, if◌then◌else◌, cond, count_by, drop, get_or, nat_lt}
use Rattle.std.specs.List.{list_any}
use Rattle.std.proofs.lemmas.List.{drop_more, append_assoc}
use Rattle.std.proofs.lemmas.List.Sums.{sum_by-cons}
use Rattle.std.proofs.lemmas.Bool.Decides.{nat_tests}
use Rattle.formula_defs.specs.Clause.{Literal, Is, Not}
use Rattle.formula_defs.specs.Coded.{coded}
use Rattle.formula_defs.proofs.published.CodedLaw.{coded-append}
use Rattle.step_chains.specs.declared.link.Link.{Link}
use Rattle.step_chains.specs.declared.walk.Walk.{Walk}
use Rattle.step_chains.specs.own.Links.{link_count, enter_links, pass_links, is_read, link_size}
use Rattle.step_chains.specs.own.Walk.{StandsBefore, IsAfter}
use Rattle.step_chains.proofs.LinkLaw.{left_counts}

-- A walk along the links of a chain: what is seen, the next variable, and how many readers are left.

abbrev pub readers : List Link → ℕ
readers ks = count_by (λ k. k.reads) ks

readers-cons : (k : Link) (ks : List Link) → readers (k ∷ ks) ≡ cond k.reads 1 0 + readers ks
readers-cons k ks = sum_by-cons (λ x. cond x.reads 1 0) k ks

some_left_by : (r : Bool) (n : ℕ) (more : Bool) → nat_lt 0 n ≡ more → nat_lt 0 (cond r 1 0 + n) ≡ (r || more)
some_left_by true n more e = grind (arith, nat_tests)
some_left_by false n more e = let z : 0 + n ≡ n = omega arith in ap (nat_lt 0) z ∙ e

-- a reader is left where their number is not 0
some_left : (ks : List Link) → nat_lt 0 (readers ks) ≡ list_any (λ k. k.reads) ks
some_left [] = refl
some_left (k ∷ ks) = ap (nat_lt 0) (readers-cons k ks) ∙ some_left_by k.reads (readers ks) (list_any (λ x. x.reads) ks) (some_left ks)

-- one link of a walk, with the links after it
pub record IsAt (links : List Link) (i : ℕ) (k : Link) : Type 0 where
  pub here : drop i links ≡ k ∷ drop (i + 1) links

pub at : (links items : List Link) (i : ℕ) (d k : Link) → items ≡ links → i < length items → k ≡ get_or items i d → IsAt links i k
at links items i d k e lt is = record {
  here = drop_more links i d (rw e at lt) ∙ ap (λ (x : Link). x ∷ drop (i + 1) links) (ap (λ (xs : List Link). get_or xs i d) (sym e) ∙ sym is);
}

pub left_next : (links : List Link) (i : ℕ) (k : Link) (left after : ℕ) → IsAt links i k → left ≡ readers (drop i links) → (if k.reads then 1 else 0) + after ≡ left → after ≡ readers (drop (i + 1) links)
left_next links i k left after is e f = by k.reads (f ∙ e ∙ ap readers is.here ∙ readers-cons k (drop (i + 1) links))
  where
    by : (r : Bool) → (if r then 1 else 0) + after ≡ cond r 1 0 + readers (drop (i + 1) links) → after ≡ readers (drop (i + 1) links)
    by true h = omega (arith, h)
    by false h = omega (arith, h)

pub count_next :
    (links : List Link) (i : ℕ) (k : Link) (seen : Bool) (next most : ℕ) → IsAt links i k → next + link_count seen (drop i links) ≤ most
    → (if seen && k.reads then next + 1 else next) + link_count (seen || k.takes) (drop (i + 1) links) ≤ most
count_next links i k seen next most is le = by (seen && k.reads) (link_count (seen || k.takes) (drop (i + 1) links)) (rw is.here at le)
  where
    by : (b : Bool) (n : ℕ) → next + ((if b then 1 else 0) + n) ≤ most → (if b then next + 1 else next) + n ≤ most
    by true n h = omega (arith, h)
    by false n h = omega (arith, h)

-- what a walk knows once it has passed a link
pub record Walked (links : List Link) (i : ℕ) (k : Link) (v : Walk) (most : ℕ) : Type 0 where
  pub is : IsAt links i k
  pub stands : StandsBefore most (drop (i + 1) links) v

pub walked :
    (links items : List Link) (i : ℕ) (d k : Link) (w v : Walk) (most : ℕ) → items ≡ links → i < length items → k ≡ get_or items i d
    → StandsBefore most (drop i links) w → IsAfter k w v → Walked links i k v most
walked links items i d k w v most e lt got s f =
    let is = at links items i d k e lt got in
    record { is = is; stands = (left_next links i k w.left v.left is s.0 f.2, rw (f.1, f.0) (count_next links i k w.seen w.next most is s.1)) }

-- where a taker was seen and a reader is left, a variable is left
pub variable_left : (ks : List Link) (v : Walk) (most : ℕ) → v.seen ≡ true → StandsBefore most ks v → nat_lt 0 v.left ≡ true → v.next < most
variable_left ks v most seen s t =
    let c = left_counts ks (sym (some_left ks) ∙ ap (nat_lt 0) (sym s.0) ∙ t) in
    let h : v.next + link_count true ks ≤ most = rw seen at s.1 in
    omega (arith, c, h)

pub append_coded : (before : List (List ℕ)) (xs ys : List (List Literal)) → before ++ coded (xs ++ ys) ≡ (before ++ coded xs) ++ coded ys
append_coded before xs ys = ap (λ (cs : List (List ℕ)). before ++ cs) (coded-append xs ys) ∙ sym (append_assoc before (coded xs) (coded ys))

-- the clauses of one link come first
one_next :
    (links : List Link) (i left : ℕ) (before after : List (List ℕ)) (whole : List (List Literal)) (one : Bool → List (List Literal)) (rest : List (List Literal))
    → left ≡ readers (drop (i + 1) links) → whole ≡ one (list_any (λ k. k.reads) (drop (i + 1) links)) ++ rest
    → after ≡ before ++ coded (one (nat_lt 0 left)) → before ++ coded whole ≡ after ++ coded rest
one_next links i left before after whole one rest e w a =
    ap (λ (cs : List (List Literal)). before ++ coded cs) w
    ∙ ap (λ (b : Bool). before ++ coded (one b ++ rest)) (sym (some_left (drop (i + 1) links)) ∙ ap (nat_lt 0) (sym e))
    ∙ append_coded before (one (nat_lt 0 left)) rest
    ∙ ap (λ (cs : List (List ℕ)). cs ++ coded rest) (sym a)

module _ (act var : ℕ → ℕ) where
  pub enter_next :
      (links : List Link) (i : ℕ) (k : Link) (w v : Walk) (most : ℕ) (before after : List (List ℕ)) → IsAfter k w v → Walked links i k v most
      → after ≡ before ++ coded (if k.takes then (if nat_lt 0 v.left then (Not (act k.action) ∷ Is (var v.next) ∷ []) ∷ [] else []) else [])
      → before ++ coded (enter_links act var w.seen w.next (drop i links)) ≡ after ++ coded (enter_links act var v.seen v.next (drop (i + 1) links))
  enter_next links i k w v most before after f is a =
      let j = if w.seen && k.reads then w.next + 1 else w.next in
      let a' = rw f.1 at a in
      rw (f.1, f.0) (one_next links i v.left before after (enter_links act var w.seen w.next (drop i links))
      (λ b. if k.takes then (if b then (Not (act k.action) ∷ Is (var j) ∷ []) ∷ [] else []) else [])
      (enter_links act var (w.seen || k.takes) j (drop (i + 1) links)) is.stands.0 (ap (enter_links act var w.seen w.next) is.is.here) a')

  pub pass_next :
      (links : List Link) (i : ℕ) (k : Link) (w v : Walk) (most : ℕ) (before after : List (List ℕ)) → IsAfter k w v → Walked links i k v most
      → after ≡ before ++ coded (if w.seen && k.reads then (Not (var w.next) ∷ Not (act k.action) ∷ []) ∷ (if nat_lt 0 v.left then (Not (var w.next) ∷ Is (var (w.next + 1)) ∷ []) ∷ [] else []) else [])
      → before ++ coded (pass_links act var w.seen w.next (drop i links)) ≡ after ++ coded (pass_links act var v.seen v.next (drop (i + 1) links))
  pass_next links i k w v most before after f is a =
      rw (f.1, f.0) (one_next links i v.left before after (pass_links act var w.seen w.next (drop i links))
      (λ b. if w.seen && k.reads then (Not (var w.next) ∷ Not (act k.action) ∷ []) ∷ (if b then (Not (var w.next) ∷ Is (var (w.next + 1)) ∷ []) ∷ [] else []) else [])
      (pass_links act var (w.seen || k.takes) (if w.seen && k.reads then w.next + 1 else w.next) (drop (i + 1) links)) is.stands.0 (ap (pass_links act var w.seen w.next) is.is.here) a)

-- the literals of one link's clauses come first
pub size_next :
    (links : List Link) (i : ℕ) (k : Link) (seen : Bool) (size left one : ℕ) (after : Bool) → IsAt links i k → left ≡ readers (drop (i + 1) links)
    → one ≡ (if k.takes && nat_lt 0 left then 2 else 0) + (if seen && k.reads then (if nat_lt 0 left then 4 else 2) else 0)
    → after ≡ (seen || k.takes)
    → size + link_size seen (drop i links) ≡ size + one + link_size after (drop (i + 1) links)
size_next links i k seen size left one after is e o a =
    let r = is_read (drop (i + 1) links) in
    let read : nat_lt 0 left ≡ is_read (drop (i + 1) links) = ap (nat_lt 0) e ∙ some_left (drop (i + 1) links) in
    let h = ap (link_size seen) is.here in
    let o2 = o ∙ ap (λ (b : Bool). (if k.takes && b then 2 else 0) + (if seen && k.reads then (if b then 4 else 2) else 0)) read in
    let l = ap (λ (b : Bool). link_size b (drop (i + 1) links)) a in
    omega (arith, h, o2, l)

pub size_small : (size one i : ℕ) → size ≤ 6 * i → one ≤ 6 → size + one ≤ 6 * (i + 1)
size_small size one i h g = omega (arith, h, g)
