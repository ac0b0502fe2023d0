use Rattle.std.proofs.Common.{arith, ◌≡◌, ◌+◌, ◌≤◌, ℕ, zero, suc, List, [], ◌∷◌, ◌++◌, Bool, true, false, ◌&&◌, ◌||◌, refl, sym, ◌∙◌, if◌then◌else◌}
use Rattle.std.specs.List.{list_any}
use Rattle.gt_core.specs.Interference.{takes, reads}
use Rattle.gt_core.specs.Task.{Task}
use Rattle.formula_defs.specs.Clause.{Literal, Is, Not}
use Rattle.formula_defs.specs.Chain.{chain_length, if_read, enter_clauses, pass_clauses}
use Rattle.step_chains.specs.declared.link.Link.{Link}
use Rattle.step_chains.specs.own.Touching.{links_of}
use Rattle.step_chains.specs.own.Links.{link_count, enter_links, pass_links}

-- A chain over the members that touch its literal is the chain over all members.

abbrev Put : ℕ → Bool → Bool → List Link → List Link
Put a t r ks = if t || r then record { action = a; takes = t; reads = r } ∷ ks else ks

count_by : (a : ℕ) (ks : List Link) (all : Bool → ℕ) → ((s : Bool) → link_count s ks ≡ all s) → (seen t r : Bool) → link_count seen (Put a t r ks) ≡ (if seen && r then 1 else 0) + all (seen || t)
count_by a ks all ih true true true = let h = ih true in omega (arith, h)
count_by a ks all ih true true false = let h = ih true in omega (arith, h)
count_by a ks all ih true false true = let h = ih true in omega (arith, h)
count_by a ks all ih true false false = let h = ih true in omega (arith, h)
count_by a ks all ih false true true = let h = ih true in omega (arith, h)
count_by a ks all ih false true false = let h = ih true in omega (arith, h)
count_by a ks all ih false false true = let h = ih false in omega (arith, h)
count_by a ks all ih false false false = let h = ih false in omega (arith, h)

pub count_is : (task : Task) (m : ℕ) (seen : Bool) (members : List ℕ) → link_count seen (links_of task m members) ≡ chain_length (takes task m) (reads task m) seen members
count_is task m seen [] = refl
count_is task m seen (a ∷ members) =
    count_by a (links_of task m members) (λ s. chain_length (takes task m) (reads task m) s members) (λ s. count_is task m s members) seen (takes task m a) (reads task m a)

left_by : (a : ℕ) (ks : List Link) (all : Bool) → list_any (λ k. k.reads) ks ≡ all → (t r : Bool) → list_any (λ k. k.reads) (Put a t r ks) ≡ (r || all)
left_by a ks all e true true = refl
left_by a ks all e true false = e
left_by a ks all e false true = refl
left_by a ks all e false false = e

left_is : (task : Task) (m : ℕ) (members : List ℕ) → list_any (λ k. k.reads) (links_of task m members) ≡ list_any (reads task m) members
left_is task m [] = refl
left_is task m (a ∷ members) = left_by a (links_of task m members) (list_any (reads task m) members) (left_is task m members) (takes task m a) (reads task m a)

-- the clauses of one member, by whether a taker was seen, whether it takes and reads the literal, the next variable, and
-- whether a reader is left
abbrev One : Type 0
One = ℕ → Bool → Bool → Bool → ℕ → Bool → List (List Literal)

-- The clauses of a walk begin with those of its first member.
record Begins {A : Type 0} (one : One) (number : A → ℕ) (take read : A → Bool) (all : Bool → ℕ → List A → List (List Literal)) : Type 0 where
  none : (seen : Bool) (i : ℕ) → all seen i [] ≡ []
  some : (seen : Bool) (i : ℕ) (k : A) (ks : List A) → all seen i (k ∷ ks) ≡ one (number k) seen (take k) (read k) i (list_any read ks) ++ all (seen || take k) (if seen && read k then i + 1 else i) ks

module _ (one : One) (idle : (a : ℕ) (seen : Bool) (i : ℕ) (left : Bool) → one a seen false false i left ≡ []) (over : Bool → ℕ → List Link → List (List Literal)) (begins : Begins one (λ k. k.action) (λ k. k.takes) (λ k. k.reads) over) where
  -- where a member's link is put before the others, the clauses begin with its own
  put_by :
      (a : ℕ) (ks : List Link) (left : Bool) (all : Bool → ℕ → List (List Literal))
      → list_any (λ k. k.reads) ks ≡ left → ((s : Bool) (j : ℕ) → over s j ks ≡ all s j)
      → (seen t r : Bool) (i : ℕ) → over seen i (Put a t r ks) ≡ one a seen t r i left ++ all (seen || t) (if seen && r then i + 1 else i)
  put_by a ks left all e ih seen true r i = begins.some seen i (record { action = a; takes = true; reads = r }) ks ∙ rw (e, ih (seen || true) (if seen && r then i + 1 else i)) refl
  put_by a ks left all e ih seen false true i = begins.some seen i (record { action = a; takes = false; reads = true }) ks ∙ rw (e, ih (seen || false) (if seen && true then i + 1 else i)) refl
  put_by a ks left all e ih true false false i = rw (idle a true i left) (ih true i)
  put_by a ks left all e ih false false false i = rw (idle a false i left) (ih false i)

  links_is :
      (task : Task) (m : ℕ) (all : Bool → ℕ → List ℕ → List (List Literal)) → Begins one (λ a. a) (takes task m) (reads task m) all
      → (seen : Bool) (i : ℕ) (members : List ℕ) → over seen i (links_of task m members) ≡ all seen i members
  links_is task m all is seen i [] = begins.none seen i ∙ sym (is.none seen i)
  links_is task m all is seen i (a ∷ members) =
      put_by a (links_of task m members) (list_any (reads task m) members) (λ s j. all s j members)
      (left_is task m members) (λ s j. links_is task m all is s j members) seen (takes task m a) (reads task m a) i
      ∙ sym (is.some seen i a members)

module _ (act var : ℕ → ℕ) where
  abbrev Entered : One
  Entered a seen t r i left = if t then (if left then (Not (act a) ∷ Is (var (if seen && r then i + 1 else i)) ∷ []) ∷ [] else []) else []

  pub enter_is : (task : Task) (m : ℕ) (seen : Bool) (i : ℕ) (members : List ℕ) → enter_links act var seen i (links_of task m members) ≡ enter_clauses act var (takes task m) (reads task m) seen i members
  enter_is task m seen i members =
      links_is Entered (λ a seen i left. refl) (enter_links act var) (record { none = λ s j. refl; some = λ s j k ks. refl })
      task m (enter_clauses act var (takes task m) (reads task m)) (record { none = λ s j. refl; some = λ s j k ks. refl }) seen i members

  abbrev Passed : One
  Passed a seen t r i left = if seen && r then (Not (var i) ∷ Not (act a) ∷ []) ∷ (if left then (Not (var i) ∷ Is (var (i + 1)) ∷ []) ∷ [] else []) else []

  pass_idle : (a : ℕ) (seen : Bool) (i : ℕ) (left : Bool) → Passed a seen false false i left ≡ []
  pass_idle a true i left = refl
  pass_idle a false i left = refl

  pub pass_is : (task : Task) (m : ℕ) (seen : Bool) (i : ℕ) (members : List ℕ) → pass_links act var seen i (links_of task m members) ≡ pass_clauses act var (takes task m) (reads task m) seen i members
  pass_is task m seen i members =
      links_is Passed pass_idle (pass_links act var) (record { none = λ s j. refl; some = λ s j k ks. refl })
      task m (pass_clauses act var (takes task m) (reads task m)) (record { none = λ s j. refl; some = λ s j k ks. refl }) seen i members

-- after a taker each reader has a variable

never : (n : ℕ) → 1 + n ≡ 0 → ⊥
never n e = omega (arith, e)

none_by : (r : Bool) (n : ℕ) → (if r then 1 else 0) + n ≡ 0 → r ≡ false
none_by true n e = elim (never n e) [ ]
none_by false n e = refl

rest_by : (b : Bool) (n : ℕ) → (if b then 1 else 0) + n ≡ 0 → n ≡ 0
rest_by true n e = elim (never n e) [ ]
rest_by false n e = omega (arith, e)

none_left : (ks : List Link) → link_count true ks ≡ 0 → list_any (λ k. k.reads) ks ≡ false
none_left [] e = refl
none_left (k ∷ ks) e = rw (none_by k.reads (link_count true ks) e) (none_left ks (rest_by k.reads (link_count true ks) e))

pub left_counts : (ks : List Link) → list_any (λ k. k.reads) ks ≡ true → 1 ≤ link_count true ks
left_counts ks t = by (link_count true ks) refl
  where
    by : (n : ℕ) → link_count true ks ≡ n → 1 ≤ n
    by zero e = cc (none_left ks e, t)
    by (suc n) e = omega arith

-- a chain without a variable has no clause

no_reader : (ks : List Link) (clause : List Literal) → link_count true ks ≡ 0 → if_read (λ k. k.reads) ks clause ≡ []
no_reader ks clause e = rw (none_left ks e) refl

module _ (act var : ℕ → ℕ) where
  enter_none_by :
      (a : ℕ) (i : ℕ) (ks : List Link) → ((s : Bool) (j : ℕ) → link_count s ks ≡ 0 → enter_links act var s j ks ≡ [])
      → (seen t r : Bool) → link_count (seen || t) ks ≡ 0
      → (if t then if_read (λ k. k.reads) ks (Not (act a) ∷ Is (var (if seen && r then i + 1 else i)) ∷ []) else []) ++ enter_links act var (seen || t) (if seen && r then i + 1 else i) ks ≡ []
  enter_none_by a i ks ih true true r e = rw (no_reader ks (Not (act a) ∷ Is (var (if r then i + 1 else i)) ∷ []) e) (ih true (if r then i + 1 else i) e)
  enter_none_by a i ks ih false true r e = rw (no_reader ks (Not (act a) ∷ Is (var i) ∷ []) e) (ih true i e)
  enter_none_by a i ks ih true false r e = ih true (if r then i + 1 else i) e
  enter_none_by a i ks ih false false r e = ih false i e

  pub enter_none : (seen : Bool) (i : ℕ) (ks : List Link) → link_count seen ks ≡ 0 → enter_links act var seen i ks ≡ []
  enter_none seen i [] e = refl
  enter_none seen i (k ∷ ks) e =
      enter_none_by k.action i ks (λ s j h. enter_none s j ks h) seen k.takes k.reads (rest_by (seen && k.reads) (link_count (seen || k.takes) ks) e)

  pass_none_by :
      (i : ℕ) (passed : List (List Literal)) (s : Bool) (ks : List Link) → ((j : ℕ) → pass_links act var s j ks ≡ [])
      → (b : Bool) → b ≡ false → (if b then passed else []) ++ pass_links act var s (if b then i + 1 else i) ks ≡ []
  pass_none_by i passed s ks ih true e = cc
  pass_none_by i passed s ks ih false e = ih i

  pub pass_none : (seen : Bool) (i : ℕ) (ks : List Link) → link_count seen ks ≡ 0 → pass_links act var seen i ks ≡ []
  pass_none seen i [] e = refl
  pass_none seen i (k ∷ ks) e =
      let n = link_count (seen || k.takes) ks in
      pass_none_by i ((Not (var i) ∷ Not (act k.action) ∷ []) ∷ if_read (λ k. k.reads) ks (Not (var i) ∷ Is (var (i + 1)) ∷ [])) (seen || k.takes) ks
      (λ j. pass_none (seen || k.takes) j ks (rest_by (seen && k.reads) n e)) (seen && k.reads) (none_by (seen && k.reads) n e)
