use Rattle.std.proofs.Common.{arith, ◌≡◌, ◌+◌, ◌-◌, ◌*◌, ◌≤◌, ◌<◌, ℕ, zero, suc, List, [], ◌∷◌, ◌++◌, map, length, Bool, true, false, refl, sym, ap, ◌∙◌, drop, get_or, subst, if◌then◌else◌, length-append, reverse}
use Rattle.std.specs.List.{AllByRecursion, filter, flat_map}
use Rattle.std.proofs.lemmas.List.{append-nil, append_assoc, map-append}
use Rattle.action_order.proofs.published.Lists.{range_more}
use Rattle.std.proofs.lemmas.List.{drop_more, length-reverse}
use Rattle.std.proofs.lemmas.Grind.{flat_map-append, reverse_onto}
use Rattle.std.proofs.lemmas.List.Elements.{filter-append}
use Rattle.std.proofs.lemmas.List.Sums.{sum_by-cons, sum_by-append}
use Rattle.gt_core.specs.Interference.{takes, reads}
use Rattle.gt_core.specs.Literal.{range}
use Rattle.gt_core.specs.Task.{Task}
use Rattle.gt_core.specs.Lawful.{is_task}
use Rattle.gt_core.specs.Published.{order_of}
use Rattle.gt_core.proofs.published.Basics.{each_at, each_from}
use Rattle.gt_core.proofs.published.Pairwise.{flat_among}
use Rattle.gt_core.proofs.published.Within.{lawful}
use Rattle.formula_defs.proofs.published.SizeLaw.{length-range_from}
use Rattle.std.proofs.Math.Nat.{mul-le-mul_right}
use Rattle.formula_defs.specs.Clause.{Literal}
use Rattle.formula_defs.specs.Chain.{chain_length, enter_clauses, pass_clauses}
use Rattle.formula_defs.specs.Formula.{chain_clauses}
use Rattle.formula_defs.specs.Variables.{chains_from, chain_places, chain_variables_in}
use Rattle.step_chains.specs.declared.link.Link.{Link}
use Rattle.step_chains.specs.own.Touching.{link_of, links_of, touches}
use Rattle.step_chains.specs.own.Links.{link_count, pass_links}
use Rattle.step_chains.specs.Chains.{LinkedChain, LinkedChains, linked_clauses, all_clauses, Extends, AreWithin, IsChainWithin, HasRoom, links_in, members_in}
use Rattle.step_chains.specs.own.Index.{IsIndexOf}
use Rattle.step_chains.specs.BothWays.{ways, ways_in}
use Rattle.step_chains.proofs.LinkLaw.{count_is, enter_is, pass_is, enter_none, pass_none}

-- Chains that are found one after the other.

pub nothing_found : (task : Task) (f : LinkedChains) → Extends task [] f f
nothing_found task f = record { clauses = λ act var rest. refl; variables = omega arith; actions = refl; few = omega arith }

variables_more : (task : Task) (ps qs : List (List ℕ × ℕ)) → chain_variables_in task (ps ++ qs) ≡ chain_variables_in task ps + chain_variables_in task qs
variables_more task [] qs = omega arith
variables_more task (p ∷ ps) qs = let h = variables_more task ps qs in omega (arith, h)

members_more : (ps qs : List (List ℕ × ℕ)) → members_in (ps ++ qs) ≡ members_in ps + members_in qs
members_more ps qs = sum_by-append (λ (p : List ℕ × ℕ). length p.0) ps qs

-- first some, then others
pub found_twice : (task : Task) (ps qs : List (List ℕ × ℕ)) (a b c : LinkedChains) → Extends task ps a b → Extends task qs b c → Extends task (ps ++ qs) a c
found_twice task ps qs a b c one two = record {
  clauses = λ act var rest.
      two.clauses act var rest ∙ one.clauses act var (qs ++ rest)
      ∙ ap (λ (places : List (List ℕ × ℕ)). all_clauses act var a.chains ++ chain_clauses act var task (chains_from task a.variables places)) (sym (append_assoc ps qs rest));
  variables = let x = one.variables in let y = two.variables in let z = variables_more task ps qs in omega (arith, x, y, z);
  actions = two.actions ∙ one.actions;
  few = let x = one.few in let y = two.few in let z = members_more ps qs in omega (arith, x, y, z);
}

-- a chain without a variable is left out
pub none_found : (task : Task) (members : List ℕ) (m : ℕ) (f : LinkedChains) → link_count false (links_of task m members) ≡ 0 → Extends task ((members, m) ∷ []) f f
none_found task members m f e = record {
  clauses = λ act var rest. ap (λ (cs : List (List Literal)). all_clauses act var f.chains ++ cs) (clauses act var rest);
  variables = let n = none in omega (arith, n);
  actions = refl;
  few = omega arith;
}
  where
    none : chain_length (takes task m) (reads task m) false members ≡ 0
    none = sym (count_is task m false members) ∙ e

    same : (n k : ℕ) → k ≡ 0 → n ≡ n + k
    same n k h = omega (arith, h)

    clauses : (act var : ℕ → ℕ) (rest : List (List ℕ × ℕ)) → chain_clauses act var task (chains_from task f.variables rest) ≡ chain_clauses act var task (chains_from task f.variables ((members, m) ∷ rest))
    clauses act var rest =
        ap (λ (n : ℕ). chain_clauses act var task (chains_from task n rest)) (same f.variables (chain_length (takes task m) (reads task m) false members) none)
        ∙ ap (λ (cs : List (List Literal)). cs ++ chain_clauses act var task (chains_from task (f.variables + chain_length (takes task m) (reads task m) false members) rest)) (sym nothing)
      where
        nothing : enter_clauses act var (takes task m) (reads task m) false f.variables members ++ pass_clauses act var (takes task m) (reads task m) false f.variables members ≡ []
        nothing =
            ap (λ (cs : List (List Literal)). cs ++ pass_clauses act var (takes task m) (reads task m) false f.variables members) (sym (enter_is act var task m false f.variables members) ∙ enter_none act var false f.variables (links_of task m members) e)
            ∙ (sym (pass_is act var task m false f.variables members) ∙ pass_none act var false f.variables (links_of task m members) e)

abbrev pub linked : ℕ → List Link → LinkedChain
linked first links = record { first = first; links = links }

links_more : (cs : List LinkedChain) (c : LinkedChain) → links_in (cs ++ c ∷ []) ≡ links_in cs + length c.links
links_more cs c =
    let a = sum_by-append (λ (k : LinkedChain). length k.links) cs (c ∷ []) in
    let b = sum_by-cons (λ (k : LinkedChain). length k.links) c [] in
    omega (arith, a, b)

-- no more links than members
links_few : (task : Task) (m : ℕ) (members : List ℕ) → length (links_of task m members) ≤ length members
links_few task m [] = omega arith
links_few task m (a ∷ members) = by (touches (link_of task m a)) (links_few task m members)
  where
    by : (b : Bool) → length (links_of task m members) ≤ length members → length (if b then link_of task m a ∷ links_of task m members else links_of task m members) ≤ length (a ∷ members)
    by true h = omega (arith, h)
    by false h = omega (arith, h)

-- the links of the reverse are the links in reverse
links_split : (task : Task) (m : ℕ) (xs ys : List ℕ) → links_of task m (xs ++ ys) ≡ links_of task m xs ++ links_of task m ys
links_split task m xs ys = ap (filter touches) (map-append (link_of task m) xs ys) ∙ filter-append touches (map (link_of task m) xs) (map (link_of task m) ys)

pub links_back : (task : Task) (m : ℕ) (members : List ℕ) → links_of task m (reverse members) ≡ reverse (links_of task m members)
links_back task m [] = refl
links_back task m (a ∷ members) =
    ap (links_of task m) (reverse_onto members a [])
    ∙ links_split task m (reverse members) (a ∷ [])
    ∙ ap (λ (ks : List Link). ks ++ links_of task m (a ∷ [])) (links_back task m members)
    ∙ by (touches (link_of task m a))
  where
    by : (b : Bool) → reverse (links_of task m members) ++ (if b then link_of task m a ∷ [] else []) ≡ reverse (if b then link_of task m a ∷ links_of task m members else links_of task m members)
    by true = sym (reverse_onto (links_of task m members) (link_of task m a) [])
    by false = append-nil (reverse (links_of task m members))

put_last : {A : Type 0} (P : A → Type 0) (xs : List A) (x : A) → AllByRecursion P xs → P x → AllByRecursion P (xs ++ x ∷ [])
put_last P [] x all px = (px, tt)
put_last P (y ∷ xs) x all px = (all.0, put_last P xs x all.1 px)

-- a chain comes after those that were found
pub one_found :
    (task : Task) (members : List ℕ) (m : ℕ) (old new : LinkedChains) (links : List Link)
    → links ≡ links_of task m members → new.chains ≡ old.chains ++ linked old.variables links ∷ []
    → new.variables ≡ old.variables + link_count false links → new.actions ≡ old.actions
    → Extends task ((members, m) ∷ []) old new
one_found task members m old new links is e n a = record {
  clauses = λ act var rest.
      ap (λ (cs : List LinkedChain). all_clauses act var cs ++ after act var rest new.variables) same
      ∙ ap (λ (cs : List (List Literal)). cs ++ after act var rest new.variables) (flat_map-append (linked_clauses act var) old.chains (one ∷ []))
      ∙ append_assoc (all_clauses act var old.chains) (linked_clauses act var one ++ []) (after act var rest new.variables)
      ∙ ap (λ (cs : List (List Literal)). all_clauses act var old.chains ++ (cs ++ after act var rest new.variables)) (append-nil (linked_clauses act var one) ∙ parts act var)
      ∙ ap (λ (k : ℕ). all_clauses act var old.chains ++ (whole act var ++ after act var rest k)) many;
  variables = let h = many in omega (arith, h);
  actions = a;
  few =
      let h = ap links_in e in
      let l = links_more old.chains (linked old.variables links) in
      let k = ap length is in
      let f = links_few task m members in
      let g = sum_by-cons (λ (p : List ℕ × ℕ). length p.0) (members, m) [] in
      omega (arith, h, l, k, f, g);
}
  where
    one : LinkedChain
    one = linked old.variables (links_of task m members)

    same : new.chains ≡ old.chains ++ one ∷ []
    same = e ∙ ap (λ (ls : List Link). old.chains ++ linked old.variables ls ∷ []) is

    many : new.variables ≡ old.variables + chain_length (takes task m) (reads task m) false members
    many = n ∙ ap (λ (k : ℕ). old.variables + k) (ap (link_count false) is ∙ count_is task m false members)

    after : (act var : ℕ → ℕ) (rest : List (List ℕ × ℕ)) → ℕ → List (List Literal)
    after act var rest k = chain_clauses act var task (chains_from task k rest)

    whole : (act var : ℕ → ℕ) → List (List Literal)
    whole act var = enter_clauses act var (takes task m) (reads task m) false old.variables members ++ pass_clauses act var (takes task m) (reads task m) false old.variables members

    parts : (act var : ℕ → ℕ) → linked_clauses act var one ≡ whole act var
    parts act var =
        ap (λ (cs : List (List Literal)). cs ++ pass_links act var false old.variables (links_of task m members)) (enter_is act var task m false old.variables members)
        ∙ ap (λ (cs : List (List Literal)). enter_clauses act var (takes task m) (reads task m) false old.variables members ++ cs) (pass_is act var task m false old.variables members)

-- the links are of the members
pub links_within : (task : Task) (m n : ℕ) (members : List ℕ) → AllByRecursion (λ a. a < n) members → AllByRecursion (λ k. k.action < n) (links_of task m members)
links_within task m n [] all = tt
links_within task m n (a ∷ members) all = by (touches (link_of task m a)) (links_within task m n members all.1)
  where
    by : (b : Bool) → AllByRecursion (λ k. k.action < n) (links_of task m members) → AllByRecursion (λ k. k.action < n) (if b then link_of task m a ∷ links_of task m members else links_of task m members)
    by true rest = (all.0, rest)
    by false rest = rest

chains_within_more : (actions few more : ℕ) (cs : List LinkedChain) → few ≤ more → AllByRecursion (IsChainWithin actions few) cs → AllByRecursion (IsChainWithin actions more) cs
chains_within_more actions few more [] le all = tt
chains_within_more actions few more (c ∷ cs) le all = (
  record { variables_few = let h = all.0.variables_few in omega (arith, h, le); actions_few = all.0.actions_few },
  chains_within_more actions few more cs le all.1,
)

-- and so the chains stay within their numbers
pub within_more :
    (old new : LinkedChains) (links : List Link)
    → AreWithin old → AllByRecursion (λ k. k.action < old.actions) links
    → new.chains ≡ old.chains ++ linked old.variables links ∷ [] → new.variables ≡ old.variables + link_count false links
    → new.actions ≡ old.actions → link_count false links ≤ length links → HasRoom old (length links) → AreWithin new
within_more old new links w all e n a some room = record {
  few = let h = ap links_in e in let l = links_more old.chains (linked old.variables links) in omega (arith, h, l, room);
  variables = let h = ap links_in e in let l = links_more old.chains (linked old.variables links) in let v = w.variables in omega (arith, h, l, n, some, v);
  chains = subst (λ (cs : List LinkedChain). AllByRecursion (IsChainWithin new.actions new.variables) cs) (sym e) (subst (λ (n : ℕ). AllByRecursion (IsChainWithin n new.variables) (old.chains ++ linked old.variables links ∷ [])) (sym a) both);
}
  where
    grows : old.variables ≤ new.variables
    grows = omega (arith, n)

    both : AllByRecursion (IsChainWithin old.actions new.variables) (old.chains ++ linked old.variables links ∷ [])
    both = put_last (IsChainWithin old.actions new.variables) old.chains (linked old.variables links)
        (chains_within_more old.actions old.variables new.variables old.chains grows w.chains)
        (record { variables_few = omega (arith, n); actions_few = all })

-- a component of fewer than two members has no chain with a variable
short_count : (t r : ℕ → Bool) (members : List ℕ) → length members < 2 → chain_length t r false members ≡ 0
short_count t r [] lt = refl
short_count t r (a ∷ []) lt = refl
short_count t r (a ∷ b ∷ members) lt = elim (never (length members) lt) [ ]
  where
    never : (n : ℕ) → suc (suc n) < 2 → ⊥
    never n h = omega (arith, h)

short_links : (task : Task) (members : List ℕ) (m : ℕ) → length members < 2 → link_count false (links_of task m members) ≡ 0
short_links task members m lt = count_is task m false members ∙ short_count (takes task m) (reads task m) members lt

pub short_found : (task : Task) (members : List ℕ) (f : LinkedChains) → length members < 2 → Extends task (chain_places task (members ∷ [])) f f
short_found task members f lt = ends (by (range (2 * task.facts)))
  where
    by : (ms : List ℕ) → Extends task (map (λ m. (members, m)) ms) f f
    by [] = nothing_found task f
    by (m ∷ ms) = found_twice task ((members, m) ∷ []) (map (λ k. (members, k)) ms) f f f (none_found task members m f (short_links task members m lt)) (by ms)

    ends : Extends task (map (λ m. (members, m)) (range (2 * task.facts))) f f → Extends task (map (λ m. (members, m)) (range (2 * task.facts)) ++ []) f f
    ends h = subst (λ (places : List (List ℕ × ℕ)). Extends task places f f) (sym (append-nil (map (λ m. (members, m)) (range (2 * task.facts))))) h

-- one place for each literal
singles : (members ms : List ℕ) → flat_map (ways false members) ms ≡ map (λ m. (members, m)) ms
singles members [] = refl
singles members (m ∷ ms) = ap (λ (ps : List (List ℕ × ℕ)). (members, m) ∷ ps) (singles members ms)

-- as many members at the places of each literal
places_count : (at : ℕ → List (List ℕ × ℕ)) (k : ℕ) → ((m : ℕ) → members_in (at m) ≡ k) → (ms : List ℕ) → members_in (flat_map at ms) ≡ length ms * k
places_count at k each [] = omega arith
places_count at k each (m ∷ ms) =
    let h = places_count at k each ms in
    let s = sum_by-append (λ (p : List ℕ × ℕ). length p.0) (at m) (flat_map at ms) in
    let o = each m in
    let d : length (m ∷ ms) * k ≡ k + length ms * k = omega arith in
    omega (arith, h, s, o, d)

pub ways_count : (both : Bool) (members : List ℕ) (m : ℕ) → members_in (ways both members m) ≡ ways_in both (length members)
ways_count true members m =
    let a = sum_by-cons (λ (p : List ℕ × ℕ). length p.0) (members, m) ((reverse members, m) ∷ []) in
    let b = sum_by-cons (λ (p : List ℕ × ℕ). length p.0) (reverse members, m) [] in
    let r = length-reverse members in
    omega (arith, a, b, r)
ways_count false members m = let a = sum_by-cons (λ (p : List ℕ × ℕ). length p.0) (members, m) [] in omega (arith, a)

ways_grow : (both : Bool) (n k : ℕ) → n ≤ k → ways_in both n ≤ ways_in both k
ways_grow true n k le = omega (arith, le)
ways_grow false n k le = le

-- the room of one literal more
pub room_of_literal :
    (task : Task) (both : Bool) (members : List ℕ) (m : ℕ) (links : List Link) (old now : LinkedChains)
    → Extends task (flat_map (ways both members) (range m)) old now → m < 2 * task.facts → is_task task ≡ true
    → links ≡ links_of task m members → HasRoom old (4096 * ways_in both (length members)) → HasRoom now (ways_in both (length links))
room_of_literal task both members m links old now e lt t is room =
    let k = ways_in both (length members) in
    let f = e.few in
    let c = places_count (ways both members) k (ways_count both members) (range m) in
    let r = length-range_from 0 m in
    let q = ap (λ (n : ℕ). n * k) r in
    let l = ap length is in
    let g = links_few task m members in
    let le : length links ≤ length members = omega (arith, l, g) in
    let w = ways_grow both (length links) (length members) le in
    let facts = (lawful task t).facts in
    let more : (m + 1) * k ≤ 4096 * k = mul-le-mul_right k (omega (arith, lt, facts)) in
    let d : (m + 1) * k ≡ m * k + k = omega arith in
    omega (arith, f, c, q, w, more, d, room)

-- the room that a component takes
pub room_of_component : (task : Task) (members : List ℕ) (rest : ℕ) (old new : LinkedChains) → is_task task ≡ true → Extends task (chain_places task (members ∷ [])) old new → HasRoom old (4096 * length members + rest) → HasRoom new rest
room_of_component task members rest old new t e room =
    let f = e.few in
    let n = ap members_in (append-nil (map (λ (k : ℕ). (members, k)) (range (2 * task.facts)))) in
    let s = ap members_in (singles members (range (2 * task.facts))) in
    let c = places_count (ways false members) (length members) (ways_count false members) (range (2 * task.facts)) in
    let q = ap (λ (k : ℕ). k * length members) (length-range_from 0 (2 * task.facts)) in
    let facts = (lawful task t).facts in
    let more : (2 * task.facts) * length members ≤ 4096 * length members = mul-le-mul_right (length members) (omega (arith, facts)) in
    omega (arith, f, n, s, c, q, more, room)

-- literal after literal
pub literal_more : (task : Task) (at : ℕ → List (List ℕ × ℕ)) (m : ℕ) (a b c : LinkedChains) → Extends task (flat_map at (range m)) a b → Extends task (at m) b c → Extends task (flat_map at (range (m + 1))) a c
literal_more task at m a b c one two =
    subst (λ (places : List (List ℕ × ℕ)). Extends task places a c)
    (ap (λ (ps : List (List ℕ × ℕ)). flat_map at (range m) ++ ps) (sym (append-nil (at m))) ∙ sym (flat_map-append at (range m) (m ∷ [])) ∙ ap (flat_map at) (sym (range_more m)))
    (found_twice task (flat_map at (range m)) (at m) a b c one two)

-- literals whose places have no chain
literals_skipped : (task : Task) (at : ℕ → List (List ℕ × ℕ)) (m k : ℕ) (a b : LinkedChains) → ((l : ℕ) → m ≤ l → l < m + k → Extends task (at l) b b) → Extends task (flat_map at (range m)) a b → Extends task (flat_map at (range (m + k))) a b
literals_skipped task at m zero a b none e = subst (λ (n : ℕ). Extends task (flat_map at (range n)) a b) (omega arith) e
literals_skipped task at m (suc k) a b none e =
    let before = literals_skipped task at m k a b (λ l le lt. none l le (omega (arith, lt))) e in
    subst (λ (n : ℕ). Extends task (flat_map at (range n)) a b) (omega arith) (literal_more task at (m + k) a b b before (none (m + k) (omega arith) (omega arith)))

-- a literal that no member touches has no chain, either way
untouched : (task : Task) (both : Bool) (members : List ℕ) (l : ℕ) (f : LinkedChains) → links_of task l members ≡ [] → Extends task (ways both members l) f f
untouched task both members l f e = found_twice task ((members, l) ∷ []) (if both then (reverse members, l) ∷ [] else []) f f f (none_found task members l f (ap (link_count false) e)) (by both)
  where
    by : (b : Bool) → Extends task (if b then (reverse members, l) ∷ [] else []) f f
    by true = none_found task (reverse members) l f (ap (link_count false) (links_back task l members ∙ ap reverse e))
    by false = nothing_found task f

pub skip_to : (task : Task) (both : Bool) (members : List ℕ) (index : List (List Link)) (m n : ℕ) (a b : LinkedChains) → IsIndexOf task members index → m ≤ n → n ≤ 2 * task.facts → ((l : ℕ) → m ≤ l → l < n → get_or index l [] ≡ []) → Extends task (flat_map (ways both members) (range m)) a b → Extends task (flat_map (ways both members) (range n)) a b
skip_to task both members index m n a b is le top none e =
    let whole : m + (n - m) ≡ n = omega (arith, le) in
    subst (λ (k : ℕ). Extends task (flat_map (ways both members) (range k)) a b) whole
    (literals_skipped task (ways both members) m (n - m) a b (λ l low lt. let less : l < n = omega (arith, lt, whole) in untouched task both members l b (sym (is.each l (omega (arith, less, top))) ∙ none l low less)) e)

pub all_literals : (task : Task) (both : Bool) (members : List ℕ) (m : ℕ) (a b : LinkedChains) → m ≡ 2 * task.facts → Extends task (flat_map (ways both members) (range m)) a b → Extends task (flat_map (ways both members) (range (2 * task.facts))) a b
all_literals task both members m a b e h = subst (λ (n : ℕ). Extends task (flat_map (ways both members) (range n)) a b) e h

-- one way over all literals is what a component has
pub one_component : (task : Task) (members : List ℕ) (a b : LinkedChains) → Extends task (flat_map (ways false members) (range (2 * task.facts))) a b → Extends task (chain_places task (members ∷ [])) a b
one_component task members a b h =
    subst (λ (places : List (List ℕ × ℕ)). Extends task places a b) (singles members (range (2 * task.facts)) ∙ sym (append-nil (map (λ k. (members, k)) (range (2 * task.facts))))) h

-- component after component
pub component_more :
    (task : Task) (order : List (List ℕ)) (i : ℕ) (members : List ℕ) (a b c : LinkedChains)
    → drop i order ≡ members ∷ drop (i + 1) order → Extends task (chain_places task (members ∷ [])) a b
    → Extends task (chain_places task (drop (i + 1) order)) b c → Extends task (chain_places task (drop i order)) a c
component_more task order i members a b c e one two =
    subst (λ (places : List (List ℕ × ℕ)). Extends task places a c)
    (ap (λ (ps : List (List ℕ × ℕ)). ps ++ chain_places task (drop (i + 1) order)) (append-nil (map (λ m. (members, m)) (range (2 * task.facts)))) ∙ ap (chain_places task) (sym e))
    (found_twice task (chain_places task (members ∷ [])) (chain_places task (drop (i + 1) order)) a b c one two)

pub group_more :
    (task : Task) (order items : List (List ℕ)) (i : ℕ) (d group members : List ℕ) (a b : LinkedChains)
    → items ≡ order → i < length items → group ≡ get_or items i d → members ≡ group → Extends task (chain_places task (members ∷ [])) a b
    → (new : LinkedChains) → Extends task (chain_places task (drop (i + 1) order)) b new → Extends task (chain_places task (drop i order)) a new
group_more task order items i d group members a b e lt is m one new rest =
    let lt2 : i < length order = rw e at lt in
    let at : get_or order i d ≡ members = ap (λ (x : List (List ℕ)). get_or x i d) (sym e) ∙ sym is ∙ sym m in
    component_more task order i members a b new (drop_more order i d lt2 ∙ ap (λ (ks : List ℕ). ks ∷ drop (i + 1) order) at) one rest

pub group_at : (order items : List (List ℕ)) (i : ℕ) (d group members : List ℕ) → items ≡ order → i < length items → group ≡ get_or items i d → members ≡ group → drop i order ≡ members ∷ drop (i + 1) order
group_at order items i d group members e lt is m =
    let lt2 : i < length order = rw e at lt in
    drop_more order i d lt2 ∙ ap (λ (ks : List ℕ). ks ∷ drop (i + 1) order) (ap (λ (x : List (List ℕ)). get_or x i d) (sym e) ∙ sym is ∙ sym m)

-- the room that is left for the components from one on
pub room_of_order : (order : List (List ℕ)) (i : ℕ) (members : List ℕ) (f : LinkedChains) → drop i order ≡ members ∷ drop (i + 1) order → HasRoom f (4096 * length (order_of (drop i order))) → HasRoom f (4096 * length members + 4096 * length (order_of (drop (i + 1) order)))
room_of_order order i members f at room =
    let l = ap (λ (ks : List (List ℕ)). length (order_of ks)) at in
    let a = length-append members (order_of (drop (i + 1) order)) in
    omega (arith, l, a, room)

-- what holds of the members of each component holds of all actions
pub each_of_order : (P : ℕ → Type 0) (order : List (List ℕ)) → AllByRecursion (λ ks. AllByRecursion P ks) order → AllByRecursion P (order_of order)
each_of_order P order all = each_from P (order_of order) (λ a i. let r = flat_among (λ ks. ks) order a i in each_at P r.0 a (each_at (λ ks. AllByRecursion P ks) order r.0 all r.1) r.2)

pub variables_few : (f : LinkedChains) (n : ℕ) → n ≡ f.variables → AreWithin f → n ≤ 1073741824
variables_few f n e w = let a = w.few in let b = w.variables in omega (arith, e, a, b)
