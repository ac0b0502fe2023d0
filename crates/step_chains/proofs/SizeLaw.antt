use Rattle.std.proofs.Common.{arith, ◌≡◌, ℕ, ◌+◌, ◌*◌, ◌≤◌, ◌<◌, List, [], ◌∷◌, ◌++◌, length, Bool, true, false, ◌&&◌, ◌||◌, refl, sym, ap, ◌∙◌, subst, if◌then◌else◌, drop, get_or}
use Rattle.std.specs.List.{AllByRecursion}
use Rattle.std.specs.Prelude.{sum_by}
use Rattle.std.proofs.lemmas.List.{drop_more, drop_all}
use Rattle.std.proofs.lemmas.List.Sums.{sum_by-cons}
use Rattle.formula_defs.specs.Layout.{Layout, action_at, chain_at}
use Rattle.formula_defs.specs.Clause.{Literal, Is, Not, code}
use Rattle.formula_defs.specs.Coded.{coded, literals_in}
use Rattle.formula_defs.proofs.published.SizeLaw.{size_append}
use Rattle.formula_defs.proofs.published.ClauseSize.{two_size}
use Rattle.step_chains.specs.declared.link.Link.{Link}
use Rattle.step_chains.specs.own.Links.{is_read, link_size, enter_links, pass_links}
use Rattle.step_chains.specs.Chains.{LinkedChain, LinkedChains, linked_clauses, all_clauses, links_in, IsChainWithin, AreWithin}

-- How many literals the clauses of chains have: two a clause.

module _ (z : Layout) where
  abbrev act : ℕ → ℕ
  act a = action_at z 0 a

  abbrev var : ℕ → ℕ
  var i = chain_at z 0 i

  enter_pair : (a i : ℕ) (rest : List (List Literal)) → a < z.actions → literals_in (coded ((Not (act a) ∷ Is (var i) ∷ []) ∷ rest)) ≡ 2 + literals_in (coded rest)
  enter_pair a i rest lt = two_size (code (Not (act a))) (code (Is (var i))) (act a) (var i) (coded rest) (omega arith) (omega arith) (λ e. omega (arith, e, lt))

  pass_pair : (a i : ℕ) (rest : List (List Literal)) → a < z.actions → literals_in (coded ((Not (var i) ∷ Not (act a) ∷ []) ∷ rest)) ≡ 2 + literals_in (coded rest)
  pass_pair a i rest lt = two_size (code (Not (var i))) (code (Not (act a))) (var i) (act a) (coded rest) (omega arith) (omega arith) (λ e. omega (arith, e, lt))

  next_pair : (i : ℕ) (rest : List (List Literal)) → literals_in (coded ((Not (var i) ∷ Is (var (i + 1)) ∷ []) ∷ rest)) ≡ 2 + literals_in (coded rest)
  next_pair i rest = two_size (code (Not (var i))) (code (Is (var (i + 1)))) (var i) (var (i + 1)) (coded rest) (omega arith) (omega arith) (λ e. omega (arith, e))

  enters_by : (a i : ℕ) (t r : Bool) (rest : List (List Literal)) → a < z.actions → literals_in (coded ((if t then (if r then (Not (act a) ∷ Is (var i) ∷ []) ∷ [] else []) else []) ++ rest)) ≡ (if t && r then 2 else 0) + literals_in (coded rest)
  enters_by a i true true rest lt = enter_pair a i rest lt
  enters_by a i true false rest lt = omega arith
  enters_by a i false r rest lt = omega arith

  passes_by : (a i : ℕ) (b r : Bool) (rest : List (List Literal)) → a < z.actions → literals_in (coded ((if b then (Not (var i) ∷ Not (act a) ∷ []) ∷ (if r then (Not (var i) ∷ Is (var (i + 1)) ∷ []) ∷ [] else []) else []) ++ rest)) ≡ (if b then (if r then 4 else 2) else 0) + literals_in (coded rest)
  passes_by a i true true rest lt = let h = pass_pair a i ((Not (var i) ∷ Is (var (i + 1)) ∷ []) ∷ rest) lt in let g = next_pair i rest in omega (arith, h, g)
  passes_by a i true false rest lt = let h = pass_pair a i rest lt in omega (arith, h)
  passes_by a i false r rest lt = omega arith

  links_by : (seen : Bool) (i j : ℕ) (ks : List Link) → AllByRecursion (λ k. k.action < z.actions) ks → literals_in (coded (enter_links act var seen i ks)) + literals_in (coded (pass_links act var seen j ks)) ≡ link_size seen ks
  links_by seen i j [] w = refl
  links_by seen i j (k ∷ ks) w =
      let i2 = if seen && k.reads then i + 1 else i in
      let j2 = if seen && k.reads then j + 1 else j in
      let a = enters_by k.action i2 k.takes (is_read ks) (enter_links act var (seen || k.takes) i2 ks) w.0 in
      let b = passes_by k.action j (seen && k.reads) (is_read ks) (pass_links act var (seen || k.takes) j2 ks) w.0 in
      let h = links_by (seen || k.takes) i2 j2 ks w.1 in
      omega (arith, a, b, h)

  chain_literals : (c : LinkedChain) → AllByRecursion (λ k. k.action < z.actions) c.links → literals_in (coded (linked_clauses act var c)) ≡ link_size false c.links
  chain_literals c w =
      let a = size_append (enter_links act var false c.first c.links) (pass_links act var false c.first c.links) in
      let b = links_by false c.first c.first c.links w in
      omega (arith, a, b)

  pub chains_literals : (actions variables : ℕ) (cs : List LinkedChain) → z.actions ≡ actions → AllByRecursion (IsChainWithin actions variables) cs → literals_in (coded (all_clauses act var cs)) ≡ sum_by (λ c. link_size false c.links) cs
  chains_literals actions variables [] e w = refl
  chains_literals actions variables (c ∷ cs) e w =
      let a = size_append (linked_clauses act var c) (all_clauses act var cs) in
      let b = chain_literals c (subst (λ (n : ℕ). AllByRecursion (λ k. k.action < n) c.links) (sym e) w.0.actions_few) in
      let h = chains_literals actions variables cs e w.1 in
      let s = sum_by-cons (λ (c : LinkedChain). link_size false c.links) c cs in
      omega (arith, a, b, h, s)

-- one more chain
pub sizes_next : (chains items : List LinkedChain) (i : ℕ) (d k : LinkedChain) (links : List Link) (size one : ℕ) → items ≡ chains → i < length items → k ≡ get_or items i d → links ≡ k.links → one ≡ link_size false links → size + sum_by (λ c. link_size false c.links) (drop i chains) ≡ size + one + sum_by (λ c. link_size false c.links) (drop (i + 1) chains)
sizes_next chains items i d k links size one e lt is l o =
    let at = chain_at_place chains items i d k e lt is in
    let h = ap (sum_by (λ (c : LinkedChain). link_size false c.links)) at in
    let s = sum_by-cons (λ (c : LinkedChain). link_size false c.links) k (drop (i + 1) chains) in
    let o2 = o ∙ ap (link_size false) l in
    omega (arith, h, s, o2)
  where
    chain_at_place : (chains items : List LinkedChain) (i : ℕ) (d k : LinkedChain) → items ≡ chains → i < length items → k ≡ get_or items i d → drop i chains ≡ k ∷ drop (i + 1) chains
    chain_at_place chains items i d k e lt is =
        drop_more chains i d (subst (λ (cs : List LinkedChain). i < length cs) e lt) ∙ ap (λ (x : LinkedChain). x ∷ drop (i + 1) chains) (ap (λ (xs : List LinkedChain). get_or xs i d) (sym e) ∙ sym is)

pub few_next : (chains items : List LinkedChain) (i : ℕ) (d k : LinkedChain) (links : List Link) (size one all : ℕ) → items ≡ chains → i < length items → k ≡ get_or items i d → links ≡ k.links → one ≤ 6 * length links → size + 6 * links_in (drop i chains) ≤ all → size + one + 6 * links_in (drop (i + 1) chains) ≤ all
few_next chains items i d k links size one all e lt is l o h =
    let at = drop_more chains i d (subst (λ (cs : List LinkedChain). i < length cs) e lt) ∙ ap (λ (x : LinkedChain). x ∷ drop (i + 1) chains) (ap (λ (xs : List LinkedChain). get_or xs i d) (sym e) ∙ sym is) in
    let g = ap links_in at in
    let s = sum_by-cons (λ (c : LinkedChain). length c.links) k (drop (i + 1) chains) in
    let n = ap length l in
    omega (arith, g, s, n, o, h)

pub one_few : (chains items : List LinkedChain) (i : ℕ) (d k : LinkedChain) (links : List Link) (size all : ℕ) → items ≡ chains → i < length items → k ≡ get_or items i d → links ≡ k.links → size + 6 * links_in (drop i chains) ≤ 6 * all → all ≤ 1073741824 → length links ≤ 1073741824
one_few chains items i d k links size all e lt is l h few =
    let at = drop_more chains i d (subst (λ (cs : List LinkedChain). i < length cs) e lt) ∙ ap (λ (x : LinkedChain). x ∷ drop (i + 1) chains) (ap (λ (xs : List LinkedChain). get_or xs i d) (sym e) ∙ sym is) in
    let g = ap links_in at in
    let s = sum_by-cons (λ (c : LinkedChain). length c.links) k (drop (i + 1) chains) in
    let n = ap length l in
    omega (arith, g, s, n, h, few)

pub sizes_done : (z : Layout) (f : LinkedChains) (items : List LinkedChain) (i size : ℕ) → AreWithin f → z.actions ≡ f.actions → items ≡ f.chains → length items ≤ i → sum_by (λ c. link_size false c.links) f.chains ≡ size + sum_by (λ c. link_size false c.links) (drop i f.chains) → size ≡ literals_in (coded (all_clauses (action_at z 0) (chain_at z 0) f.chains))
sizes_done z f items i size w e is le h =
    let none = ap (sum_by (λ (c : LinkedChain). link_size false c.links)) (drop_all i f.chains (subst (λ (cs : List LinkedChain). length cs ≤ i) is le)) in
    let l = chains_literals z f.actions f.variables f.chains e w.chains in
    omega (arith, none, l, h)
