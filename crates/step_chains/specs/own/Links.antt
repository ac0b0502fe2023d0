-- Chains over the members that touch a literal. Members that neither take nor read it change nothing of a chain, so
-- they are left out.
use Rattle.std.specs.Prelude.{ℕ, ◌+◌, List, [], ◌∷◌, Bool, ◌&&◌, ◌||◌, if◌then◌else◌}
use Rattle.std.specs.List.{list_any}
use Rattle.formula_defs.specs.Layout.{Layout, action_at, chain_at}
use Rattle.formula_defs.specs.Clause.{Literal, Is, Not}
use Rattle.formula_defs.specs.Chain.{chain_length, enter_clauses, pass_clauses}
use Rattle.step_chains.specs.declared.link.Link.{Link}

-- the definitions of a chain, with links as its members

-- how many variables the chain of these links has
abbrev pub link_count : Bool → List Link → ℕ
link_count seen ks = chain_length (λ k. k.takes) (λ k. k.reads) seen ks

-- the clauses by which takers enter the chain of these links
abbrev pub enter_links : (act var : ℕ → ℕ) → Bool → ℕ → List Link → List (List Literal)
enter_links act var seen i ks = enter_clauses (λ k. act k.action) var (λ k. k.takes) (λ k. k.reads) seen i ks

-- the clauses by which the chain of these links is passed on
abbrev pub pass_links : (act var : ℕ → ℕ) → Bool → ℕ → List Link → List (List Literal)
pass_links act var seen i ks = pass_clauses (λ k. act k.action) var (λ k. k.takes) (λ k. k.reads) seen i ks

-- a reader is left
abbrev pub is_read : List Link → Bool
is_read ks = list_any (λ k. k.reads) ks

-- how many literals the clauses of a chain of links have: two a clause
abbrev pub link_size : Bool → List Link → ℕ
link_size seen [] = 0
link_size seen (k ∷ ks) =
    (if k.takes && is_read ks then 2 else 0)
    + (if seen && k.reads then (if is_read ks then 4 else 2) else 0)
    + link_size (seen || k.takes) ks

-- The clauses of one link in the first step of a layout.

-- the clause by which a taker makes a variable true, where a reader is left
abbrev pub enter_of : Layout → Link → ℕ → Bool → List (List Literal)
enter_of z k i left = if k.takes then (if left then (Not (action_at z 0 k.action) ∷ Is (chain_at z 0 i) ∷ []) ∷ [] else []) else []

-- the clauses by which a reader's variable, where it is true, forbids it and makes the next variable true, where a
-- reader is left
abbrev pub pass_of : Layout → ℕ → Bool → ℕ → Bool → List (List Literal)
pass_of z action reads i left = if reads then (Not (chain_at z 0 i) ∷ Not (action_at z 0 action) ∷ []) ∷ (if left then (Not (chain_at z 0 i) ∷ Is (chain_at z 0 (i + 1)) ∷ []) ∷ [] else []) else []
