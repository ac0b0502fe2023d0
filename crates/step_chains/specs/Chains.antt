-- The chains of a task that have a variable, as they are added one after the other.
use Rattle.std.specs.Prelude.{◌≡◌, ℕ, ◌+◌, ◌<◌, ◌≤◌, List, [], ◌++◌, false, length, sum_by}
use Rattle.std.specs.List.{flat_map, AllByRecursion}
use Rattle.gt_core.specs.Task.{Task}
use Rattle.formula_defs.specs.Clause.{Literal}
use Rattle.formula_defs.specs.Variables.{chains_from, chain_variables_in}
use Rattle.formula_defs.specs.Formula.{chain_clauses}
use Rattle.step_chains.specs.declared.link.Link.{Link}
use Rattle.step_chains.specs.own.Links.{link_count, enter_links, pass_links}

-- a chain: the number of its first variable, and its members
pub record LinkedChain : Type 0 where
  pub first : ℕ
  pub links : List Link

-- chains of so many actions, with how many variables they have
pub record LinkedChains : Type 0 where
  pub actions : ℕ
  pub chains : List LinkedChain
  pub variables : ℕ

-- the clauses of one chain
abbrev pub linked_clauses : (act var : ℕ → ℕ) → LinkedChain → List (List Literal)
linked_clauses act var c = enter_links act var false c.first c.links ++ pass_links act var false c.first c.links

-- the clauses of chains
abbrev pub all_clauses : (act var : ℕ → ℕ) → List LinkedChain → List (List Literal)
all_clauses act var cs = flat_map (linked_clauses act var) cs

-- the numbers of a chain are in range
pub record IsChainWithin (actions variables : ℕ) (c : LinkedChain) : Type 0 where
  pub variables_few : c.first + link_count false c.links ≤ variables
  pub actions_few : AllByRecursion (λ k. k.action < actions) c.links

-- how many links chains have
abbrev pub links_in : List LinkedChain → ℕ
links_in cs = sum_by (λ c. length c.links) cs

-- what chains keep
pub record AreWithin (f : LinkedChains) : Type 0 where
  pub few : links_in f.chains ≤ 1073741824
  pub variables : f.variables ≤ links_in f.chains
  pub chains : AllByRecursion (IsChainWithin f.actions f.variables) f.chains

-- there is room for so many more links
abbrev pub HasRoom : LinkedChains → ℕ → Type 0
HasRoom f n = links_in f.chains + n ≤ 1073741824

-- how many members there are at places
abbrev pub members_in : List (List ℕ × ℕ) → ℕ
members_in places = sum_by (λ p. length p.0) places

-- the chains of these places were added after others: their clauses and their variables come after those of the others
pub record Extends (task : Task) (places : List (List ℕ × ℕ)) (old new : LinkedChains) : Type 0 where
  pub clauses :
      (act var : ℕ → ℕ) (rest : List (List ℕ × ℕ))
      → all_clauses act var new.chains ++ chain_clauses act var task (chains_from task new.variables rest)
      ≡ all_clauses act var old.chains ++ chain_clauses act var task (chains_from task old.variables (places ++ rest))
  pub variables : new.variables ≡ old.variables + chain_variables_in task places
  pub actions : new.actions ≡ old.actions
  pub few : links_in new.chains ≤ links_in old.chains + members_in places

-- no chain yet, of a task with so many actions
abbrev pub no_chains : ℕ → LinkedChains
no_chains actions = record { actions = actions; chains = []; variables = 0 }

-- all chains of a task at these places
abbrev pub AreChains : Task → List (List ℕ × ℕ) → LinkedChains → Type 0
AreChains task places f = Extends task places (no_chains (length task.actions)) f
