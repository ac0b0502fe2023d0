-- A walk along the links of a chain. Only private clauses speak of it.
use Rattle.std.specs.Prelude.{◌≡◌, ℕ, ◌+◌, ◌<◌, ◌≤◌, List, ◌&&◌, ◌||◌, if◌then◌else◌, count_by}
use Rattle.formula_defs.specs.Layout.{Layout}
use Rattle.step_chains.specs.declared.link.Link.{Link}
use Rattle.step_chains.specs.declared.walk.Walk.{Walk}
use Rattle.step_chains.specs.own.Links.{link_count}
use Rattle.step_chains.specs.Chains.{LinkedChain, IsChainWithin}

-- the first step of the layout has variables for the chain
abbrev pub HasChain : Layout → LinkedChain → Type 0
HasChain z c = (0 < z.horizon) × IsChainWithin z.actions z.chains c × (z.chains ≤ 1073741824)

-- before these links: it counts their readers, and their variables are among the first `most`
abbrev pub StandsBefore : ℕ → List Link → Walk → Type 0
StandsBefore most ks w = (w.left ≡ count_by (λ k. k.reads) ks) × (w.next + link_count w.seen ks ≤ most)

-- one more link was passed
abbrev pub IsAfter : Link → Walk → Walk → Type 0
IsAfter k w v =
    (v.seen ≡ (w.seen || k.takes))
    × (v.next ≡ (if w.seen && k.reads then w.next + 1 else w.next))
    × ((if k.reads then 1 else 0) + v.left ≡ w.left)
