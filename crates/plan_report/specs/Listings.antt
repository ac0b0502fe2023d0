-- Ground tasks and published orders as lines of text.
use Rattle.std.specs.Prelude.{ℕ, ◌+◌, List, [], ◌∷◌, ◌++◌, map, length, codes, decimal, slice_index_or}
use Rattle.gt_core.specs.Lawful.{conditional_in}
use Rattle.gt_core.specs.Published.{order_of}
use Rattle.action_order.specs.Order.{name_in}
use Rattle.pd_model.specs.declared.calls.Call.{Call}
use Rattle.pd_model.specs.declared.parts.Parts.{Parts}
use Rattle.pd_model.specs.Text.{atom_text, call_text}
use Rattle.grounding_defs.specs.Grounded.{Grounded}

-- one line for each text, with its number; the first has number n
abbrev pub numbered : ℕ → List (List ℕ) → List ℕ
numbered n [] = []
numbered n (text ∷ texts) = codes "; " ++ (decimal n ++ (codes " " ++ (text ++ (codes "\n" ++ numbered (n + 1) texts))))

-- a word with a count
abbrev pub counted : List ℕ → ℕ → List ℕ
counted word n = codes "; " ++ (word ++ (codes " " ++ (decimal n ++ codes "\n")))

-- what the command `ground` prints: the facts, the actions, and how many effects have a condition
abbrev pub ground_text : Parts → Grounded → List ℕ
ground_text p g =
    counted (codes "facts") (length g.facts)
    ++ (numbered 0 (map (atom_text p) g.facts)
    ++ (counted (codes "actions") (length g.calls)
    ++ (numbered 0 (map (call_text p) g.calls)
    ++ counted (codes "effects") (conditional_in g.task.actions))))

-- the call of an action, by its number
abbrev pub call_at : Grounded → ℕ → Call
call_at g a = slice_index_or g.calls a (record { schema = 0; objects = [] })

-- an action in published order: its component, which the least action of it names, and its call
abbrev pub placed : Parts → Grounded → List (List ℕ) → ℕ → List ℕ
placed p g components a = decimal (name_in components a) ++ (codes " " ++ call_text p (call_at g a))

-- how many actions, components and known clauses an order has
abbrev pub order_counts : ℕ → ℕ → ℕ → List ℕ
order_counts actions components pairs =
    codes "; actions " ++ (decimal actions ++ (codes " components " ++ (decimal components ++ (codes " pairs " ++ (decimal pairs ++ codes "\n")))))

-- what the command `order` prints: the counts, and the actions in published order by place
abbrev pub order_text : Parts → Grounded → List (List ℕ) → ℕ → List ℕ
order_text p g components pairs =
    order_counts (length g.calls) (length components) pairs ++ numbered 0 (map (placed p g components) (order_of components))
