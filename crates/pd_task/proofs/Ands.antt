-- Lists after `and`, item by item, as a loop reads them.
use Rattle.std.proofs.Common.{arith, ◌≡◌, ℕ, ◌+◌, ◌<◌, ◌≤◌, List, length, get_or, drop, Result, Ok, Err, refl, ◌∙◌, sym}
use Rattle.std.specs.Prelude.{IsErrAnd}
use Rattle.std.proofs.lemmas.List.{drop_more, drop_all}
use Rattle.pd_sexp.specs.Tree as defs
use Rattle.pd_sexp.specs.declared.tree.Tree.{Tree}
use Rattle.pd_sexp.specs.View.{view, views}
use Rattle.pd_words.specs.declared.fault.Fault.{Fault}
use Rattle.pd_words.specs.declared.fault.ReadError.{ReadError}
use Rattle.pd_words.specs.declared.fault.ReadError.TheVariants as errors
use Rattle.pd_words.specs.declared.keyword.Keyword.TheVariants as heads
use Rattle.pd_words.specs.Words.{head_of}
use Rattle.pd_words.specs.First.{◌>>=◌, Fails, Leaves, LeavesOr, each, fault_of}
use Rattle.pd_task.specs.Atoms.{Names, condition, conditions}
use Rattle.pd_task.specs.Effects.{Site, literals, all_literals, effect, all_effects}

-- `all` reads items as `one` does, each with what those before it gave
pub record IsEach {S : Type 0} (one : S → defs.Tree → Result S Fault) (all : S → defs.Trees → Result S Fault) : Type 0 where
  pub none : (s : S) → all s defs.no_trees ≡ Ok s
  pub some : (s : S) (t : defs.Tree) (ts : defs.Trees) → all s (defs.and_tree t ts) ≡ (one s t >>= λ next. all next ts)

pub each_is : {S : Type 0} (step : S → defs.Tree → Result S Fault) → IsEach step (each step)
each_is step = record { none = λ s. refl; some = λ s t ts. refl }

-- the same, and a list after `and` is its items
pub record IsListed {S : Type 0} (one : S → defs.Tree → Result S Fault) (all : S → defs.Trees → Result S Fault) : Type 0 where
  pub items : IsEach one all
  pub list : (s : S) (at : ℕ) (head : defs.Tree) (rest : defs.Trees) → head_of head ≡ heads.And → one s (defs.list at (defs.and_tree head rest)) ≡ all s rest

pub conditions_listed : (names : Names) → IsListed (condition names) (conditions names)
conditions_listed names = record { items = record { none = λ s. refl; some = λ s t ts. refl }; list = λ s at head rest is. grind (arith, is) }

pub literals_listed : (site : Site) → IsListed (literals site) (all_literals site)
literals_listed site = record { items = record { none = λ s. refl; some = λ s t ts. refl }; list = λ s at head rest is. grind (arith, is) }

pub effects_listed : (types : List (List ℕ)) (site : Site) → IsListed (effect types site) (all_effects types site)
effects_listed types site = record { items = record { none = λ s. refl; some = λ s t ts. refl }; list = λ s at head rest is. grind (arith, is) }

-- an error that is handed on as it is
pub handed_on : {S X : Type 0} (read : Result S Fault) (value : X → S) (e : ReadError) (r : Result X ReadError) → Fails e read → IsErrAnd r (λ y. y ≡ e) → LeavesOr fault_of read value r
handed_on read value e (Ok x) fails h = absurd h
handed_on read value e (Err y) fails h = rw h fails

module _ {S : Type 0} {one : S → defs.Tree → Result S Fault} {all : S → defs.Trees → Result S Fault} (read : IsEach one all) where
  at_item : (rest : List Tree) (i : ℕ) (item : Tree) (front : S) → i < length rest → item ≡ get_or rest i item
      → all front (views (drop i rest)) ≡ (one front (view item) >>= λ next. all next (views (drop (i + 1) rest)))
  at_item rest i item front lt at =
      let more = drop_more rest i item lt in
      rw (more, ← at) (read.some front (view item) (views (drop (i + 1) rest)))

  -- the items after one that was read
  pub item_read : (rest : List Tree) (i : ℕ) (item : Tree) (front new : S) (whole : Result S Fault) → i < length rest → item ≡ get_or rest i item
      → all front (views (drop i rest)) ≡ whole → one front (view item) ≡ Ok new → all new (views (drop (i + 1) rest)) ≡ whole
  item_read rest i item front new whole lt at so_far is =
      let here : all front (views (drop i rest)) ≡ all new (views (drop (i + 1) rest)) = at_item rest i item front lt at ∙ rw is refl in
      sym here ∙ so_far

  item_fails : (rest : List Tree) (i : ℕ) (item : Tree) (front : S) (whole : Result S Fault) (e : ReadError) → i < length rest → item ≡ get_or rest i item
      → all front (views (drop i rest)) ≡ whole → Fails e (one front (view item)) → Fails e whole
  item_fails rest i item front whole errors.Memory lt at so_far is = tt
  item_fails rest i item front whole (errors.Fault f) lt at so_far is = sym so_far ∙ at_item rest i item front lt at ∙ rw is refl

  -- a fault of an item, as a loop that gives a value hands it on
  pub item_handed_on : {X : Type 0} (rest : List Tree) (i : ℕ) (item : Tree) (front : S) (whole : Result S Fault) (value : X → S) (e : ReadError) (r : Result X ReadError) → i < length rest → item ≡ get_or rest i item
      → all front (views (drop i rest)) ≡ whole → Fails e (one front (view item)) → IsErrAnd r (λ y. y ≡ e) → LeavesOr fault_of whole value r
  item_handed_on rest i item front whole value e r lt at so_far is = handed_on whole value e r (item_fails rest i item front whole e lt at so_far is)

module _ {S : Type 0} {one : S → defs.Tree → Result S Fault} {all : S → defs.Trees → Result S Fault} (listed : IsListed one all) where
  -- a fault of an item is that of the list
  pub and_fails : (before front new : S) (at : ℕ) (head : defs.Tree) (rest : List Tree) (tree : defs.Tree) (i : ℕ) (item : Tree) (e : ReadError) (r : Result (Unit {0}) ReadError)
      → tree ≡ defs.list at (defs.and_tree head (views rest)) → head_of head ≡ heads.And → i < length rest → item ≡ get_or rest i item
      → all front (views (drop i rest)) ≡ all before (views rest) → Fails e (one front (view item)) → IsErrAnd r (λ y. y ≡ e) → Leaves (one before tree) new r
  and_fails before front new at head rest tree i item e r is is-and lt got so_far fails err =
      let whole : one before tree ≡ all before (views rest) = rw is (listed.list before at head (views rest) is-and) in
      let failed = item_fails listed.items rest i item front (all before (views rest)) e lt got so_far fails in
      handed_on (one before tree) (λ _. new) e r (rw whole failed) err

  -- no item is left
  pub and_ends : (before front : S) (at : ℕ) (head : defs.Tree) (rest : List Tree) (tree : defs.Tree) (i : ℕ)
      → tree ≡ defs.list at (defs.and_tree head (views rest)) → head_of head ≡ heads.And → length rest ≤ i
      → all front (views (drop i rest)) ≡ all before (views rest) → one before tree ≡ Ok front
  and_ends before front at head rest tree i is is-and past so_far =
      let whole : one before tree ≡ all before (views rest) = rw is (listed.list before at head (views rest) is-and) in
      let left = drop_all i rest past in
      let end : all front defs.no_trees ≡ all before (views rest) = rw left at so_far in
      whole ∙ sym end ∙ listed.items.none front
