-- The way of a row through the nodes, and what one more node does to it.
use Rattle.std.proofs.Common.{arith, ◌≡◌, ℕ, ◌+◌, ◌<◌, ◌≤◌, List, [], ◌∷◌, Bool, true, false, length, length-append, refl, sym, ap, ◌∙◌, subst, ◌⊎◌, inl, inr}
use Rattle.std.specs.Prelude.{slice_set, if◌then◌else◌}
use Rattle.std.proofs.lemmas.List.{length-set, get_or-set_same, get_or-set_other}
use Rattle.std.proofs.Math.ListN.{get_or-append}
use Rattle.std.proofs.Math.Seq.{get_or-append_seam}
use Rattle.bit_sets.specs.Rows.{row_has}
use Rattle.state_store.specs.declared.table.Node.{Node}
use Rattle.state_store.specs.own.Table.{link, node_at, turned, fork, beside, GoesBy, Ends, AreTrees}

pub same_or_apart : (m n : ℕ) → (m ≡ n) ⊎ (m ≡ n → ⊥)
same_or_apart m n = grind arith

same_bit : (a b : Bool) → (a ≡ b) ⊎ (a ≡ b → ⊥)
same_bit true true = inl refl
same_bit true false = inr (λ e. cc)
same_bit false true = inr (λ e. cc)
same_bit false false = inl refl

-- there is one way down
goes_once : (nodes : List Node) (row : List ℕ) (k : ℕ) (path path2 : List ℕ) (last leaf last2 leaf2 : ℕ) → GoesBy nodes row k path last leaf → GoesBy nodes row k path2 last2 leaf2 → (last ≡ last2) × (leaf ≡ leaf2)
goes_once nodes row k [] [] last leaf last2 leaf2 g h = (g.0 ∙ sym h.0, sym g.1 ∙ h.1)
goes_once nodes row k [] (m ∷ path2) last leaf last2 leaf2 g h = absurd (omega (arith, g.1, g.2, h.0, h.1))
goes_once nodes row k (m ∷ path) [] last leaf last2 leaf2 g h = absurd (omega (arith, h.1, h.2, g.0, g.1))
goes_once nodes row k (m ∷ path) (m2 ∷ path2) last leaf last2 leaf2 g h =
    let e : m2 ≡ m = sym h.0 ∙ g.0 in
    goes_once nodes row m path path2 last leaf last2 leaf2 g.2 (subst (λ (n : ℕ). GoesBy nodes row n path2 last2 leaf2) e h.2)

pub ends_once : (nodes : List Node) (row : List ℕ) (k last leaf last2 leaf2 : ℕ) → Ends nodes row k last leaf → Ends nodes row k last2 leaf2 → (last ≡ last2) × (leaf ≡ leaf2)
ends_once nodes row k last leaf last2 leaf2 g h = goes_once nodes row k g.0 h.0 last leaf last2 leaf2 g.1 h.1

pub ends_here : (nodes : List Node) (row : List ℕ) (k leaf : ℕ) → link nodes row k ≡ leaf → leaf ≤ k → Ends nodes row k k leaf
ends_here nodes row k leaf is le = ([], (refl, is, le))

pub ends_on : (nodes : List Node) (row : List ℕ) (k m last leaf : ℕ) → link nodes row k ≡ m → k < m → Ends nodes row m last leaf → Ends nodes row k last leaf
ends_on nodes row k m last leaf is lt ends = (m ∷ ends.0, (is, lt, ends.1))

-- a link leads to a number that there is
pub link_within : (width : ℕ) (heads : List ℕ) (nodes : List Node) (rows : List (List ℕ)) (count : ℕ) (row : List ℕ) (k : ℕ) → AreTrees width heads nodes rows count → k < count → link nodes row k < count
link_within width heads nodes rows count row k trees lt = by (row_has row (node_at nodes k).bit)
  where
    by : (b : Bool) → (if b then (node_at nodes k).one else (node_at nodes k).zero) < count
    by true = trees.ones k lt
    by false = trees.zeros k lt

-- links that stay the same lead the same way
module _ (old new : List Node) (row : List ℕ) (count : ℕ) (within : (k : ℕ) → k < count → link old row k < count) (same : (k : ℕ) → k < count → link new row k ≡ link old row k) where
  goes_same : (k : ℕ) (path : List ℕ) (last leaf : ℕ) → k < count → GoesBy old row k path last leaf → GoesBy new row k path last leaf
  goes_same k [] last leaf lt g = (g.0, same k lt ∙ g.1, g.2)
  goes_same k (m ∷ path) last leaf lt g =
      let below : m < count = subst (λ (n : ℕ). n < count) g.0 (within k lt) in
      (same k lt ∙ g.0, g.1, goes_same m path last leaf below g.2)

  pub ends_same : (k last leaf : ℕ) → k < count → Ends old row k last leaf → Ends new row k last leaf
  ends_same k last leaf lt g = (g.0, goes_same k g.0 last leaf lt g.1)

-- a bit tells the sides of a fork
fork_other : (bit : ℕ) (own other : ℕ) (mine theirs : Bool) → (theirs ≡ mine → ⊥) → (if theirs then (fork bit mine own other).one else (fork bit mine own other).zero) ≡ other
fork_other bit own other true true apart = absurd (apart refl)
fork_other bit own other true false apart = refl
fork_other bit own other false true apart = refl
fork_other bit own other false false apart = absurd (apart refl)

fork_own : (bit own other : ℕ) (mine : Bool) → (if mine then (fork bit mine own other).one else (fork bit mine own other).zero) ≡ own
fork_own bit own other true = refl
fork_own bit own other false = refl

fork_bit : (bit own other : ℕ) (mine : Bool) → (fork bit mine own other).bit ≡ bit
fork_bit bit own other true = refl
fork_bit bit own other false = refl

turned_bit : (node : Node) (side : Bool) (number : ℕ) → (turned node side number).bit ≡ node.bit
turned_bit node true number = refl
turned_bit node false number = refl

turned_same : (node : Node) (side : Bool) (number : ℕ) → (if side then (turned node side number).one else (turned node side number).zero) ≡ number
turned_same node true number = refl
turned_same node false number = refl

turned_other : (node : Node) (side theirs : Bool) (number : ℕ) → (theirs ≡ side → ⊥) → (if theirs then (turned node side number).one else (turned node side number).zero) ≡ (if theirs then node.one else node.zero)
turned_other node true true number apart = absurd (apart refl)
turned_other node true false number apart = refl
turned_other node false true number apart = refl
turned_other node false false number apart = absurd (apart refl)

-- One more node, beside a row.
module _ (nodes : List Node) (row : List ℕ) (node other bit : ℕ) (at : node < length nodes) (leads : link nodes row node ≡ other) (up : other ≤ node) where
  abbrev now : List Node
  now = beside nodes row node other bit

  abbrev side : Bool
  side = row_has row (node_at nodes node).bit

  abbrev changed : List Node
  changed = slice_set nodes node (turned (node_at nodes node) side (length nodes))

  abbrev last_one : List Node
  last_one = fork bit (row_has row bit) (length nodes) other ∷ []

  long : length changed ≡ length nodes
  long = length-set nodes node (turned (node_at nodes node) side (length nodes))

  pub length-beside : length now ≡ length nodes + 1
  length-beside = let l = length-append changed last_one in omega (arith, l, long)

  before : (k : ℕ) → k < length nodes → node_at now k ≡ node_at changed k
  before k lt = get_or-append changed last_one _ k (omega (arith, lt, long))

  pub elsewhere : (k : ℕ) → k < length nodes → (k ≡ node → ⊥) → node_at now k ≡ node_at nodes k
  elsewhere k lt apart = before k lt ∙ get_or-set_other nodes node k (turned (node_at nodes node) side (length nodes)) _ apart

  pub here : node_at now node ≡ turned (node_at nodes node) side (length nodes)
  here = before node at ∙ get_or-set_same nodes node (turned (node_at nodes node) side (length nodes)) _ at

  pub newest : node_at now (length nodes) ≡ fork bit (row_has row bit) (length nodes) other
  newest = ap (λ (n : ℕ). node_at now n) (sym long) ∙ get_or-append_seam changed (fork bit (row_has row bit) (length nodes) other) [] _

  -- where a row goes on from a node
  abbrev from : List ℕ → Node → ℕ
  from r x = if row_has r x.bit then x.one else x.zero

  link_elsewhere : (r : List ℕ) (k : ℕ) → k < length nodes → (k ≡ node → ⊥) → link now r k ≡ link nodes r k
  link_elsewhere r k lt apart = ap (from r) (elsewhere k lt apart)

  tested_here : (r : List ℕ) → row_has r (turned (node_at nodes node) side (length nodes)).bit ≡ row_has r (node_at nodes node).bit
  tested_here r = ap (row_has r) (turned_bit (node_at nodes node) side (length nodes))

  link_turned : (r : List ℕ) → row_has r (node_at nodes node).bit ≡ side → link now r node ≡ length nodes
  link_turned r same =
      ap (from r) here
      ∙ ap (λ (b : Bool). if b then (turned (node_at nodes node) side (length nodes)).one else (turned (node_at nodes node) side (length nodes)).zero) (tested_here r ∙ same)
      ∙ turned_same (node_at nodes node) side (length nodes)

  link_kept : (r : List ℕ) → (row_has r (node_at nodes node).bit ≡ side → ⊥) → link now r node ≡ link nodes r node
  link_kept r apart =
      ap (from r) here
      ∙ ap (λ (b : Bool). if b then (turned (node_at nodes node) side (length nodes)).one else (turned (node_at nodes node) side (length nodes)).zero) (tested_here r)
      ∙ turned_other (node_at nodes node) side (row_has r (node_at nodes node).bit) (length nodes) apart

  link_newest : (r : List ℕ) → link now r (length nodes) ≡ (if row_has r bit then (fork bit (row_has row bit) (length nodes) other).one else (fork bit (row_has row bit) (length nodes) other).zero)
  link_newest r =
      ap (from r) newest
      ∙ ap (λ (b : ℕ). if row_has r b then (fork bit (row_has row bit) (length nodes) other).one else (fork bit (row_has row bit) (length nodes) other).zero) (fork_bit bit (length nodes) other (row_has row bit))

  -- a row with the same bit there goes on as the other one did
  same_side : (r : List ℕ) → row_has r (node_at nodes node).bit ≡ side → link nodes r node ≡ other
  same_side r same = ap (λ (b : Bool). if b then (node_at nodes node).one else (node_at nodes node).zero) same ∙ leads

  module _ (r : List ℕ) (within : (k : ℕ) → k < length nodes → link nodes r k < length nodes) where
    -- a row that was found is still found, where the new bit tells it from the new row if it stood beside it
    pub still_goes : (k : ℕ) (path : List ℕ) (last leaf : ℕ) → k < length nodes → (leaf ≡ other → row_has r bit ≡ row_has row bit → ⊥) → GoesBy nodes r k path last leaf → (l : ℕ) × Ends now r k l leaf
    still_goes k [] last leaf lt told g = by (same_or_apart k node) (same_bit (row_has r (node_at nodes node).bit) side)
      where
        by : (k ≡ node) ⊎ (k ≡ node → ⊥) → (row_has r (node_at nodes node).bit ≡ side) ⊎ (row_has r (node_at nodes node).bit ≡ side → ⊥) → (l : ℕ) × Ends now r k l leaf
        by (inl e) (inl same) =
            let is : leaf ≡ other = sym g.1 ∙ ap (λ (n : ℕ). link nodes r n) e ∙ same_side r same in
            let on : link now r k ≡ length nodes = ap (λ (n : ℕ). link now r n) e ∙ link_turned r same in
            let end : link now r (length nodes) ≡ leaf = link_newest r ∙ fork_other bit (length nodes) other (row_has row bit) (row_has r bit) (told is) ∙ sym is in
            (length nodes, ends_on now r k (length nodes) (length nodes) leaf on lt (ends_here now r (length nodes) leaf end (omega (arith, is, up, at))))
        by (inl e) (inr apart) =
            let is : link now r k ≡ leaf = ap (λ (n : ℕ). link now r n) e ∙ link_kept r apart ∙ ap (λ (n : ℕ). link nodes r n) (sym e) ∙ g.1 in
            (k, ends_here now r k leaf is g.2)
        by (inr apart) side_of = (k, ends_here now r k leaf (link_elsewhere r k lt apart ∙ g.1) g.2)
    still_goes k (m ∷ path) last leaf lt told g =
        let below : m < length nodes = subst (λ (n : ℕ). n < length nodes) g.0 (within k lt) in
        let rest = still_goes m path last leaf below told g.2 in
        by rest (same_or_apart k node) (same_bit (row_has r (node_at nodes node).bit) side)
      where
        by : ((l : ℕ) × Ends now r m l leaf) → (k ≡ node) ⊎ (k ≡ node → ⊥) → (row_has r (node_at nodes node).bit ≡ side) ⊎ (row_has r (node_at nodes node).bit ≡ side → ⊥) → (l : ℕ) × Ends now r k l leaf
        by rest (inl e) (inl same) =
            let is : m ≡ other = sym g.0 ∙ ap (λ (n : ℕ). link nodes r n) e ∙ same_side r same in
            absurd (omega (arith, is, e, g.1, up))
        by rest (inl e) (inr apart) =
            let is : link now r k ≡ m = ap (λ (n : ℕ). link now r n) e ∙ link_kept r apart ∙ ap (λ (n : ℕ). link nodes r n) (sym e) ∙ g.0 in
            (rest.0, ends_on now r k m rest.0 leaf is g.1 rest.1)
        by rest (inr apart) side_of = (rest.0, ends_on now r k m rest.0 leaf (link_elsewhere r k lt apart ∙ g.0) g.1 rest.1)

  -- the new row is found
  pub own_goes : (within : (k : ℕ) → k < length nodes → link nodes row k < length nodes) (k : ℕ) (path : List ℕ) → k < length nodes → GoesBy nodes row k path node other → Ends now row k (length nodes) (length nodes)
  own_goes within k [] lt g =
      let on : link now row k ≡ length nodes = ap (λ (n : ℕ). link now row n) (sym g.0) ∙ link_turned row refl in
      ends_on now row k (length nodes) (length nodes) (length nodes) on lt
      (ends_here now row (length nodes) (length nodes) (link_newest row ∙ fork_own bit (length nodes) other (row_has row bit)) (omega arith))
  own_goes within k (m ∷ path) lt g =
      let below : m < length nodes = subst (λ (n : ℕ). n < length nodes) g.0 (within k lt) in
      let rest = own_goes within m path below g.2 in
      by rest (same_or_apart k node)
    where
      by : Ends now row m (length nodes) (length nodes) → (k ≡ node) ⊎ (k ≡ node → ⊥) → Ends now row k (length nodes) (length nodes)
      by rest (inl e) =
          let is : m ≡ other = sym g.0 ∙ ap (λ (n : ℕ). link nodes row n) e ∙ leads in
          absurd (omega (arith, is, e, g.1, up))
      by rest (inr apart) = ends_on now row k m (length nodes) (length nodes) (link_elsewhere row k lt apart ∙ g.0) g.1 rest
