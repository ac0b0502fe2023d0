-- What a row more does to the trees.
use Rattle.std.proofs.Common.{arith, ◌≡◌, ℕ, zero, suc, ◌+◌, ◌*◌, ◌<◌, ◌≤◌, List, [], ◌∷◌, ◌++◌, Bool, true, false, length, length-append, replicate, refl, sym, ap, ◌∙◌, subst, Some, ◌⊎◌, inl, inr}
use Rattle.std.specs.Prelude.{slice_get, slice_set, slice_index, if◌then◌else◌}
use Rattle.std.proofs.lemmas.Bool.{cases_lt}
use Rattle.std.proofs.lemmas.List.{length-set, get_or-set_same, get_or-set_other}
use Rattle.std.proofs.Math.ListN.{get_or-append}
use Rattle.std.proofs.Math.Seq.{get_or-append_seam}
use Rattle.bit_sets.specs.Rows.{row_has}
use Rattle.state_store.specs.declared.table.Node.{Node}
use Rattle.state_store.specs.declared.table.Spot.{Spot}
use Rattle.state_store.specs.declared.table.Spot.TheVariants.{Known, Alone, Beside}
use Rattle.state_store.specs.own.Table.{link, node_at, turned, fork, beside, GoesBy, Ends, head_of, bucket, AreTrees, IsSpot}
use Rattle.state_store.proofs.TreeLaw.{same_or_apart, link_within, ends_same, ends_here, ends_once, length-beside, elsewhere, here, newest, still_goes, own_goes}

-- ---- no rows

abbrev empties : ℕ → List ℕ
empties size = replicate size 4294967295

empty_begins : (size b : ℕ) → b < length (empties size) → slice_index (empties size) b ≡ 4294967295
empty_begins zero b lt = absurd (omega (arith, lt))
empty_begins (suc size) zero lt = refl
empty_begins (suc size) (suc b) lt = empty_begins size b (omega (arith, lt))

pub trees_empty : (width size : ℕ) (rows : List (List ℕ)) → AreTrees width (empties size) [] rows 0
trees_empty width size rows = record {
  all = refl;
  bits = λ k lt. absurd (omega (arith, lt));
  zeros = λ k lt. absurd (omega (arith, lt));
  ones = λ k lt. absurd (omega (arith, lt));
  begins = λ b lt. inl (empty_begins size b lt);
  found = λ k row lt at. absurd (omega (arith, lt));
}

-- ---- a way's end

last_within : (nodes : List Node) (row : List ℕ) (count : ℕ) → ((k : ℕ) → k < count → link nodes row k < count) → (k : ℕ) (path : List ℕ) (last leaf : ℕ) → k < count → GoesBy nodes row k path last leaf
    → (last < count) × (leaf < count) × (link nodes row last ≡ leaf) × (leaf ≤ last)
last_within nodes row count within k [] last leaf lt g =
    let here : last < count = subst (λ (n : ℕ). n < count) (sym g.0) lt in
    let next : link nodes row last ≡ leaf = ap (λ (n : ℕ). link nodes row n) g.0 ∙ g.1 in
    (here, subst (λ (n : ℕ). n < count) g.1 (within k lt), next, omega (arith, g.0, g.2))
last_within nodes row count within k (m ∷ path) last leaf lt g = last_within nodes row count within m path last leaf (subst (λ (n : ℕ). n < count) g.0 (within k lt)) g.2

pub end_within : (width : ℕ) (heads : List ℕ) (nodes : List Node) (rows : List (List ℕ)) (row : List ℕ) (k last leaf : ℕ) → AreTrees width heads nodes rows (length nodes) → k < length nodes → Ends nodes row k last leaf
    → (last < length nodes) × (leaf < length nodes) × (link nodes row last ≡ leaf) × (leaf ≤ last)
end_within width heads nodes rows row k last leaf trees lt ends =
    last_within nodes row (length nodes) (λ j below. link_within width heads nodes rows (length nodes) row j trees below) k ends.0 last leaf lt ends.1

-- a row that stands beside another one on its way, and differs from it, is not among those in the trees
pub absent : (width : ℕ) (heads : List ℕ) (nodes : List Node) (rows : List (List ℕ)) (row : List ℕ) (last leaf : ℕ) → AreTrees width heads nodes rows (length nodes)
    → Ends nodes row (head_of heads row) last leaf → (slice_get rows leaf ≡ Some row → ⊥) → (k : ℕ) → k < length nodes → slice_get rows k ≡ Some row → ⊥
absent width heads nodes rows row last leaf trees ends differs k lt at =
    let there = trees.found k row lt at in
    let same = ends_once nodes row (head_of heads row) last leaf there.1.0 k ends there.1.1 in
    differs (ap (slice_get rows) same.1 ∙ at)

-- ---- a row beside another one

turned_within : (node : Node) (side : Bool) (number bound : ℕ) → number < bound → node.zero < bound → node.one < bound → ((turned node side number).zero < bound) × ((turned node side number).one < bound)
turned_within node true number bound lt z o = (z, lt)
turned_within node false number bound lt z o = (lt, o)

turned_tests : (node : Node) (side : Bool) (number : ℕ) → (turned node side number).bit ≡ node.bit
turned_tests node true number = refl
turned_tests node false number = refl

fork_within : (bit : ℕ) (side : Bool) (number other bound : ℕ) → number < bound → other < bound → ((fork bit side number other).zero < bound) × ((fork bit side number other).one < bound)
fork_within bit true number other bound n o = (o, n)
fork_within bit false number other bound n o = (n, o)

fork_tests : (bit : ℕ) (side : Bool) (number other : ℕ) → (fork bit side number other).bit ≡ bit
fork_tests bit true number other = refl
fork_tests bit false number other = refl

module _ (width : ℕ) (heads : List ℕ) (nodes : List Node) (rows : List (List ℕ)) (row : List ℕ) (node other bit : ℕ) (trees : AreTrees width heads nodes rows (length nodes)) (own : slice_get rows (length nodes) ≡ Some row) (spot : IsSpot width heads nodes rows row (Beside node other bit)) where
  abbrev n : ℕ
  n = length nodes

  ways : (node < n) × (other < n) × (link nodes row node ≡ other) × (other ≤ node)
  ways = end_within width heads nodes rows row (head_of heads row) node other trees spot.0 spot.1

  abbrev now : List Node
  now = beside nodes row node other bit

  abbrev Sound : Node → Type 0
  Sound x = (x.bit < 64 * width) × (x.zero < n + 1) × (x.one < n + 1)

  sound : (k : ℕ) → k < n + 1 → Sound (node_at now k)
  sound k lt = by (cases_lt k n) (same_or_apart k node)
    where
      old : (j : ℕ) → j < n → Sound (node_at nodes j)
      old j below = (trees.bits j below, let z = trees.zeros j below in omega (arith, z), let o = trees.ones j below in omega (arith, o))

      by : (k < n) ⊎ (n ≤ k) → (k ≡ node) ⊎ (k ≡ node → ⊥) → Sound (node_at now k)
      by (inl below) (inl e) =
          let was = old node ways.0 in
          let bounds = turned_within (node_at nodes node) (row_has row (node_at nodes node).bit) n (n + 1) (omega arith) was.1 was.2 in
          let tests = turned_tests (node_at nodes node) (row_has row (node_at nodes node).bit) n in
          subst (λ (j : ℕ). Sound (node_at now j)) (sym e)
          (subst Sound (sym (here nodes row node other bit ways.0 ways.2 ways.3)) (subst (λ (b : ℕ). b < 64 * width) (sym tests) was.0, bounds.0, bounds.1))
      by (inl below) (inr apart) = subst Sound (sym (elsewhere nodes row node other bit ways.0 ways.2 ways.3 k below apart)) (old k below)
      by (inr past) which =
          let e : n ≡ k = omega (arith, past, lt) in
          let bounds = fork_within bit (row_has row bit) n other (n + 1) (omega arith) (let o = ways.1 in omega (arith, o)) in
          let tests = fork_tests bit (row_has row bit) n other in
          subst (λ (j : ℕ). Sound (node_at now j)) e
          (subst Sound (sym (newest nodes row node other bit ways.0 ways.2 ways.3)) (subst (λ (b : ℕ). b < 64 * width) (sym tests) spot.2, bounds.0, bounds.1))

  told : (r : List ℕ) (k : ℕ) → slice_get rows k ≡ Some r → k ≡ other → row_has r bit ≡ row_has row bit → ⊥
  told r k at is same =
      let there = spot.3 in
      let e : there.0 ≡ r = let s : Some there.0 ≡ Some r = sym there.1 ∙ ap (slice_get rows) (sym is) ∙ at in cc in
      there.2 (ap (λ (xs : List ℕ). row_has xs bit) e ∙ same)

  found : (k : ℕ) (r : List ℕ) → k < n + 1 → slice_get rows k ≡ Some r → (head_of heads r < n + 1) × ((last : ℕ) × Ends now r (head_of heads r) last k)
  found k r lt at = by (cases_lt k n)
    where
      by : (k < n) ⊎ (n ≤ k) → (head_of heads r < n + 1) × ((last : ℕ) × Ends now r (head_of heads r) last k)
      by (inl below) =
          let old = trees.found k r below at in (
            let h = old.0 in omega (arith, h),
            still_goes nodes row node other bit ways.0 ways.2 ways.3 r (λ j l. link_within width heads nodes rows n r j trees l) (head_of heads r) old.1.1.0 old.1.0 k old.0 (told r k at) old.1.1.1,
          )
      by (inr past) =
          let e : n ≡ k = omega (arith, past, lt) in
          let is : row ≡ r = let s : Some row ≡ Some r = sym own ∙ ap (slice_get rows) e ∙ at in cc in
          subst (λ (xs : List ℕ). (head_of heads xs < n + 1) × ((last : ℕ) × Ends now xs (head_of heads xs) last k)) is (
            let h = spot.0 in omega (arith, h),
            (
              n,
              subst (λ (j : ℕ). Ends now row (head_of heads row) n j) e
                  (own_goes nodes row node other bit ways.0 ways.2 ways.3 (λ j l. link_within width heads nodes rows n row j trees l) (head_of heads row) spot.1.0 spot.0 spot.1.1),
            ),
          )

  pub trees_beside : AreTrees width heads now rows (length now)
  trees_beside =
      let long = length-beside nodes row node other bit ways.0 ways.2 ways.3 in
      subst (AreTrees width heads now rows) (sym long)
      (record {
        all = long;
        bits = λ k lt. (sound k lt).0;
        zeros = λ k lt. (sound k lt).1;
        ones = λ k lt. (sound k lt).2;
        begins = λ b lt. elim (trees.begins b lt) [ inl e ↦ inl e | inr h ↦ inr (omega (arith, h)) ];
        found = found;
      })

-- ---- a row alone in its bucket

module _ (width : ℕ) (heads : List ℕ) (nodes : List Node) (rows : List (List ℕ)) (row : List ℕ) (trees : AreTrees width heads nodes rows (length nodes)) (own : slice_get rows (length nodes) ≡ Some row) (few : length nodes < 4294967295) (wide : 0 < width) (inside : bucket (length heads) row < length heads) (spot : head_of heads row ≡ 4294967295) where
  abbrev m : ℕ
  m = length nodes

  abbrev own_node : Node
  own_node = record { bit = 0; zero = m; one = m }

  abbrev after : List Node
  after = nodes ++ own_node ∷ []

  abbrev begun : List ℕ
  begun = slice_set heads (bucket (length heads) row) m

  kept : (k : ℕ) → k < m → node_at after k ≡ node_at nodes k
  kept k lt = get_or-append nodes (own_node ∷ []) _ k lt

  added : node_at after m ≡ own_node
  added = get_or-append_seam nodes own_node [] _

  abbrev Right : Node → Type 0
  Right x = (x.bit < 64 * width) × (x.zero < m + 1) × (x.one < m + 1)

  right : (k : ℕ) → k < m + 1 → Right (node_at after k)
  right k lt = by (cases_lt k m)
    where
      by : (k < m) ⊎ (m ≤ k) → Right (node_at after k)
      by (inl below) = subst Right (sym (kept k below)) (trees.bits k below, let z = trees.zeros k below in omega (arith, z), let o = trees.ones k below in omega (arith, o))
      by (inr past) =
          let e : m ≡ k = omega (arith, past, lt) in
          subst (λ (j : ℕ). Right (node_at after j)) e (subst Right (sym added) (omega (arith, wide), omega arith, omega arith))

  long_heads : length begun ≡ length heads
  long_heads = length-set heads (bucket (length heads) row) m

  -- the bucket of a row stays, as there are as many
  same_bucket : (r : List ℕ) → bucket (length begun) r ≡ bucket (length heads) r
  same_bucket r = ap (λ (s : ℕ). bucket s r) long_heads

  own_head : head_of begun row ≡ m
  own_head = ap (slice_index begun) (same_bucket row) ∙ get_or-set_same heads (bucket (length heads) row) m 0 inside

  other_head : (r : List ℕ) → (bucket (length heads) r ≡ bucket (length heads) row → ⊥) → head_of begun r ≡ head_of heads r
  other_head r apart = ap (slice_index begun) (same_bucket r) ∙ get_or-set_other heads (bucket (length heads) row) (bucket (length heads) r) m 0 apart

  starts : (b : ℕ) → b < length begun → (slice_index begun b ≡ 4294967295) ⊎ (slice_index begun b < m + 1)
  starts b lt = by (same_or_apart b (bucket (length heads) row))
    where
      by : (b ≡ bucket (length heads) row) ⊎ (b ≡ bucket (length heads) row → ⊥) → (slice_index begun b ≡ 4294967295) ⊎ (slice_index begun b < m + 1)
      by (inl e) =
          let is : slice_index begun b ≡ m = ap (slice_index begun) e ∙ get_or-set_same heads (bucket (length heads) row) m 0 inside in
          inr (omega (arith, is))
      by (inr apart) =
          let is : slice_index begun b ≡ slice_index heads b = get_or-set_other heads (bucket (length heads) row) b m 0 apart in
          elim (trees.begins b (omega (arith, lt, long_heads))) [ inl e ↦ inl (is ∙ e) | inr h ↦ inr (omega (arith, is, h)) ]

  reached : (k : ℕ) (r : List ℕ) → k < m + 1 → slice_get rows k ≡ Some r → (head_of begun r < m + 1) × ((last : ℕ) × Ends after r (head_of begun r) last k)
  reached k r lt at = by (cases_lt k m)
    where
      by : (k < m) ⊎ (m ≤ k) → (head_of begun r < m + 1) × ((last : ℕ) × Ends after r (head_of begun r) last k)
      by (inl below) =
          let old = trees.found k r below at in
          let apart : (bucket (length heads) r ≡ bucket (length heads) row → ⊥) = λ e. (
          let is : head_of heads r ≡ 4294967295 = ap (slice_index heads) e ∙ spot in
          let h = old.0 in
          omega (arith, is, h, few)
          ) in
          let same = other_head r apart in
          let h = old.0 in (
            omega (arith, same, h),
            (
              old.1.0,
              subst (λ (j : ℕ). Ends after r j old.1.0 k) (sym same)
                  (ends_same nodes after r m (λ j l. link_within width heads nodes rows m r j trees l) (λ j l. ap (λ (x : Node). if row_has r x.bit then x.one else x.zero) (kept j l)) (head_of heads r) old.1.0 k h old.1.1),
            ),
          )
      by (inr past) =
          let e : m ≡ k = omega (arith, past, lt) in
          let is : row ≡ r = let s : Some row ≡ Some r = sym own ∙ ap (slice_get rows) e ∙ at in cc in
          subst (λ (xs : List ℕ). (head_of begun xs < m + 1) × ((last : ℕ) × Ends after xs (head_of begun xs) last k)) is (
            omega (arith, own_head),
            (
              m,
              subst (λ (j : ℕ). Ends after row j m k) (sym own_head)
                  (subst (λ (j : ℕ). Ends after row m m j) e (ends_here after row m m (ap (λ (x : Node). if row_has row x.bit then x.one else x.zero) added ∙ either (row_has row 0)) (omega arith))),
            ),
          )
        where
          either : (b : Bool) → (if b then m else m) ≡ m
          either true = refl
          either false = refl

  pub trees_alone : AreTrees width begun after rows (length after)
  trees_alone =
      let long : length after ≡ m + 1 = length-append nodes (own_node ∷ []) in
      subst (AreTrees width begun after rows) (sym long)
      (record { all = long; bits = λ k lt. (right k lt).0; zeros = λ k lt. (right k lt).1; ones = λ k lt. (right k lt).2; begins = starts; found = reached })

-- ---- a row's spot

pub head_within : (width : ℕ) (heads : List ℕ) (nodes : List Node) (rows : List (List ℕ)) (row : List ℕ) (head : ℕ) → AreTrees width heads nodes rows (length nodes) → bucket (length heads) row < length heads
    → head ≡ head_of heads row → (head ≡ 4294967295 → ⊥) → head < length nodes
head_within width heads nodes rows row head trees inside is full =
    elim (trees.begins (bucket (length heads) row) inside) [ inl e ↦ absurd (full (is ∙ e)) | inr h ↦ omega (arith, h, is) ]

-- a row that has a spot and is not known is not among those in the trees
pub absent_unless : (width : ℕ) (heads : List ℕ) (nodes : List Node) (rows : List (List ℕ)) (row : List ℕ) (spot : Spot) → AreTrees width heads nodes rows (length nodes) → length nodes ≤ 4294967295
    → IsSpot width heads nodes rows row spot → ((k : ℕ) → spot ≡ Known k → ⊥) → (k : ℕ) → k < length nodes → slice_get rows k ≡ Some row → ⊥
absent_unless width heads nodes rows row (Known j) trees few is not k lt at = not j refl
absent_unless width heads nodes rows row Alone trees few is not k lt at = let h = (trees.found k row lt at).0 in omega (arith, h, is, few)
absent_unless width heads nodes rows row (Beside node other bit) trees few is not k lt at =
    absent width heads nodes rows row node other trees is.1
    (λ there. let e : is.3.0 ≡ row = let s : Some is.3.0 ≡ Some row = sym is.3.1 ∙ there in cc in is.3.2 (ap (λ (xs : List ℕ). row_has xs bit) e))
    k lt at
