-- Numbered rows in decision trees, one for each bucket of a table, so that a row is found by what it is.
use Rattle.std.specs.Prelude.{◌≡◌, ℕ, ◌+◌, ◌*◌, ◌/◌, ◌%◌, ◌^◌, ◌<◌, ◌≤◌, ◌⊎◌, if◌then◌else◌, List, [], ◌∷◌, ◌++◌, Bool, true, false, Some, length, slice_get, slice_set, slice_index, slice_index_or}
use Rattle.bit_sets.specs.Rows.{row_has}
use Rattle.state_store.specs.declared.table.Node.{Node}
use Rattle.state_store.specs.declared.table.Spot.{Spot}
use Rattle.state_store.specs.declared.table.Spot.TheVariants.{Known, Alone, Beside}

-- a hash with one more word: multiplied, and the upper half added to the lower one
abbrev pub mixed : ℕ → ℕ → ℕ
mixed hash word = let scattered = (hash + word) % 2 ^ 64 * 11400714819323198485 % 2 ^ 64 in (scattered + scattered / 2 ^ 32) % 2 ^ 64

-- the hash of a row of words, going on from this one
abbrev pub hash_from : ℕ → List ℕ → ℕ
hash_from hash [] = hash
hash_from hash (word ∷ words) = hash_from (mixed hash word) words

-- the bucket of a row among so many: the upper half of its hash, as a fraction of them
abbrev pub bucket : ℕ → List ℕ → ℕ
bucket size row = hash_from 0 row / 2 ^ 32 * size / 2 ^ 32

-- what a table has: for how many rows there is room, for each bucket the number of its first row, and the nodes, one a row
pub record Trees : Type 0 where
  pub most : ℕ
  pub heads : List ℕ
  pub nodes : List Node

-- the node with this number; an empty one past the last
abbrev pub node_at : List Node → ℕ → Node
node_at nodes k = slice_index_or nodes k (record { bit = 0; zero = 0; one = 0 })

-- where a row goes on from a node
abbrev pub link : List Node → List ℕ → ℕ → ℕ
link nodes row k = if row_has row (node_at nodes k).bit then (node_at nodes k).one else (node_at nodes k).zero

-- a node that sends the rows with one value of its bit to a node with a number
abbrev pub turned : Node → Bool → ℕ → Node
turned node true number = record node { one = number }
turned node false number = record node { zero = number }

-- a node from which a row with this value of a bit goes to one number, and others to another
abbrev pub fork : ℕ → Bool → ℕ → ℕ → Node
fork bit true number other = record { bit = bit; zero = other; one = number }
fork bit false number other = record { bit = bit; zero = number; one = other }

-- the nodes with one more, below a node on a row's side, which tells the row from another one by a bit
abbrev pub beside : List Node → List ℕ → ℕ → ℕ → ℕ → List Node
beside nodes row node other bit =
    slice_set nodes node (turned (node_at nodes node) (row_has row (node_at nodes node).bit) (length nodes))
    ++ fork bit (row_has row bit) (length nodes) other ∷ []

-- A row's way down from a node: a link to a greater number leads to the node with this number, any other one to the row with this
-- number. `last` is the node at which the way ends, `leaf` the row to which it leads.
abbrev pub GoesBy : List Node → List ℕ → ℕ → List ℕ → ℕ → ℕ → Type 0
GoesBy nodes row k [] last leaf = (last ≡ k) × (link nodes row k ≡ leaf) × (leaf ≤ k)
GoesBy nodes row k (m ∷ path) last leaf = (link nodes row k ≡ m) × (k < m) × GoesBy nodes row m path last leaf

-- some way of a row from a node ends at this node and leads to this row
abbrev pub Ends : List Node → List ℕ → ℕ → ℕ → ℕ → Type 0
Ends nodes row k last leaf = (path : List ℕ) × GoesBy nodes row k path last leaf

-- the node at which a row's way begins; 4294967295 where its bucket is empty
abbrev pub head_of : List ℕ → List ℕ → ℕ
head_of heads row = slice_index heads (bucket (length heads) row)

-- the first rows, so many, are each where their ways lead
pub record AreTrees (width : ℕ) (heads : List ℕ) (nodes : List Node) (rows : List (List ℕ)) (count : ℕ) : Type 0 where
  pub all : length nodes ≡ count
  pub bits : (k : ℕ) → k < count → (node_at nodes k).bit < 64 * width
  pub zeros : (k : ℕ) → k < count → (node_at nodes k).zero < count
  pub ones : (k : ℕ) → k < count → (node_at nodes k).one < count
  pub begins : (b : ℕ) → b < length heads → (slice_index heads b ≡ 4294967295) ⊎ (slice_index heads b < count)
  pub found : (k : ℕ) (row : List ℕ) → k < count → slice_get rows k ≡ Some row → (head_of heads row < count) × ((last : ℕ) × Ends nodes row (head_of heads row) last k)

-- where a row belongs: it is known, or alone in its bucket, or beside another one, from which a bit tells it
abbrev pub IsSpot : ℕ → List ℕ → List Node → List (List ℕ) → List ℕ → Spot → Type 0
IsSpot width heads nodes rows row (Known k) = (k < length nodes) × (slice_get rows k ≡ Some row)
IsSpot width heads nodes rows row Alone = head_of heads row ≡ 4294967295
IsSpot width heads nodes rows row (Beside node other bit) =
    (head_of heads row < length nodes) × Ends nodes row (head_of heads row) node other × (bit < 64 * width)
    × ((there : List ℕ) × (slice_get rows other ≡ Some there) × (row_has there bit ≡ row_has row bit → ⊥))
