-- Stored rows as states.
use Rattle.std.proofs.Common.{arith, ◌≡◌, ℕ, zero, suc, ◌+◌, ◌<◌, ◌≤◌, List, [], ◌∷◌, ◌++◌, Bool, map, length, length-append, refl, sym, ap, ◌∙◌, subst, Some, ◌⊎◌, inl, inr}
use Rattle.std.specs.Prelude.{slice_get}
use Rattle.std.specs.List.{AllByRecursion}
use Rattle.std.proofs.lemmas.Option.{slice_get_within}
use Rattle.state_store.specs.Packed.{packed, unpacked, width_of, IsPacked}
use Rattle.state_store.specs.declared.table.Node.{Node}
use Rattle.state_store.specs.declared.table.Spot.{Spot}
use Rattle.state_store.specs.declared.table.Spot.TheVariants.{Known, Alone, Beside}
use Rattle.state_store.specs.own.Rows.{Block}
use Rattle.state_store.specs.own.Table.{Trees, AreTrees, IsSpot}
use Rattle.state_store.specs.own.Kept.{AreKept, IsKept}
use Rattle.state_store.specs.Store.{IsAbsent}
use Rattle.state_store.specs.Distinct.{AreDistinct}
use Rattle.state_store.proofs.published.PushedLaw.{pushed_at, pushed_before, pushed_last}
use Rattle.state_store.proofs.PackLaw.{width_some, width_few}

-- a state that stands at a place is what the row there stands for
pub row_of : (facts : ℕ) (rows : List (List ℕ)) (k : ℕ) (s : List Bool) → slice_get (map (unpacked facts) rows) k ≡ Some s → (row : List ℕ) × (slice_get rows k ≡ Some row) × (unpacked facts row ≡ s)
row_of facts [] k s at = absurd (cc)
row_of facts (row ∷ rows) zero s at = (row, refl, cc)
row_of facts (row ∷ rows) (suc k) s at = row_of facts rows k s at

pub state_of_row : (facts : ℕ) (rows : List (List ℕ)) (k : ℕ) (row : List ℕ) → slice_get rows k ≡ Some row → slice_get (map (unpacked facts) rows) k ≡ Some (unpacked facts row)
state_of_row facts [] k row at = absurd (cc)
state_of_row facts (r ∷ rows) zero row at = let e : r ≡ row = cc in ap (λ (xs : List ℕ). Some (unpacked facts xs)) e
state_of_row facts (r ∷ rows) (suc k) row at = state_of_row facts rows k row at

pub packed_at : (facts : ℕ) (rows : List (List ℕ)) (k : ℕ) (row : List ℕ) → AllByRecursion (IsPacked facts) rows → slice_get rows k ≡ Some row → IsPacked facts row
packed_at facts [] k row all at = absurd (cc)
packed_at facts (r ∷ rows) zero row all at = let e : r ≡ row = cc in subst (IsPacked facts) e all.0
packed_at facts (r ∷ rows) (suc k) row all at = packed_at facts rows k row all.1 at

-- a row that stands for a state is the state's row
pub own_row : (facts : ℕ) (rows : List (List ℕ)) (k : ℕ) (s : List Bool) → AllByRecursion (IsPacked facts) rows → slice_get (map (unpacked facts) rows) k ≡ Some s → slice_get rows k ≡ Some (packed (width_of facts) s)
own_row facts rows k s all at =
    let there = row_of facts rows k s at in
    there.1 ∙ ap Some (packed_at facts rows k there.0 all there.1 ∙ ap (packed (width_of facts)) there.2)

-- a state whose row is absent is absent
pub none_there : (facts : ℕ) (rows : List (List ℕ)) (row : List ℕ) → AllByRecursion (IsPacked facts) rows → IsPacked facts row → ((k : ℕ) → k < length rows → slice_get rows k ≡ Some row → ⊥) → IsAbsent (map (unpacked facts) rows) (unpacked facts row)
none_there facts rows row all is none k at =
    let there = own_row facts rows k (unpacked facts row) all at ∙ ap Some (sym is) in
    none k (slice_get_within rows k row there) there

-- where no two rows are equal no two states are
pub distinct : (facts : ℕ) (rows : List (List ℕ)) → AllByRecursion (IsPacked facts) rows → AreDistinct rows → AreDistinct (map (unpacked facts) rows)
distinct facts rows all apart i j s at at2 = apart i j (packed (width_of facts) s) (own_row facts rows i s all at) (own_row facts rows j s all at2)

-- ---- one more row

pub all_push : (facts : ℕ) (rows : List (List ℕ)) (row : List ℕ) → AllByRecursion (IsPacked facts) rows → IsPacked facts row → AllByRecursion (IsPacked facts) (rows ++ row ∷ [])
all_push facts [] row all is = (is, tt)
all_push facts (r ∷ rows) row all is = (all.0, all_push facts rows row all.1 is)

pub apart_push : (rows : List (List ℕ)) (row : List ℕ) → AreDistinct rows → ((k : ℕ) → k < length rows → slice_get rows k ≡ Some row → ⊥) → AreDistinct (rows ++ row ∷ [])
apart_push rows row apart none i j r at at2 = by (pushed_at rows row r i at) (pushed_at rows row r j at2)
  where
    by : (slice_get rows i ≡ Some r) ⊎ ((i ≡ length rows) × (r ≡ row)) → (slice_get rows j ≡ Some r) ⊎ ((j ≡ length rows) × (r ≡ row)) → i ≡ j
    by (inl a) (inl b) = apart i j r a b
    by (inl a) (inr b) = absurd (none i (slice_get_within rows i r a) (a ∙ ap Some b.1))
    by (inr a) (inl b) = absurd (none j (slice_get_within rows j r b) (b ∙ ap Some a.1))
    by (inr a) (inr b) = a.0 ∙ sym b.0

-- ---- what is kept

pub kept_none : (f n : ℕ) (block : Block) (froms acts : List ℕ) (table : Trees) → f ≤ 2147483647 → block.width ≡ width_of f → n ≤ block.most → block.most ≤ 4294967295 → block.rows ≡ [] → froms ≡ [] → acts ≡ [] → table.most ≡ block.most
    → ((w : ℕ) (rows : List (List ℕ)) → AreTrees w table.heads table.nodes rows 0) → IsKept f n block froms acts table
kept_none f n block froms acts table small w le most rows no_froms no_acts room trees =
    let none : length table.nodes ≡ 0 = (trees block.width []).all in
    let long : length block.rows ≡ 0 = ap (λ (xs : List (List ℕ)). length xs) rows in
    let some = width_some f in
    let few = width_few f small in
    record {
      facts = small;
      width = w;
      room = most;
      most = le;
      within = omega (arith, long);
      kept =
          record {
            some = omega (arith, w, some);
            few = omega (arith, w, few);
            within = omega (arith, long);
            room = room;
            apart = subst AreDistinct (sym rows) (λ i j row at. absurd (cc));
            all = none ∙ sym long;
            trees = subst (AreTrees block.width table.heads table.nodes block.rows) (sym none) (trees block.width block.rows);
          };
      packed = subst (AllByRecursion (IsPacked f)) (sym rows) tt;
      parents = ap length no_froms ∙ sym long;
      actions = ap length no_acts ∙ sym long;
    }

trees_pushed : (width : ℕ) (heads : List ℕ) (nodes : List Node) (rows : List (List ℕ)) (row : List ℕ) → length nodes ≡ length rows → AreTrees width heads nodes rows (length nodes) → AreTrees width heads nodes (rows ++ row ∷ []) (length nodes)
trees_pushed width heads nodes rows row all trees = record {
  all = trees.all;
  bits = trees.bits;
  zeros = trees.zeros;
  ones = trees.ones;
  begins = trees.begins;
  found = λ k r lt at. elim (pushed_at rows row r k at) [ inl h ↦ trees.found k r lt h | inr h ↦ absurd (let e = h.0 in omega (arith, e, lt, all)) ];
}

spot_pushed : (width : ℕ) (heads : List ℕ) (nodes : List Node) (rows : List (List ℕ)) (row : List ℕ) (spot : Spot) → IsSpot width heads nodes rows row spot → IsSpot width heads nodes (rows ++ row ∷ []) row spot
spot_pushed width heads nodes rows row (Known k) is = (is.0, pushed_before rows row row k is.1)
spot_pushed width heads nodes rows row Alone is = is
spot_pushed width heads nodes rows row (Beside node other bit) is = (is.0, is.1, is.2, (is.3.0, pushed_before rows row is.3.0 other is.3.1, is.3.2))

module _ (block now : Block) (table : Trees) (row : List ℕ) (kept : AreKept block table) (is : now ≡ record block { rows = block.rows ++ row ∷ [] }) where
  pub put_trees : AreTrees now.width table.heads table.nodes now.rows (length table.nodes)
  put_trees = subst (λ (b : Block). AreTrees b.width table.heads table.nodes b.rows (length table.nodes)) (sym is) (trees_pushed block.width table.heads table.nodes block.rows row kept.all kept.trees)

  pub put_apart : ((k : ℕ) → k < length block.rows → slice_get block.rows k ≡ Some row → ⊥) → AreDistinct now.rows
  put_apart none = subst (λ (b : Block). AreDistinct b.rows) (sym is) (apart_push block.rows row kept.apart none)

  pub put_spot : (spot : Spot) → IsSpot block.width table.heads table.nodes block.rows row spot → (r : List ℕ) → slice_get now.rows (length table.nodes) ≡ Some r → IsSpot now.width table.heads table.nodes now.rows r spot
  put_spot spot at r there =
      let last : slice_get now.rows (length table.nodes) ≡ Some row = ap (slice_get now.rows) kept.all ∙ ap (λ (b : Block). slice_get b.rows (length block.rows)) is ∙ pushed_last block.rows row in
      let e : row ≡ r = let s : Some row ≡ Some r = sym last ∙ there in cc in
      subst (λ (xs : List ℕ). IsSpot now.width table.heads table.nodes now.rows xs spot) e
      (subst (λ (b : Block). IsSpot b.width table.heads table.nodes b.rows row spot) (sym is) (spot_pushed block.width table.heads table.nodes block.rows row spot at))

  pub long_now : length now.rows ≡ length block.rows + 1
  long_now = ap (λ (b : Block). length b.rows) is ∙ length-append block.rows (row ∷ [])

  pub same_width : now.width ≡ block.width
  same_width = ap (λ (b : Block). b.width) is

  pub same_most : now.most ≡ block.most
  same_most = ap (λ (b : Block). b.most) is
