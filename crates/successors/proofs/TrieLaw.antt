-- A trie without nodes.
use Rattle.std.proofs.Common.{arith, ◌≡◌, ℕ, ◌<◌, List, [], ◌∷◌, length, sym, ap, ◌∙◌}
use Rattle.std.specs.Prelude.{slice_index}
use Rattle.gt_core.specs.Task.{Task}
use Rattle.successors.specs.Trie.{Branches, IsTrie}

pub flat_trie : (task : Task) (t : Branches) → t.lits ≡ [] → t.skips ≡ [] → t.froms ≡ length t.acts ∷ [] → length t.acts ≡ length task.actions → ((p : ℕ) → p < length t.acts → slice_index t.acts p ≡ p) → IsTrie task t
flat_trie task t lits skips froms long each =
    let none : length t.lits ≡ 0 = ap (λ (xs : List ℕ). length xs) lits in
    let last : slice_index t.froms (length t.lits) ≡ length t.acts = ap (slice_index t.froms) none ∙ ap (λ (xs : List ℕ). slice_index xs 0) froms in
    record {
      skips = ap (λ (xs : List ℕ). length xs) skips ∙ sym none;
      froms = (let one : length t.froms ≡ 1 = ap (λ (xs : List ℕ). length xs) froms in omega (arith, one, none));
      first = (let f : slice_index t.froms 0 ≡ length t.acts = ap (λ (xs : List ℕ). slice_index xs 0) froms in omega (arith, f));
      nodes = λ i lt. absurd (omega (arith, lt, none));
      acts = λ p lt. (let e = each p lt in omega (arith, e, lt, long));
      all = λ a lt. (a, omega (arith, last, lt, long), each a (omega (arith, lt, long)));
      needs = λ i lt. absurd (omega (arith, lt, none));
    }
