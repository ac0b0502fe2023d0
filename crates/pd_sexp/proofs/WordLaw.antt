-- The words of a file are small letters.
use Rattle.std.proofs.Common.{◌≡◌, ◌≢◌, ℕ, ◌+◌, Bool, true, false, cond, ◌&&◌, List, [], ◌∷◌, length, map, refl, ap, ◌∙◌, arith}
use Rattle.std.proofs.lemmas.Bool.{and_parts}
use Rattle.std.specs.Prelude.{nat_le, IsTrue}
use Rattle.std.specs.List.{list_all}
use Rattle.pd_sexp.specs.Bytes.{is_letter, lowered}
use Rattle.pd_sexp.specs.Tree.{Tree, word, list, Trees, no_trees, and_tree}
use Rattle.pd_sexp.specs.File.{IsTree, AreItems}
use Rattle.pd_sexp.specs.Fault.{Reads}
use Rattle.std.specs.Prelude.{IfOk, Result, Ok, Err}
use Rattle.pd_sexp.specs.View.{view}
use Rattle.pd_sexp.specs.declared.tree.Tree as read
use Rattle.pd_sexp.specs.declared.tree.TreeError.{TreeError}
use Rattle.pd_sexp.specs.Word.{is_small, is_word, has_words, have_words}
use Rattle.std.proofs.lemmas.Bool.Decides.{nat_tests}

small_lowered : (b : ℕ) → is_letter b ≡ true → is_small (lowered b) ≡ true
small_lowered b is = by_test (nat_le 65 b && nat_le b 90) refl
  where
    by_test : (t : Bool) → (nat_le 65 b && nat_le b 90) ≡ t → is_small (cond t (b + 32) b) ≡ true
    by_test true capital = grind (arith, nat_tests, capital)
    by_test false e = rw (is, e) refl

all_small : (bytes : List ℕ) → list_all is_letter bytes ≡ true → list_all is_small (map lowered bytes) ≡ true
all_small [] is = refl
all_small (b ∷ bs) is =
    let parts = and_parts (is_letter b) (list_all is_letter bs) is in
    rw (small_lowered b (parts.0), all_small bs (parts.1)) refl

word_is : (bytes : List ℕ) → bytes ≢ [] → list_all is_letter bytes ≡ true → is_word (map lowered bytes) ≡ true
word_is [] some is = absurd (some refl)
word_is (b ∷ bs) some is = all_small (b ∷ bs) is

mutual
  tree_words : (tree : Tree) (offset : ℕ) (bytes : List ℕ) → IsTree tree offset bytes → has_words tree ≡ true
  tree_words (word at text) offset bytes h = ap is_word (h.3) ∙ word_is bytes (h.1) (h.2)
  tree_words (list at items) offset bytes h = items_words items (offset + 1) (h.1.0) (h.1.2)

  items_words : (trees : Trees) (offset : ℕ) (bytes : List ℕ) → AreItems trees offset bytes → have_words trees ≡ true
  items_words no_trees offset bytes h = refl
  items_words (and_tree tree trees) offset bytes h =
      rw (tree_words tree (offset + length h.0) (h.1) (h.5), items_words trees (offset + length h.0 + length h.1) (h.2) (h.7)) refl

-- each word of the tree that is read is small letters
pub reads_words : (bytes : List ℕ) (tree : Tree) → Reads bytes tree → has_words tree ≡ true
reads_words bytes tree r = tree_words tree (length r.file.before) r.file.middle r.file.is_tree

pub words_of : (bytes : List ℕ) (r : Result read.Tree TreeError) → IfOk r (λ t. Reads bytes (view t)) → IfOk r (λ t. IsTrue (has_words (view t)))
words_of bytes (Ok t) h = reads_words bytes (view t) h
words_of bytes (Err e) h = tt
