-- The words of trees: small letters, at least one.
use Rattle.std.specs.Prelude.{ℕ, Bool, true, false, ◌&&◌, not, nat_le, List, [], ◌∷◌}
use Rattle.std.specs.List.{list_all}
use Rattle.pd_sexp.specs.Bytes.{is_letter}
use Rattle.pd_sexp.specs.Tree.{Tree, word, list, Trees, no_trees, and_tree}

-- a byte of words that is no capital
abbrev pub is_small : ℕ → Bool
is_small b = is_letter b && not (nat_le 65 b && nat_le b 90)

-- at least one small letter, and nothing else
abbrev pub is_word : List ℕ → Bool
is_word [] = false
is_word (b ∷ bs) = is_small b && list_all is_small bs

-- whether each word of a tree is one
abbrev mutual
  pub has_words : Tree → Bool
  has_words (word at text) = is_word text
  has_words (list at items) = have_words items

  -- each word of some trees is one
  pub have_words : Trees → Bool
  have_words no_trees = true
  have_words (and_tree tree trees) = has_words tree && have_words trees
