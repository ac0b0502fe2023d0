-- Commands that the first of some words names, and what their matches ask for.
use Rattle.std.proofs.Common.{◌≡◌, ◌∙◌, Bool, true, false, true≢false, List, [], ◌∷◌, map, Option, Some, None, is_some, slice_get, ap, sym, if◌then◌else◌, String, Global, string_bytes}
use Rattle.std.specs.Prelude.{unwrap_or}
use Rattle.clap.specs.Walk.{Row, Text}
use Rattle.clap.specs.Simple.{App, matches_of}
use Rattle.clap.specs.Takes.{takes}
use Rattle.requests.specs.Same.{IsSame}

-- a command that is a fixed one but for where its lists lie, where the matches of the fixed one say what is asked for
module _ {Seen : Type 0} (app fixed : App) (words : List Text) (seen_in : List Row → Option Seen) (same : IsSame app fixed) where
  -- one that takes the words asks for what the fixed one does
  pub asked : (rows : List Row) (o : Option Seen) → ((other : App) → IsSame app other → true ≡ takes other words) → ((other : App) → IsSame app other → rows ≡ matches_of other words) → o ≡ seen_in rows
      → o ≡ (if takes fixed words then seen_in (matches_of fixed words) else None)
  asked rows o taken found seen = seen ∙ ap seen_in (found fixed same) ∙ ap (λ (b : Bool). if b then seen_in (matches_of fixed words) else None) (taken fixed same)

  -- and one that refuses them asks for nothing
  pub unasked : ((other : App) → IsSame app other → false ≡ takes other words) → None ≡ (if takes fixed words then seen_in (matches_of fixed words) else None)
  unasked refused = ap (λ (b : Bool). if b then seen_in (matches_of fixed words) else None) (refused fixed same)

-- the command that the first word names
module _ {Name : Type 0} (named : Text → Option Name) (first : List Text → Option Name) (nothing : first [] ≡ None) (by_word : (word : Text) (words : List Text) → first (word ∷ words) ≡ named word) where
  pub no_words : (words : List (String Global)) → slice_get words 0 ≡ None → first (map string_bytes words) ≡ None
  no_words [] none = nothing
  no_words (x ∷ xs) none = absurd (true≢false (ap is_some none))

  pub by_first : (words : List (String Global)) (word : String Global) → slice_get words 0 ≡ Some word → first (map string_bytes words) ≡ named (string_bytes word)
  by_first [] word at = absurd (true≢false (sym (ap is_some at)))
  by_first (x ∷ xs) word at =
      let same : x ≡ word = ap (λ (o : Option (String Global)). unwrap_or o x) at in
      by_word (string_bytes x) (map string_bytes xs) ∙ ap (λ (w : String Global). named (string_bytes w)) same
