-- Readers of a list of words.
use Rattle.std.proofs.Common.{◌≡◌, ◌∙◌, true, false, List, [], ◌∷◌, map, refl, sym, ap}
use Rattle.std.specs.Borrow.{Bor}
use Rattle.std.specs.List.{list_any}
use Rattle.clap.specs.Values.{same_text}
use Rattle.clap.specs.ValueTests.{accepts}
use Rattle.clap.specs.Walk.{Text, texts}
use Rattle.clap.specs.declared.builder.value_parser.ValueParser.{ValueParser}
use Rattle.clap.specs.declared.builder.value_parser.ValueParser.TheVariants as reader
use Rattle.clap.proofs.WalkLemmas.{list_any-map}
use Rattle.requests.specs.Arguments.{TakesWords}
use Rattle.requests.specs.Same.{reader_anywhere, somewhere}

-- one of the words passes
pub one_passes : (words : List Text) (by : ValueParser) (t : Text) → TakesWords words by → list_any (λ w. same_text false w t) words ≡ true → accepts false by t ≡ true
one_passes words (reader.Names names) t h e = list_any-map (λ w. same_text false w t) (λ n. n.now) names.now ∙ (ap (list_any (λ w. same_text false w t)) h ∙ e)
one_passes words _ t h e = absurd h

norm_texts : (xs : List (Bor Text)) → map (λ (n : Bor Text). somewhere n.now) xs ≡ map somewhere (texts xs)
norm_texts [] = refl
norm_texts (x ∷ xs) = ap (λ (rest : List (Bor Text)). somewhere x.now ∷ rest) (norm_texts xs)

-- two readers of one list are the same but for where it lies
pub norm_lists : (words : List Text) (p q : ValueParser) → TakesWords words p → TakesWords words q → reader_anywhere p ≡ reader_anywhere q
norm_lists words (reader.Names xs) (reader.Names ys) h k =
    ap (λ (ns : List (Bor Text)). reader.Names (somewhere ns)) (norm_texts xs.now ∙ (ap (map somewhere) (h ∙ sym k) ∙ sym (norm_texts ys.now)))
norm_lists words (reader.Names xs) q h k = absurd k
norm_lists words p q h k = absurd h
