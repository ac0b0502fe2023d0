-- A word that ended is the next one of its list, and the byte after it is read outside words.
use Rattle.std.proofs.Common.{◌≡◌, ◌==◌, ℕ, Bool, true, false, if◌then◌else◌, List, [], ◌∷◌, ◌++◌, Ok, Result, sym, ap, ◌∙◌, refl}
use Rattle.pd_sexp.specs.Bytes.{is_letter, lowered, semicolon}
use Rattle.pd_sexp.specs.Lexer as lexing
use Rattle.pd_sexp.specs.declared.lexer.Lexed.TheVariants.{Ended}
use Rattle.pd_sexp.proofs.published.WordEnds.{by_token, by_none, ended}
use Rattle.pd_words.specs.Typed.{named}
use Rattle.pd_words.specs.declared.named.Named.{Named}
use Rattle.pd_plan.specs.Fault.{Fault}
use Rattle.pd_plan.specs.own.Progress as at
use Rattle.pd_plan.specs.own.Reader.{place_of, state_from}
use Rattle.pd_plan.specs.declared.lists.WordList.{WordList}
use Rattle.pd_plan.specs.declared.reader.Place.{Place}

module _ (done : List WordList) (start : ℕ) (words : List Named) (first : ℕ) (text : List ℕ) (o b : ℕ) where
  abbrev inside : at.Place
  inside = at.inside start (words ++ named first text ∷ [])

  abbrev reached : at.State → Result at.State Fault
  reached state = Ok state

  leaves : is_letter b ≡ false → at.step (at.word done start words first text) o b ≡ at.outside done inside o b
  leaves unlike = ap (λ t. if t then reached (at.word done start words first (text ++ lowered b ∷ [])) else at.outside done inside o b) unlike

  -- the byte is a token
  pub then_token : (s : lexing.Standing) (place : Place) (there : at.Place) → Ended first text true ≡ lexing.lexed s b → there ≡ at.inside start (words ++ named first text ∷ [])
      → at.step (state_from done s place start words) o b ≡ at.token done there o b
  then_token s place there h same =
      let e = ended s b first text true h in
      ap (λ t. at.step (state_from done t place start words) o b) e.0 ∙ leaves e.1 ∙ by_token (reached (at.gap done inside)) (reached (at.comment done inside)) (at.token done inside o b) b (sym e.2) ∙ ap (λ p. at.token done p o b) (sym same)

  none_step : (next : Place) (later : ℕ) (more : List Named) → is_letter b ≡ false → lexing.is_token b ≡ false → place_of next later more ≡ inside
      → at.step (at.word done start words first text) o b ≡ Ok (state_from done (lexing.outside b) next later more)
  none_step next later more unlike none same = leaves unlike ∙ by_none (reached (at.gap done inside)) (reached (at.comment done inside)) (at.token done inside o b) b none ∙ by_semicolon (b == semicolon)
    where
      by_semicolon : (t : Bool) → (if t then reached (at.comment done inside) else reached (at.gap done inside)) ≡ reached (state_from done (if t then lexing.comment else lexing.gap) next later more)
      by_semicolon true = ap (λ p. reached (at.comment done p)) (sym same)
      by_semicolon false = ap (λ p. reached (at.gap done p)) (sym same)

  -- the byte is a blank, or begins a comment
  pub then_none : (s stands : lexing.Standing) (place next : Place) (later : ℕ) (more : List Named) → Ended first text false ≡ lexing.lexed s b → stands ≡ lexing.next s b
      → place_of next later more ≡ at.inside start (words ++ named first text ∷ []) → at.step (state_from done s place start words) o b ≡ Ok (state_from done stands next later more)
  then_none s stands place next later more h goes same =
      let e = ended s b first text false h in
      let after_word : lexing.next (lexing.word first text) b ≡ lexing.outside b = rw e.1 refl in
      let outside_word : stands ≡ lexing.outside b = goes ∙ ap (λ t. lexing.next t b) e.0 ∙ after_word in
      ap (λ t. at.step (state_from done t place start words) o b) e.0 ∙ none_step next later more e.1 (sym e.2) same ∙ ap (λ t. reached (state_from done t next later more)) (sym outside_word)
