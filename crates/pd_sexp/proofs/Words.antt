-- A word that ended is an item of its list, and the byte after it is read outside words.
use Rattle.std.proofs.Common.{◌≡◌, ◌==◌, ℕ, Bool, true, false, if◌then◌else◌, List, [], ◌∷◌, ◌++◌, Some, Ok, Err, Result, refl, sym, ap, subst, ◌∙◌}
use Rattle.pd_sexp.specs.Bytes.{is_letter, lowered, semicolon}
use Rattle.pd_sexp.specs.Tree as defs
use Rattle.pd_sexp.specs.Lexer as lexing
use Rattle.pd_sexp.specs.Progress as at
use Rattle.pd_sexp.specs.own.Reader.{place_of, state_from, Steps, TakesToken}
use Rattle.pd_sexp.specs.declared.lexer.Lexed.TheVariants.{Ended}
use Rattle.pd_sexp.specs.declared.reader.Place.{Place}
use Rattle.pd_sexp.specs.declared.tree.TreeError.{TreeError}
use Rattle.pd_sexp.specs.declared.tree.TreeError.TheVariants.{Syntax, Deep, Memory}
use Rattle.pd_sexp.proofs.published.WordEnds.{by_token, by_none, ended}

module _ (frame : at.Frame) (outer : List at.Frame) (start : ℕ) (text : List ℕ) (o b : ℕ) where
  abbrev inside : at.Place
  inside = at.inside (at.with_item frame (defs.word start text)) outer

  leaves : is_letter b ≡ false → at.step (at.word frame outer start text) o b ≡ at.outside inside o b
  leaves unlike = ap (λ t. if t then Some (at.word frame outer start (text ++ lowered b ∷ [])) else at.outside inside o b) unlike

  token_step : is_letter b ≡ false → lexing.is_token b ≡ true → at.step (at.word frame outer start text) o b ≡ at.token inside o b
  token_step unlike is = leaves unlike ∙ by_token (Some (at.gap inside)) (Some (at.comment inside)) (at.token inside o b) b is

  takes : (new : at.State) (result : Result (Unit {0}) TreeError) → at.step (at.word frame outer start text) o b ≡ at.token inside o b → TakesToken inside o b new result → Steps (at.word frame outer start text) o b new result
  takes new (Ok done) same h = (same ∙ h.0, h.1)
  takes new (Err (Syntax place)) same h = (h.0, same ∙ h.1)
  takes new (Err (Deep place)) same h = (h.0, h.1, (h.2.0, same ∙ h.2.1))
  takes new (Err Memory) same h = tt

  -- the byte is a token
  pub then_token : (s : lexing.Standing) (place : Place) (there : at.Place) (new : at.State) (result : Result (Unit {0}) TreeError) → Ended start text true ≡ lexing.lexed s b
      → there ≡ at.inside (at.with_item frame (defs.word start text)) outer → TakesToken there o b new result → Steps (state_from s place frame outer) o b new result
  then_token s place there new result h same taken =
      let e = ended s b start text true h in
      let here = subst (λ p. TakesToken p o b new result) same taken in
      subst (λ t. Steps (state_from t place frame outer) o b new result) (sym e.0) (takes new result (token_step e.1 (sym e.2)) here)

  none_step : (next : Place) (after : at.Frame) (round : List at.Frame) → is_letter b ≡ false → lexing.is_token b ≡ false → place_of next after round ≡ inside
      → at.step (at.word frame outer start text) o b ≡ Some (state_from (lexing.outside b) next after round)
  none_step next after round unlike none same = leaves unlike ∙ by_none (Some (at.gap inside)) (Some (at.comment inside)) (at.token inside o b) b none ∙ by_semicolon (b == semicolon)
    where
      by_semicolon : (t : Bool) → (if t then Some (at.comment inside) else Some (at.gap inside)) ≡ Some (state_from (if t then lexing.comment else lexing.gap) next after round)
      by_semicolon true = ap (λ p. Some (at.comment p)) (sym same)
      by_semicolon false = ap (λ p. Some (at.gap p)) (sym same)

  shallow : lexing.is_token b ≡ false → at.IsTooDeep (at.word frame outer start text) b → ⊥
  shallow none deep = let never : true ≡ false = subst (λ n. lexing.is_token n ≡ false) deep.1 none in cc

  after_none : (next : Place) (after : at.Frame) (round : List at.Frame) → is_letter b ≡ false → lexing.is_token b ≡ false → place_of next after round ≡ inside
      → Steps (at.word frame outer start text) o b (state_from (lexing.next (lexing.word start text) b) next after round) (Ok tt)
  after_none next after round unlike none same =
      let outside_word : lexing.next (lexing.word start text) b ≡ lexing.outside b = rw unlike refl in
      (none_step next after round unlike none same ∙ ap (λ t. Some (state_from t next after round)) (sym outside_word), shallow none)

  -- the byte is a blank, or begins a comment
  pub then_none : (s stands : lexing.Standing) (place next : Place) (after : at.Frame) (round : List at.Frame) → Ended start text false ≡ lexing.lexed s b → stands ≡ lexing.next s b
      → place_of next after round ≡ at.inside (at.with_item frame (defs.word start text)) outer → Steps (state_from s place frame outer) o b (state_from stands next after round) (Ok tt)
  then_none s stands place next after round h goes same =
      let e = ended s b start text false h in
      let whole = subst (λ t. Steps (state_from t place frame outer) o b (state_from (lexing.next t b) next after round) (Ok tt)) (sym e.0) (after_none next after round e.1 (sym e.2) same) in
      subst (λ t. Steps (state_from s place frame outer) o b (state_from t next after round) (Ok tt)) (sym goes) whole
