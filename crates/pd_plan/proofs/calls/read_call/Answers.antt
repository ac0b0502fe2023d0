use Rattle.std.proofs.Common.{◌≡◌, ◌∙◌, ℕ, List, ◌∷◌, length, ap, sym, refl, subst, Some, None, Option, Ok, Err, Result}
use Rattle.std.specs.Prelude.{slice_get}
use Rattle.std.proofs.lemmas.Option.{slice_get_read}
use Rattle.std.proofs.lemmas.Bool.{eq-eqb, ne_eqb}
use Rattle.std.proofs.lemmas.Result.{err_from_is_err_and}
use Rattle.pd_model.specs.Names.{schema_names}
use Rattle.pd_model.specs.declared.calls.Call.{Call}
use Rattle.pd_model.specs.declared.parts.Parts.{Parts}
use Rattle.pd_model.specs.declared.schemas.Schema.{Schema}
use Rattle.pd_words.specs.First.{◌>>=◌, FailsWith}
use Rattle.pd_words.specs.Names.{number_of}
use Rattle.pd_words.specs.declared.named.Named.{Named}
use Rattle.pd_plan.specs.own.Answers.{fault_of}
use Rattle.pd_plan.specs.Fault.{Fault, arity}
use Rattle.pd_plan.specs.PlanFile.{arguments, call_of}
use Rattle.pd_plan.specs.declared.lists.WordList.{WordList}
use Rattle.pd_plan.proofs.calls.read_call.Goals as goal

-- a fault of the first reading is that of both
passed_on : {A B : Type 0} (fault : Option Fault) (read : Result A Fault) (next : A → Result B Fault) → FailsWith fault read → FailsWith fault (read >>= next)
passed_on None read next h = tt
passed_on (Some f) read next h = rw h refl

module _ (p : Parts) (l : WordList) (name : Named) (words : List Named) (number : ℕ) (schema : Schema) (is : l.words ≡ name ∷ words) (named : number_of name.name (schema_names p.schemas) ≡ Some number) (at : slice_get p.schemas number ≡ Some schema) where
  -- the call of a schema that was found
  called : length words ≡ length schema.parameters → call_of p l ≡ (arguments p schema.parameters words >>= λ objects. Ok (record { schema = number; objects = objects }))
  called same = rw (is, named, at, eq-eqb (length words) (length schema.parameters) same) refl

  uncalled : (length words ≡ length schema.parameters → ⊥) → call_of p l ≡ Err (arity l.at)
  uncalled other = rw (is, named, at, ne_eqb (length words) (length schema.parameters) other) refl

pub returns-then-words-kinds : goal.returns-then-words-kinds
returns-then-words-kinds c =
    let at = slice_get_read _ _ _ _ refl c.in-Some-get.ensures.lookup.3.0 c.in-Some-get.ensures.lookup.1 in
    uncalled c.args.p.now c.args.list.now c.in-Some.name.now c.in-Some.words.now c.in-Some-number.number c.in-Some-get.schema.now (sym c.as_slice.ensures ∙ c.in-Some.ensures.cases.0)
    (sym (c.requires.schemas c.in-Some.name.now.name) ∙ sym c.in-Some-number.ensures) (rw (c.as_slice-2.ensures, c.schemas.ensures.schemas) at at) (λ same. c.if-words-kinds.true (same ∙ sym (ap length c.as_slice-kinds.ensures)))

pub returns-in_err-objects : goal.returns-in_err-objects
returns-in_err-objects c =
    let at = slice_get_read _ _ _ _ refl c.in-Some-get.ensures.lookup.3.0 c.in-Some-get.ensures.lookup.1 in
    let call = called c.args.p.now c.args.list.now c.in-Some.name.now c.in-Some.words.now c.in-Some-number.number c.in-Some-get.schema.now (sym c.as_slice.ensures ∙ c.in-Some.ensures.cases.0)
    (sym (c.requires.schemas c.in-Some.name.now.name) ∙ sym c.in-Some-number.ensures) (rw (c.as_slice-2.ensures, c.schemas.ensures.schemas) at at) (c.if-words-kinds.false ∙ ap length c.as_slice-kinds.ensures) in
    let e = err_from_is_err_and c.from_residual.result c.from_residual.ensures.1 in
    rw (e.1, e.2) (subst (λ (read : Result Call Fault). FailsWith (fault_of c.in_err-objects.field-0.0) read) (sym call) (passed_on _ _ _ (rw c.as_slice-kinds.ensures at c.in_err-objects.ensures)))

pub returns : goal.returns
returns c =
    let at = slice_get_read _ _ _ _ refl c.in-Some-get.ensures.lookup.3.0 c.in-Some-get.ensures.lookup.1 in
    let objects = rw c.as_slice-kinds.ensures at c.in_ok-objects.ensures in
    called c.args.p.now c.args.list.now c.in-Some.name.now c.in-Some.words.now c.in-Some-number.number c.in-Some-get.schema.now (sym c.as_slice.ensures ∙ c.in-Some.ensures.cases.0)
    (sym (c.requires.schemas c.in-Some.name.now.name) ∙ sym c.in-Some-number.ensures) (rw (c.as_slice-2.ensures, c.schemas.ensures.schemas) at at) (c.if-words-kinds.false ∙ ap length c.as_slice-kinds.ensures)
    ∙ rw objects refl
